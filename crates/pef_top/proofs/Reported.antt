-- A script that was read within its limits, and what was written of it.
use Rattle.std.proofs.Common.{◌≡◌, ℕ, ◌≤◌, List, length, Option, Some, None, Result, Ok, option_map, option_and_then, refl, ap, sym, subst, ◌∙◌, arith}
use Rattle.std.proofs.lemmas.Bool.Decides.{nat_tests}
use Rattle.std.proofs.lemmas.List.{length-map}
use Rattle.pef_model.specs.Script.{Script}
use Rattle.pef_script.specs.declared.fault.ScriptFault.{ScriptFault}
use Rattle.pef_script.specs.Line.{ReadLine}
use Rattle.pef_script.specs.Setting.{ok_of}
use Rattle.pef_script.specs.Script.{ReadScript, script_or_fault, left_script, script_of}
use Rattle.pef_top.specs.declared.limits.Limit.{Limit}
use Rattle.pef_top.specs.declared.outcome.TheConstants.{SCRIPT_LIMIT}
use Rattle.pef_top.specs.Limits.{limit_of, limit_in, checked}
use Rattle.pef_top.specs.Text.{WroteReport, WroteReportPart}
use Rattle.pef_top.specs.Top.{WritesReport, BeginsReport, IsReported, IsBegun}

-- what is read is the script of a run
script_is : (text : List ℕ) (s : ReadScript) → script_or_fault text ≡ Ok s → script_of text ≡ Some (left_script s)
script_is text s read = ap (λ (r : Result ReadScript ScriptFault). option_map left_script (ok_of r)) read

none_passed : (found : Option Limit) → checked found ≡ Ok tt → found ≡ None
none_passed None e = refl
none_passed (Some passed) e = absurd (cc)

-- it passes no limit
limit_none : (text : List ℕ) (s : ReadScript) → length text ≤ SCRIPT_LIMIT → script_or_fault text ≡ Ok s → checked (limit_of (length s.lines) s.config) ≡ Ok tt → limit_in text ≡ None
limit_none text s short read within =
    let count : length (left_script s).lines ≡ length s.lines = length-map s.lines (λ (l : ReadLine). l.line) in
    let own : limit_of (length (left_script s).lines) s.config ≡ None = ap (λ (n : ℕ). limit_of n s.config) count ∙ none_passed (limit_of (length s.lines) s.config) within in
    let by_script : option_and_then (λ (script : Script). limit_of (length script.lines) script.config) (script_of text) ≡ None =
    ap (option_and_then (λ (script : Script). limit_of (length script.lines) script.config)) (script_is text s read) ∙ own in
    grind (arith, nat_tests, short, by_script)

-- its report was written
pub reported : (text old new : List ℕ) (s : ReadScript) → length text ≤ SCRIPT_LIMIT → script_or_fault text ≡ Ok s → checked (limit_of (length s.lines) s.config) ≡ Ok tt →
    WroteReport (left_script s) old new → IsReported text old new
reported text old new s short read within wrote =
    record { limit = limit_none text s short read within; report = subst (λ (found : Option Script). WritesReport found old new) (sym (script_is text s read)) wrote }

-- or a first part of it
pub begun : (text old new : List ℕ) (s : ReadScript) → length text ≤ SCRIPT_LIMIT → script_or_fault text ≡ Ok s → checked (limit_of (length s.lines) s.config) ≡ Ok tt →
    WroteReportPart (left_script s) old new → IsBegun text old new
begun text old new s short read within wrote =
    record { limit = limit_none text s short read within; report = subst (λ (found : Option Script). BeginsReport found old new) (sym (script_is text s read)) wrote }
