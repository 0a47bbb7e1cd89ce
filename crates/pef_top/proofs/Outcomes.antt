-- The outcome of a fault, by what is known of the fault.
use Rattle.std.proofs.Common.{◌≡◌, ◌≢◌, ℕ, ◌≤◌, List, length, Option, Some, None, Result, Ok, Err, option_map, refl, ap, sym, ◌∙◌, arith}
use Rattle.std.proofs.lemmas.Bool.Decides.{nat_tests}
use Rattle.std.proofs.lemmas.Option.{same_Some}
use Rattle.pef_io.specs.Cause.{Rose}
use Rattle.pef_top.specs.declared.fault.RunFault.{RunFault}
use Rattle.pef_top.specs.declared.fault.RunFault.TheVariants as fault
use Rattle.pef_top.specs.declared.limits.Limit.{Limit}
use Rattle.pef_top.specs.declared.limits.Limit.TheVariants as limit
use Rattle.pef_top.specs.declared.outcome.TheConstants.{SCRIPT_LIMIT}
use Rattle.pef_top.specs.declared.outcome.RunOutcome.{RunOutcome}
use Rattle.pef_model.specs.Script.{Script}
use Rattle.pef_script.specs.declared.fault.ScriptFault.{ScriptFault}
use Rattle.pef_script.specs.Setting.{ok_of}
use Rattle.pef_script.specs.Script.{ReadScript, script_or_fault, err_of, line_fault, left_script, script_of}
use Rattle.pef_top.specs.Fault.{outcome_of, IsFault}
use Rattle.pef_top.specs.Limits.{limit_in}
use Rattle.pef_top.specs.Outcome.{plain, script_fault, limit_passed, IsOutcome}
use Rattle.pef_top.specs.Input.{Took, TookAll}
use Rattle.pef_top.specs.Top.{WritesReport, IsReported, told_fault, IsNoScript, TookNoScript, Passes, Answers, outcome_by, due}

-- the status of a limit
passed_six : (passed : Limit) → (limit_passed passed).status ≡ 6
passed_six limit.Script = refl
passed_six (limit.Commands count) = refl
passed_six (limit.Frames bytes) = refl
passed_six (limit.Pages bytes) = refl

-- a run that fails by a fault
abbrev pub fails_by : RunFault → Result (Unit {0}) RunFault
fails_by e = Err e

-- status 1 is that of a faulty line
pub at_one : (P : RunOutcome → Type 0) (e : RunFault) → ((line : ℕ) → (fails_by e ≡ fails_by (fault.Script line)) → P (script_fault line)) → (outcome_of e).status ≡ 1 → P (outcome_of e)
at_one P (fault.Script line) faulty one = faulty line refl
at_one P fault.Read faulty one = absurd (omega (arith, one))
at_one P fault.Write faulty one = absurd (omega (arith, one))
at_one P fault.Memory faulty one = absurd (omega (arith, one))
at_one P (fault.Limit passed) faulty one = absurd (omega (arith, one, passed_six passed))

-- status 4 is that of a failed write
pub at_four : {B : Type 0} (e : RunFault) → ((fails_by e ≡ fails_by fault.Write) → B) → (outcome_of e).status ≡ 4 → B
at_four (fault.Script line) wrote four = absurd (omega (arith, four))
at_four fault.Read wrote four = absurd (omega (arith, four))
at_four fault.Write wrote four = wrote refl
at_four fault.Memory wrote four = absurd (omega (arith, four))
at_four (fault.Limit passed) wrote four = absurd (omega (arith, four, passed_six passed))

-- each fault has an outcome
pub fault_outcome : (e : RunFault) → IsFault e → IsOutcome (outcome_of e)
fault_outcome (fault.Script line) over = record { known = omega arith; fault = λ one. refl; limit = λ six. absurd (omega (arith, six)); other = λ n m. absurd (n refl) }
fault_outcome fault.Read over = record { known = omega arith; fault = λ one. absurd (omega (arith, one)); limit = λ six. absurd (omega (arith, six)); other = λ n m. refl }
fault_outcome fault.Write over = record { known = omega arith; fault = λ one. absurd (omega (arith, one)); limit = λ six. absurd (omega (arith, six)); other = λ n m. refl }
fault_outcome fault.Memory over = record { known = omega arith; fault = λ one. absurd (omega (arith, one)); limit = λ six. absurd (omega (arith, six)); other = λ n m. refl }
fault_outcome (fault.Limit passed) over = record {
  known = omega (arith, passed_six passed);
  fault = λ one. absurd (omega (arith, one, passed_six passed));
  limit = λ six. record { passed = passed; is = refl; over = over };
  other = λ n m. absurd (m (passed_six passed));
}

-- what has a fault is no script, and so passes no limit but the first
no_script : (text : List ℕ) (f : ScriptFault) → line_fault text ≡ Some f → script_of text ≡ None
no_script text f = of (script_or_fault text)
  where
    of : (read : Result ReadScript ScriptFault) → err_of read ≡ Some f → option_map left_script (ok_of read) ≡ None
    of (Ok script) e = absurd (cc)
    of (Err other) e = refl

-- what is a script has no fault
pub no_fault : (text : List ℕ) (script : Script) → script_of text ≡ Some script → line_fault text ≡ None
no_fault text script = of (script_or_fault text)
  where
    of : (read : Result ReadScript ScriptFault) → option_map left_script (ok_of read) ≡ Some script → err_of read ≡ None
    of (Ok same) e = refl
    of (Err other) e = absurd (cc)

-- what is due for a text that is no script
due_fault : (text : List ℕ) (outcome : RunOutcome) → IsNoScript text outcome → due text ≡ outcome
due_fault text outcome none = of (line_fault text) refl none.fault
  where
    of : (found : Option ScriptFault) → line_fault text ≡ found → option_map told_fault found ≡ Some outcome → due text ≡ outcome
    of None is told = absurd (cc)
    of (Some f) is told =
        let script : script_of text ≡ None = no_script text f is in
        let within : limit_in text ≡ None = grind (arith, nat_tests, none.limit, script) in
        ap (λ (l : Option Limit). outcome_by l (line_fault text)) within ∙ ap (outcome_by None) is ∙ same_Some (told_fault f) outcome told

-- and for one whose report was written
pub due_reported : (text old new : List ℕ) → IsReported text old new → due text ≡ plain 0
due_reported text old new done = of (script_of text) refl done.report
  where
    of : (found : Option Script) → script_of text ≡ found → WritesReport found old new → due text ≡ plain 0
    of None is report = absurd report
    of (Some script) is report = ap (λ (l : Option Limit). outcome_by l (line_fault text)) done.limit ∙ ap (outcome_by None) (no_fault text script is)

-- and for one that passes a limit
pub due_passes : (text : List ℕ) (outcome : RunOutcome) → option_map limit_passed (limit_in text) ≡ Some outcome → due text ≡ outcome
due_passes text outcome is = of (limit_in text) refl
  where
    of : (found : Option Limit) → limit_in text ≡ found → due text ≡ outcome
    of None none = absurd (cc (rw none at is))
    of (Some passed) some = rw some (cc (rw some at is))

-- a text within limit 1 was taken up to its end, and so in time
took_all : (ended : Type 0) (before after text : List ℕ) → length text ≤ SCRIPT_LIMIT → TookAll ended before after text → Took ended before after text
took_all ended before after text short took = record { taken = took.taken; end = λ n. took.end; most = omega (arith, short) }

-- the outcome of a fault is the one due
pub fault_due : (e : RunFault) (ended : Type 0) (before after : List ℕ) (reads reads_now writes writes_now : ℕ) →
    ((line : ℕ) → (fails_by e ≡ fails_by (fault.Script line)) → TookNoScript ended before after (script_fault line)) → ((fails_by e ≡ fails_by fault.Read) → Rose reads reads_now) → ((fails_by e ≡ fails_by fault.Write) → Rose writes writes_now) →
    ((passed : Limit) → (fails_by e ≡ fails_by (fault.Limit passed)) → Passes ended before after (limit_passed passed)) →
    ¬ (Rose reads reads_now) → ¬ (Rose writes writes_now) → (outcome_of e).status ≢ 5 → Answers ended before after (outcome_of e)
fault_due (fault.Script line) ended before after reads reads_now writes writes_now script read write limit no_read no_write memory =
    let at = script line refl in
    record { text = at.text; took = took_all ended before after at.text at.none.limit at.took; due = sym (due_fault at.text (script_fault line) at.none) }
fault_due fault.Read ended before after reads reads_now writes writes_now script read write limit no_read no_write memory = absurd (no_read (read refl))
fault_due fault.Write ended before after reads reads_now writes writes_now script read write limit no_read no_write memory = absurd (no_write (write refl))
fault_due fault.Memory ended before after reads reads_now writes writes_now script read write limit no_read no_write memory = absurd (memory refl)
fault_due (fault.Limit passed) ended before after reads reads_now writes writes_now script read write limit no_read no_write memory =
    let at = limit passed refl in
    record { text = at.text; took = at.took; due = sym (due_passes at.text (limit_passed passed) at.past) }

-- a fault that is not a failed read has not the status of one
pub not_three : (e : RunFault) {B : Type 0} → (((fails_by e ≡ fails_by fault.Read) → ⊥) → B) → (outcome_of e).status ≢ 3 → B
not_three (fault.Script line) so three = so (λ is. absurd (cc))
not_three fault.Read so three = absurd (three refl)
not_three fault.Write so three = so (λ is. absurd (cc))
not_three fault.Memory so three = so (λ is. absurd (cc))
not_three (fault.Limit passed) so three = so (λ is. absurd (cc))

-- and one that is not a failed write not that of one
pub not_four : (e : RunFault) {B : Type 0} → ((e ≢ fault.Write) → B) → (outcome_of e).status ≢ 4 → B
not_four (fault.Script line) so four = so (λ is. absurd (cc))
not_four fault.Read so four = so (λ is. absurd (cc))
not_four fault.Write so four = absurd (four refl)
not_four fault.Memory so four = so (λ is. absurd (cc))
not_four (fault.Limit passed) so four = so (λ is. absurd (cc))
