-- The text of a run, one line of the script after another.
use Rattle.std.proofs.Common.{◌≡◌, ℕ, List, [], ◌∷◌, ◌++◌, reverse, ap, sym, subst, ◌∙◌, append_assoc, append-nil}
use Rattle.std.proofs.lemmas.List.{reverse-append}
use Rattle.std.specs.List.{flat_map}
use Rattle.std.proofs.lemmas.Grind.{flat_map-append}
use Rattle.pef_model.specs.declared.command.Cmd.{Cmd}
use Rattle.pef_model.specs.declared.entry.Answer.{Answer}
use Rattle.pef_model.specs.Event.{Event}
use Rattle.pef_model.specs.Plan.{Plan}
use Rattle.pef_model.specs.Report.{entry_line}
use Rattle.pef_model.specs.Run.{entry_after, with_directive, run_after}
use Rattle.pef_model.specs.Script.{Line}
use Rattle.pef_model.proofs.Runs.{done}
use Rattle.pef_io.specs.Sink.{AppendsPrefix}
use Rattle.pef_io.proofs.SinkLemmas.{AppendsPrefix-append, AppendsPrefix-after}
use Rattle.pef_report.specs.Text.{line_text}
use Rattle.pef_top.specs.Text.{text_of}

-- the line of an entry that a line makes
pub line_text-entry : (plan : Plan) (past : List Event) (line same : Line) (cmd : Cmd) (answer : Answer) → line ≡ same → answer ≡ (entry_after plan past same cmd).trace.answer →
    line_text line.number line.cpu cmd answer ≡ entry_line (entry_after plan past same cmd)
line_text-entry plan past line same cmd answer view answered = ap (λ (l : Line). line_text l.number l.cpu cmd answer) view ∙ ap (line_text same.number same.cpu cmd) answered

-- what follows a history adds to its text
pub text-append : (block past : List Event) → text_of (block ++ past) ≡ text_of past ++ text_of block
text-append block past = ap (flat_map entry_line) (reverse-append block past) ∙ flat_map-append entry_line (reverse past) (reverse block)

-- one more entry adds its line
text-more : (e : Event) (past : List Event) → text_of (e ∷ past) ≡ text_of past ++ entry_line e
text-more e past = text-append (e ∷ []) past ∙ ap (λ (text : List ℕ). text_of past ++ text) (append-nil (entry_line e))

-- after a history's text the line of one more entry makes its text with it
pub written_more : (start old new : List ℕ) (e : Event) (past : List Event) → old ≡ start ++ text_of past → new ≡ old ++ entry_line e → new ≡ start ++ text_of (e ∷ past)
written_more start old new e past so_far more =
    more ∙ ap (λ (o : List ℕ). o ++ entry_line e) so_far ∙ append_assoc start (text_of past) (entry_line e) ∙ ap (λ (end : List ℕ). start ++ end) (sym (text-more e past))

-- and a first part of the line makes a first part of that text
pub part_more : (start old new : List ℕ) (e : Event) (past : List Event) → old ≡ start ++ text_of past → AppendsPrefix old new (entry_line e) → AppendsPrefix start new (text_of (e ∷ past))
part_more start old new e past so_far part =
    subst (λ (text : List ℕ). AppendsPrefix start new text) (sym (text-more e past)) (AppendsPrefix-after start old new (text_of past) (entry_line e) so_far part)

-- a first part of a history's text is one of that of a history that goes on
pub part-append : (old new : List ℕ) (block past whole : List Event) → whole ≡ block ++ past → AppendsPrefix old new (text_of past) → AppendsPrefix old new (text_of whole)
part-append old new block past whole is part =
    subst (λ (text : List ℕ). AppendsPrefix old new text) (sym (ap text_of is ∙ text-append block past)) (AppendsPrefix-append old new (text_of past) (text_of block) part)

-- the run of some lines
abbrev pub run_of_lines : Plan → List Line → List Event
run_of_lines plan lines = run_after plan (reverse lines)

-- one more line adds what its directive gives
pub run-push : (plan : Plan) (lines : List Line) (line : Line) →
    run_of_lines plan (lines ++ line ∷ []) ≡ with_directive plan (run_of_lines plan lines) line line.directive
run-push plan lines line = ap (run_after plan) (reverse-append lines (line ∷ []))

-- what follows some lines adds to their run
pub run-append : (plan : Plan) (lines more : List Line) → (block : List Event) × (run_of_lines plan (lines ++ more) ≡ block ++ run_of_lines plan lines)
run-append plan lines [] = ([], ap (run_of_lines plan) (append-nil lines))
run-append plan lines (line ∷ more) =
    let later = run-append plan (lines ++ line ∷ []) more in
    let next = done plan (run_of_lines plan lines) line line.directive in
    let whole : run_of_lines plan (lines ++ line ∷ more) ≡ (later.0 ++ next.block) ++ run_of_lines plan lines =
    ap (run_of_lines plan) (sym (append_assoc lines (line ∷ []) more)) ∙ later.1 ∙ ap (λ (past : List Event). later.0 ++ past) (run-push plan lines line ∙ next.is)
    ∙ sym (append_assoc later.0 next.block (run_of_lines plan lines)) in
    (later.0 ++ next.block, whole)
