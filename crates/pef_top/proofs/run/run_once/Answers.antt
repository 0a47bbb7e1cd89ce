use Rattle.std.proofs.Common.{◌≡◌, ◌+◌, false, length, subst, ap, ◌∙◌, ℕ, List}
use Rattle.pef_io.proofs.SinkLemmas.{on_err_holds}
use Rattle.pef_model.specs.declared.command.Cmd.{Cmd}
use Rattle.pef_model.specs.Event.{Event}
use Rattle.pef_model.specs.Report.{entry_line}
use Rattle.pef_model.specs.Run.{entry_after, entries_of}
use Rattle.pef_model.specs.Script.{Line}
use Rattle.pef_model.specs.Sound.{is_clash}
use Rattle.pef_core.specs.Steps.{Makes}
use Rattle.pef_report.specs.Text.{line_text}
use Rattle.pef_top.proofs.RunText.{line_text-entry}
use Rattle.pef_top.proofs.Wrote.{wrote_step, part_step}
use Rattle.pef_top.proofs.run.run_once.Goals as goal

-- the step makes the entry of the line, unless that is a clash
pub returns-clause-made : goal.returns-clause-made
returns-clause-made g c = λ plan past fits no_clash.
    subst (λ (l : Line). is_clash plan past (entry_after plan past l c.args.cmd.now) ≡ false → Makes g.S.Seal.stands g.S.Seal.image plan c.step-answer.new.self past (entry_after plan past l c.args.cmd.now) c.step-answer.result) c.line.view_is
    (c.step-answer.ensures.step plan past c.line.inside.number (entries_of c.line.inside.cpu past) (length past + 1) fits) no_clash

-- its text was written
pub returns-clause-all : goal.returns-clause-all
returns-clause-all g c = λ plan past fits start written.
    let cmd : Cmd = c.args.cmd.now in
    let line : Line = record { number = c.line.inside.number; cpu = c.line.inside.cpu; directive = c.line.inside.directive } in
    let e : Event = entry_after plan past c.args.line.now cmd in
    let text : List ℕ = line_text c.from.result line.cpu cmd c.step-answer.result in
    let own : Makes g.S.Seal.stands g.S.Seal.image plan c.step-answer.new.self past e c.step-answer.result → text ≡ entry_line e =
    λ made. ap (λ (n : ℕ). line_text n line.cpu cmd c.step-answer.result) c.from.ensures ∙ line_text-entry plan past line c.args.line.now cmd c.step-answer.result c.line.view_is made.answered in
    wrote_step plan start (g.K.Sink.given c.args.sink.now) (g.K.Sink.given c.put_entry.new.sink) past e text written c.in_ok-put_entry.ensures.all
    (λ clean no_clash. own (returns-clause-made g c plan past (fits clean) no_clash))

-- or a first part of it
pub returns-in_err-put_entry-clause-prefix : goal.returns-in_err-put_entry-clause-prefix
returns-in_err-put_entry-clause-prefix g c = λ plan past fits.
    let cmd : Cmd = c.args.cmd.now in
    let line : Line = record { number = c.line.inside.number; cpu = c.line.inside.cpu; directive = c.line.inside.directive } in
    let e : Event = entry_after plan past c.args.line.now cmd in
    let text : List ℕ = line_text c.from.result line.cpu cmd c.step-answer.result in
    let make : (l : Line) → Type 0 =
    λ l. is_clash plan past (entry_after plan past l cmd) ≡ false → Makes g.S.Seal.stands g.S.Seal.image plan c.step-answer.new.self past (entry_after plan past l cmd) c.step-answer.result in
    let own : Makes g.S.Seal.stands g.S.Seal.image plan c.step-answer.new.self past e c.step-answer.result → text ≡ entry_line e =
    λ made. ap (λ (n : ℕ). line_text n line.cpu cmd c.step-answer.result) c.from.ensures ∙ line_text-entry plan past line c.args.line.now cmd c.step-answer.result c.line.view_is made.answered in
    on_err_holds c.from_residual.result
    (λ start written.
    part_step plan start (g.K.Sink.given c.args.sink.now) (g.K.Sink.given c.put_entry.new.sink) past e text written c.in_err-put_entry.ensures.prefix
    (λ clean no_clash. own (subst make c.line.view_is (c.step-answer.ensures.step plan past line.number (entries_of line.cpu past) (length past + 1) (fits clean)) no_clash)))
