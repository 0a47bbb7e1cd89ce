use Rattle.std.proofs.Common.{◌≡◌, ℕ, List, length, Ok, ap, sym, subst, ◌∙◌}
use Rattle.std.proofs.lemmas.Result.{on_ok_weaker}
use Rattle.pef_model.specs.declared.config.Config.{Config}
use Rattle.pef_script.specs.Script.{ReadScript, script_or_fault, left_script}
use Rattle.pef_top.specs.Limits.{limit_of, checked}
use Rattle.pef_top.specs.Text.{WroteReport, WroteReportPart}
use Rattle.pef_top.proofs.Reported.{reported, begun}
use Rattle.pef_top.proofs.top.run_script.Goals as goal

-- the script that was run is the one that the text is, and it passes no limit
pub returns-clause-done : goal.returns-clause-done
returns-clause-done g c =
    let text : List ℕ = c.in_ok-text.text.items in
    let s : ReadScript = c.in_ok-checked.checked in
    let old = g.K.Sink.given c.args.sink.now in
    let new = g.K.Sink.given c.run_on_machine.new.sink in
    let read : script_or_fault text ≡ Ok s = ap script_or_fault (sym c.deref.ensures.value) ∙ c.in_ok-checked.ensures.script in
    let within : checked (limit_of (length s.lines) s.config) ≡ Ok tt =
    ap (λ (n : ℕ). checked (limit_of n s.config)) (sym c.count.ensures) ∙ ap (λ (config : Config). checked (limit_of c.count.result config)) (sym c.config.ensures) ∙ sym c.check_limits.ensures ∙ c.in_ok-check_limits.was in
    on_ok_weaker c.run_on_machine.result
    (λ (wrote : WroteReport (left_script c.in_ok-script.script) old new). record {
      text = text;
      took = c.in_ok-text.ensures.all;
      reported = reported text old new s c.in_ok-text.ensures.limit read within (subst (λ (r : ReadScript). WroteReport (left_script r) old new) c.in_ok-script.ensures wrote);
    })
    c.run_on_machine.ensures.all

pub returns-clause-begins : goal.returns-clause-begins
returns-clause-begins g c = λ failed.
    let text : List ℕ = c.in_ok-text.text.items in
    let s : ReadScript = c.in_ok-checked.checked in
    let old = g.K.Sink.given c.args.sink.now in
    let new = g.K.Sink.given c.run_on_machine.new.sink in
    let read : script_or_fault text ≡ Ok s = ap script_or_fault (sym c.deref.ensures.value) ∙ c.in_ok-checked.ensures.script in
    let within : checked (limit_of (length s.lines) s.config) ≡ Ok tt =
    ap (λ (n : ℕ). checked (limit_of n s.config)) (sym c.count.ensures) ∙ ap (λ (config : Config). checked (limit_of c.count.result config)) (sym c.config.ensures) ∙ sym c.check_limits.ensures ∙ c.in_ok-check_limits.was in
    record {
      text = text;
      took = c.in_ok-text.ensures.all;
      begun = begun text old new s c.in_ok-text.ensures.limit read within (subst (λ (r : ReadScript). WroteReportPart (left_script r) old new) c.in_ok-script.ensures (c.run_on_machine.ensures.prefix failed));
    }
