use Rattle.std.proofs.Common.{◌≡◌, ◌∷◌, ap, sym, subst, ◌∙◌}
use Rattle.pef_model.specs.declared.command.Directive.{Directive}
use Rattle.pef_model.specs.declared.command.Directive.TheVariants.{Once}
use Rattle.pef_model.specs.Event.{Event}
use Rattle.pef_model.specs.Run.{entry_after, with_directive}
use Rattle.pef_model.specs.Script.{Line}
use Rattle.pef_model.specs.Sound.{is_clean}
use Rattle.pef_core.specs.Steps.{Fits}
use Rattle.pef_top.specs.Text.{Wrote}
use Rattle.pef_top.proofs.Clean.{clean_parts}
use Rattle.pef_top.proofs.run.run_line.Goals as goal

-- a clean history with the entry of a command fits the machine
pub returns-in_ok-run_once-in-Once-clause-fits : goal.returns-in_ok-run_once-in-Once-clause-fits
returns-in_ok-run_once-in-Once-clause-fits g c = λ plan past pages fits clean.
    let line : Line = c.args.line.now in
    let e : Event = entry_after plan past line c.in-Once.cmd in
    let once : line.directive ≡ Once c.in-Once.cmd = sym (ap (λ (l : Line). l.directive) c.line.view_is) ∙ c.in-Once.is in
    let whole : with_directive plan past line line.directive ≡ e ∷ past = ap (with_directive plan past line) once in
    let parts = clean_parts plan past e (ap (is_clean plan) (sym whole) ∙ clean) in
    subst (Fits g.S.Seal.stands g.S.Seal.image plan c.run_once.new.machine) (sym whole) (c.in_ok-run_once-in-Once.ensures.made plan past (fits parts.0) parts.1).fits

-- and its lines were written
pub returns-in_ok-run_once-in-Once-clause-all : goal.returns-in_ok-run_once-in-Once-clause-all
returns-in_ok-run_once-in-Once-clause-all g c = λ plan past pages fits start before.
    let line : Line = c.args.line.now in
    let once : line.directive ≡ Once c.in-Once.cmd = sym (ap (λ (l : Line). l.directive) c.line.view_is) ∙ c.in-Once.is in
    subst (λ (d : Directive). Wrote plan start (g.K.Sink.given c.run_once.new.sink) (with_directive plan past line d)) (sym once)
    (c.in_ok-run_once-in-Once.ensures.all plan past fits start before)
