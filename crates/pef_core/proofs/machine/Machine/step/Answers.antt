use Rattle.pef_core.specs.State.{State}
use Rattle.std.proofs.Common.{◌+◌, subst, ap, ◌∙◌, ◌<◌, ◌^◌, sym, arith}
use Rattle.std.specs.Prelude.{slice_get}
use Rattle.pef_core.specs.Steps.{Continues}
use Rattle.pef_core.specs.Refused.{LeavesRest}
use Rattle.pef_core.specs.Alone.{LeavesOthers}
use Rattle.pef_core.proofs.Leaving.{steps_aside}
use Rattle.pef_core.proofs.WholeAfter.{one_step_more}
use Rattle.pef_core.proofs.Sites.{state_of}
use Rattle.pef_core.proofs.machine.Machine.step.Goals as goal

-- one step more is counted
pub invariant_of-self : goal.invariant_of-self
invariant_of-self g c = one_step_more g.S.Seal.takes (state_of c.self.inside) c.self.invariant

-- the steps that are counted don't matter to a history
pub returns-clause-step : goal.returns-clause-step
returns-clause-step g c =
    subst (λ m. Continues g.S.Seal.stands g.S.Seal.image m c.counted.new.self c.args.cpu c.args.cmd.now c.counted.result) c.self.view_is
    (λ plan past line place stamp fits.
    c.counted.ensures.step c.numbers_fit.ensures plan past line place stamp
    (record { cpu_count = fits.cpu_count; guest_count = fits.guest_count; vcpu_count = fits.vcpu_count; cpus = fits.cpus; guests = fits.guests; normal_is = fits.normal_is; free = fits.free }))

pub returns-clause-refused : goal.returns-clause-refused
returns-clause-refused g c own there =
    subst (λ m. LeavesRest c.args.cpu own.ctx c.args.cmd.now m c.counted.new.self c.counted.result) c.self.view_is
    (steps_aside c.args.cpu own.ctx c.args.cmd.now (state_of c.self.inside) c.counted.new.self (c.self.inside.steps + 1) c.counted.result (c.counted.ensures.refused own (ap (λ m. slice_get m.cpus c.args.cpu) c.self.view_is ∙ there)))

pub returns-clause-alone : goal.returns-clause-alone
returns-clause-alone g c =
    subst (λ m. LeavesOthers c.args.cpu c.args.cmd.now m c.counted.new.self c.counted.result) c.self.view_is
    (λ own there. (let rest = c.counted.ensures.alone own there in record { cpus = rest.cpus; guests = rest.guests; keeps = rest.keeps; lives = rest.lives; movers = rest.movers; pool = rest.pool; normal = rest.normal }))

pub counted-requires-clause-steps : goal.counted-requires-clause-steps
counted-requires-clause-steps g c = record {
  few = (let count = subst (λ (m : State _). m.steps < 2 ^ 63) (sym c.self.view_is) c.requires.count in omega arith);
  fewer = λ i guest there. (let most = (c.self.invariant.guests i guest there).steps in omega arith);
}
