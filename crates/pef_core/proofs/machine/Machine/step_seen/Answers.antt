use Rattle.std.proofs.Common.{◌≡◌, ℕ, ◌<◌, Some, length, ap, sym, subst, ◌∙◌}
use Rattle.std.specs.Prelude.{slice_get}
use Rattle.pef_core.specs.State.{State}
use Rattle.pef_core.proofs.Places.{read_at}
use Rattle.pef_core.proofs.Seeing.{tells}
use Rattle.pef_core.proofs.machine.Machine.step_seen.Goals as goal

-- what was looked at before the step and what is found after it is what the entry tells
pub returns-clause-told : goal.returns-clause-told
returns-clause-told g c plan past line place stamp fits clean =
    let count : length c.self-2.inside.cpus.items ≡ length c.args.self.now.cpus = ap (λ (m : State _). length m.cpus) c.self-2.view_is ∙ c.step-answer.ensures.cpus in
    let below = subst (λ (k : ℕ). c.args.cpu < k) (sym count) c.requires.cpu in
    let own : slice_get c.step-answer.new.self.cpus c.args.cpu ≡ Some c.index.result.now = subst (λ (m : State _). slice_get m.cpus c.args.cpu ≡ Some c.index.result.now) c.self-2.view_is (read_at c.self-2.inside.cpus.items c.args.cpu c.index.result.now below c.index.ensures) in
    let free : c.free-free.result ≡ length c.args.self.now.pool.free = c.free-free.ensures.value ∙ ap (λ (m : State _). length m.pool.free) c.self.view_is in
    let after : c.free.result ≡ length c.step-answer.new.self.pool.free = c.free.ensures.value ∙ ap (λ (m : State _). length m.pool.free) c.self-2.view_is in
    rw (c.pool_seen.ensures, free, after)
    (tells g.S.Seal.stands g.S.Seal.image c.args.self.now c.step-answer.new.self c.args.cpu c.args.cmd.now c.step-answer.result plan past line place stamp fits (c.step-answer.ensures.step plan past line place stamp fits clean)
    c.look-look.result (c.look-look.ensures plan past line place stamp fits clean) c.index.result.now own c.let_out.result c.let_out.ensures)
