use Rattle.std.proofs.Common.{rules, ℕ, subst}
use Rattle.std.specs.Prelude.{slice_set}
use Rattle.pef_model.specs.Target.{Alone}
use Rattle.pef_core.specs.Does.{DoesOwn, DoesStep}
use Rattle.pef_core.proofs.Sites.{state_of, own_aims}
use Rattle.pef_core.proofs.OtherAims.{own_may, own_whole, own_does}
use Rattle.pef_core.proofs.machine.Machine.at_own.Goals as goal

pub apply_own-requires : goal.apply_own-requires
apply_own-requires g c =
    let a = own_aims g.S.Seal.takes (state_of c.self.inside) c.args.self.now c.args.cpu c.self.view_is c.self.invariant c.index_mut.result.now c.index_mut.ensures.value c.args.cmd.now Alone c.requires in
    own_may g.S.Seal.takes (state_of c.self.inside) c.args.cpu c.index_mut.result.now a.there a.below a.is_cpu c.self.invariant c.args.cmd.now a.targets

pub invariant_of-self : goal.invariant_of-self
invariant_of-self g c =
    let a = own_aims g.S.Seal.takes (state_of c.self.inside) c.args.self.now c.args.cpu c.self.view_is c.self.invariant c.index_mut.result.now c.index_mut.ensures.value c.args.cmd.now Alone c.requires in
    own_whole g.S.Seal.takes (state_of c.self.inside) c.args.cpu c.index_mut.result.now a.there a.below a.is_cpu c.self.invariant c.args.cmd.now a.targets g.S.Seal.stands g.S.Seal.image c.apply_own.new.cpu c.apply_own.result (subst (λ (k : ℕ). DoesOwn k c.self.inside.vcpus c.args.cmd.now c.index_mut.result.now c.apply_own.new.cpu c.apply_own.result) (search rules) c.apply_own.ensures)

pub returns : goal.returns
returns g c =
    let old = state_of c.self.inside in
    let a = own_aims g.S.Seal.takes (state_of c.self.inside) c.args.self.now c.args.cpu c.self.view_is c.self.invariant c.index_mut.result.now c.index_mut.ensures.value c.args.cmd.now Alone c.requires in
    subst (λ m. DoesStep g.S.Seal.stands g.S.Seal.image c.args.cpu c.args.cmd.now m (record old { cpus = slice_set old.cpus c.args.cpu c.apply_own.new.cpu }) c.apply_own.result) c.self.view_is
    (own_does g.S.Seal.takes old c.args.cpu c.index_mut.result.now a.there a.below a.is_cpu c.self.invariant c.args.cmd.now a.targets g.S.Seal.stands g.S.Seal.image c.apply_own.new.cpu c.apply_own.result (subst (λ (k : ℕ). DoesOwn k c.self.inside.vcpus c.args.cmd.now c.index_mut.result.now c.apply_own.new.cpu c.apply_own.result) (search rules) c.apply_own.ensures))
