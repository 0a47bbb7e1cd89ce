use Rattle.std.proofs.Common.{subst}
use Rattle.std.specs.Prelude.{slice_set}
use Rattle.pef_model.specs.Target.{AtFrame}
use Rattle.pef_core.specs.State.{State}
use Rattle.pef_core.specs.Does.{DoesStep}
use Rattle.pef_core.proofs.Sites.{state_of, own_aims}
use Rattle.pef_core.proofs.OtherAims.{frame_there, frame_aims, frame_whole, frame_does}
use Rattle.pef_core.proofs.machine.Machine.at_frame.Goals as goal

pub apply-requires-clause-number : goal.apply-requires-clause-number
apply-requires-clause-number g c =
    let a = own_aims g.S.Seal.takes (state_of c.self.inside) c.args.self.now c.args.cpu c.self.view_is c.self.invariant c.index_mut.result.now c.index_mut.ensures.value c.args.cmd.now (AtFrame c.args.frame) c.requires in
    frame_there g.S.Seal.takes (state_of c.self.inside) c.args.cpu c.index_mut.result.now a.there a.below a.is_cpu c.self.invariant c.args.cmd.now c.args.frame a.targets

pub apply-requires-clause-aims : goal.apply-requires-clause-aims
apply-requires-clause-aims g c =
    let a = own_aims g.S.Seal.takes (state_of c.self.inside) c.args.self.now c.args.cpu c.self.view_is c.self.invariant c.index_mut.result.now c.index_mut.ensures.value c.args.cmd.now (AtFrame c.args.frame) c.requires in
    frame_aims g.S.Seal.takes (state_of c.self.inside) c.args.cpu c.index_mut.result.now a.there a.below a.is_cpu c.self.invariant c.args.cmd.now c.args.frame a.targets

pub apply-requires-clause-hand : goal.apply-requires-clause-hand
apply-requires-clause-hand g c =
    let a = own_aims g.S.Seal.takes (state_of c.self.inside) c.args.self.now c.args.cpu c.self.view_is c.self.invariant c.index_mut.result.now c.index_mut.ensures.value c.args.cmd.now (AtFrame c.args.frame) c.requires in
    a.is_cpu.hand

pub invariant_of-self : goal.invariant_of-self
invariant_of-self g c =
    let a = own_aims g.S.Seal.takes (state_of c.self.inside) c.args.self.now c.args.cpu c.self.view_is c.self.invariant c.index_mut.result.now c.index_mut.ensures.value c.args.cmd.now (AtFrame c.args.frame) c.requires in
    frame_whole g.S.Seal.takes (state_of c.self.inside) c.args.cpu c.index_mut.result.now a.there a.below a.is_cpu c.self.invariant c.args.cmd.now c.args.frame a.targets g.S.Seal.stands g.S.Seal.image c.apply.new.cpu c.apply.new.self c.apply.result c.apply.ensures.size c.apply.ensures.does c.apply.ensures.rest

pub returns : goal.returns
returns g c =
    let old = state_of c.self.inside in
    let a = own_aims g.S.Seal.takes (state_of c.self.inside) c.args.self.now c.args.cpu c.self.view_is c.self.invariant c.index_mut.result.now c.index_mut.ensures.value c.args.cmd.now (AtFrame c.args.frame) c.requires in
    let new : State _ = record old { cpus = slice_set old.cpus c.args.cpu c.apply.new.cpu; normal = c.apply.new.self } in
    subst (λ m. DoesStep g.S.Seal.stands g.S.Seal.image c.args.cpu c.args.cmd.now m new c.apply.result) c.self.view_is
    (frame_does g.S.Seal.takes old c.args.cpu c.index_mut.result.now a.there a.below a.is_cpu c.self.invariant c.args.cmd.now c.args.frame a.targets g.S.Seal.stands g.S.Seal.image c.apply.new.cpu c.apply.new.self c.apply.result c.apply.ensures.size c.apply.ensures.does c.apply.ensures.rest)
