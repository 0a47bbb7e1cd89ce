use Rattle.std.proofs.Common.{subst}
use Rattle.pef_model.proofs.Paging.{each_mover_has_its_call, each_page_keeps_what_is_sealed}
use Rattle.pef_core.specs.State.{State}
use Rattle.pef_core.specs.Places.{EachPageIsPlaced}
use Rattle.pef_core.proofs.Placing.{placed}
use Rattle.pef_core.proofs.machine.Machine.each_page_is_placed.Goals as goal

-- the machine is whole, so its pages lie where they count
pub returns : goal.returns
returns g c =
    let m : State _ = record { cpus = c.self.inside.cpus.items; guests = c.self.inside.guests.items; vcpus = c.self.inside.vcpus; pool = c.self.inside.pool; normal = c.self.inside.normal; steps = c.self.inside.steps } in
    subst (EachPageIsPlaced g.S.Seal.stands g.S.Seal.image) c.self.view_is
    (λ plan past i guest gfn fits legal here below.
    placed each_mover_has_its_call each_page_keeps_what_is_sealed g.S.Seal.stands g.S.Seal.image g.S.Seal.takes m c.self.invariant plan past i guest gfn fits legal here below)
