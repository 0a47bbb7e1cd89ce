use Rattle.std.proofs.Common.{◌≡◌, Some, subst}
use Rattle.pef_model.specs.declared.state.Ctx.{Ctx}
use Rattle.pef_model.specs.declared.command.Cmd.{Cmd}
use Rattle.pef_model.specs.declared.state.Ctx.TheVariants as ctx
use Rattle.pef_model.specs.declared.command.Cmd.TheVariants.{HEnter}
use Rattle.pef_guest.specs.Aims.{guest_aimed}
use Rattle.pef_core.proofs.at_guest.call.Goals as goal

pub returns-in-UReturn : goal.returns-in-UReturn
returns-in-UReturn g c pool = rw c.in-UReturn.is (c.uv_return.ensures pool)

pub returns-in-HEnter : goal.returns-in-HEnter
returns-in-HEnter g c pool =
    let is : c.in-HEnter.lpid ≡ c.args.guest.now.lpid =
    let named : guest_aimed ctx.Hv c.args.cpu.now.lpid (HEnter c.in-HEnter.lpid c.in-HEnter.vid c.in-HEnter.value) ≡ Some c.args.guest.now.lpid =
    subst (λ (cmd : Cmd). guest_aimed ctx.Hv c.args.cpu.now.lpid cmd ≡ Some c.args.guest.now.lpid) c.in-HEnter.is (subst (λ (before : Ctx). guest_aimed before c.args.cpu.now.lpid c.args.cmd.now ≡ Some c.args.guest.now.lpid) c.requires.hypervisor c.requires.ready.aims) in
    cc in
    rw c.in-HEnter.is (c.enter_normal.ensures pool c.in-HEnter.lpid is)

pub returns-in-UPate : goal.returns-in-UPate
returns-in-UPate g c pool = rw c.in-UPate.is (c.write_entry.ensures pool)

pub returns-in-URegslot : goal.returns-in-URegslot
returns-in-URegslot g c pool = rw c.in-URegslot.is (c.register_slot.ensures pool)

pub returns-in-UUnregslot : goal.returns-in-UUnregslot
returns-in-UUnregslot g c pool = rw c.in-UUnregslot.is (c.unregister_slot.ensures pool)
