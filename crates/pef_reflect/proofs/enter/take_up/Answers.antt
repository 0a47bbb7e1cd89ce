use Rattle.std.proofs.Common.{ap}
use Rattle.std.specs.Vec.{with_item}
use Rattle.pef_model.specs.declared.state.VState.TheVariants.{Running}
use Rattle.pef_model.specs.Guest.{returned_by}
use Rattle.pef_model.specs.Deed.{taken_up_in}
use Rattle.pef_regs.specs.declared.vcpu.Vcpu.{Vcpu}
use Rattle.pef_model.specs.declared.entry.Answer.TheVariants.{Enter}
use Rattle.pef_guest.proofs.OneVcpu.{is_at}
use Rattle.pef_reflect.proofs.enter.take_up.Goals as goal

pub returns-clause-guest : goal.returns-clause-guest
returns-clause-guest g c =
    rw (c.take_up.ensures, c.bring_answer.ensures, c.address_for-address.ensures)
    (ap (λ (vcpu : Vcpu). record c.args.guest.now { vcpus = with_item c.args.guest.now.vcpus c.args.run.vid (record { state = Running c.args.cpu.now.number; generation = c.args.run.generation; regs = returned_by vcpu.state vcpu.regs c.args.r0 c.args.r2 c.args.outs.now }) })
    (is_at c.args.guest.now c.args.run.vid c.index_mut-vcpu.result.now c.requires c.index_mut-vcpu.ensures.value))

pub returns-clause-cpu : goal.returns-clause-cpu
returns-clause-cpu g c =
    rw (c.enter.ensures.cpu, c.goes_on_in-after.ensures)
    (ap (λ (vcpu : Vcpu). record c.args.cpu.now { ctx = taken_up_in vcpu.state c.args.run; last = Enter })
    (is_at c.args.guest.now c.args.run.vid c.index_mut-vcpu.result.now c.requires c.index_mut-vcpu.ensures.value))
