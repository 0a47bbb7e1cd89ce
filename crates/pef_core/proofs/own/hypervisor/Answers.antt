use Rattle.std.proofs.Common.{refl}
use Rattle.pef_model.specs.declared.command.Code.TheVariants.{UParameter}
use Rattle.pef_model.specs.declared.command.Cmd.TheVariants.{HEnter}
use Rattle.pef_core.proofs.Selecting.{comes_back, shows_one}
use Rattle.pef_core.proofs.own.hypervisor.Goals as goal

-- h.enter names no guest
pub returns-in-HEnter : goal.returns-in-HEnter
returns-in-HEnter c =
    rw (c.in-HEnter.is, c.refuse.ensures.answer)
    (comes_back c.args.guests c.args.vcpus c.args.cpu.now c.refuse.new.self c.requires.hypervisor (HEnter c.in-HEnter.lpid c.in-HEnter.vid c.in-HEnter.value) UParameter (λ plan counts sizes part. refl) (λ part mark. refl) c.refuse.ensures.cpu c.refuse.ensures.refused)

-- a register is shown
pub returns-in-Dump : goal.returns-in-Dump
returns-in-Dump c =
    rw (c.in-Dump.is, c.show.ensures.answer)
    (shows_one c.args.guests c.args.vcpus c.args.cpu.now c.show.new.self c.in-Dump.reg c.requires.hypervisor c.show.ensures.cpu)
