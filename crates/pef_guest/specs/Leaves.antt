-- What a CPU shows where a vCPU leaves it.
use Rattle.std.specs.Prelude.{ℕ, List}
use Rattle.pef_model.specs.declared.state.Run.{Run}
use Rattle.pef_model.specs.declared.state.Ctx.TheVariants as ctx
use Rattle.pef_model.specs.declared.entry.Exit.{Exit}
use Rattle.pef_model.specs.declared.entry.Answer.TheVariants as answer
use Rattle.pef_model.specs.Cpu.{left_registers}
use Rattle.pef_guest.specs.declared.cpu.Cpu.{Cpu}

-- a CPU that a vCPU leaves, which lets out these values: the vCPU is selected, the registers show what its exit says, and the hypervisor runs
abbrev pub leaving : Cpu → Run → Exit → List ℕ → Cpu
leaving cpu run exit shown = record cpu { ctx = ctx.Hv; gpr = left_registers exit shown; lpid = run.lpid; vid = run.vid; last = answer.Exit exit }
