-- A CPU: what the hypervisor sees of it, and what an entry makes of it.
use Rattle.std.specs.Prelude.{ℕ, ◌^◌, if◌then◌else◌, List, Option, Some, None, replicate, slice_set}
use Rattle.pef_model.specs.declared.state.Run.{Run}
use Rattle.pef_model.specs.declared.state.Ctx.{Ctx}
use Rattle.pef_model.specs.declared.state.Ctx.TheVariants as ctx
use Rattle.pef_model.specs.declared.command.Cmd.{Cmd}
use Rattle.pef_model.specs.declared.command.Cmd.TheVariants.{HLd, HSelect, HEnter}
use Rattle.pef_model.specs.declared.entry.Exit.{Exit}
use Rattle.pef_model.specs.declared.entry.Exit.TheVariants as exit
use Rattle.pef_model.specs.declared.entry.Answer.{Answer}
use Rattle.pef_model.specs.declared.entry.Answer.TheVariants as answer
use Rattle.pef_model.specs.Plan.{Plan}
use Rattle.pef_model.specs.Event.{Event}
use Rattle.pef_model.specs.Target.{caller, takes_bytes}
use Rattle.pef_model.specs.Registers.{Call, zero_registers, interrupt_registers, call_registers, call_of, loaded, with_code}

-- the context, the hypervisor's 32 registers, the selected guest and vCPU, the last answer, the hand of one page
pub record CpuPart : Type 0 where
  pub ctx : Ctx
  pub own : List ℕ
  pub lpid : ℕ
  pub vid : ℕ
  pub last : Answer
  pub hand : List ℕ

-- a CPU begins in the hypervisor, with zero registers and hand, vCPU 0 of guest 1 selected
abbrev pub start_cpu : Plan → CpuPart
start_cpu plan = record { ctx = ctx.Hv; own = zero_registers; lpid = 1; vid = 0; last = answer.Nothing; hand = replicate (2 ^ plan.shift) 0 }

-- the registers after a call of the hypervisor, by what it answered
abbrev pub own_after_call : List ℕ → Answer → List ℕ
own_after_call loaded (answer.Ret code) = with_code loaded code
own_after_call loaded other = loaded

-- a value that was loaded is in R3
abbrev pub own_after_load : List ℕ → Answer → List ℕ
own_after_load own (answer.Val value) = slice_set own 3 value
own_after_load own other = own

-- after a command of the hypervisor that may be a call: its caller has loaded it
abbrev pub own_after_ultracall : Option Call → List ℕ → Cmd → Answer → List ℕ
own_after_ultracall None own cmd a = own
own_after_ultracall (Some call) own cmd a = own_after_call (loaded own cmd) a

-- the hypervisor's registers after a command of its own
abbrev pub own_after : List ℕ → Cmd → Answer → List ℕ
own_after own (HLd ra) a = own_after_load own a
own_after own (HSelect lpid vid) a = own_after_call own a
own_after own (HEnter lpid vid value) a = own_after_call own a
own_after own cmd a = own_after_ultracall (call_of cmd) own cmd a

-- what the CPU's registers show the hypervisor where a guest leaves, which lets out these values
abbrev pub left_registers : Exit → List ℕ → List ℕ
left_registers exit.Normal shown = shown
left_registers exit.Irq shown = interrupt_registers
left_registers (exit.Hcall n) shown = call_registers shown

-- the last answer after a step of the hypervisor: Context isn't kept
abbrev pub last_after : Answer → Answer → Answer
last_after old answer.Context = old
last_after old a = a

-- a CPU's registers, selection and last answer after a step of a vCPU: one that leaves is selected, and shows no more than its exit says; one whose guest has ended shows nothing
abbrev pub cpu_of_guest : CpuPart → Run → Answer → List ℕ → CpuPart
cpu_of_guest cpu run (answer.Exit exit) shown = record cpu { own = left_registers exit shown; lpid = run.lpid; vid = run.vid; last = answer.Exit exit }
cpu_of_guest cpu run answer.Gone shown = record cpu { own = zero_registers; last = answer.Gone }
cpu_of_guest cpu run a shown = cpu

-- after a step of a call in progress, by the vCPU whose call it is: one of the hypervisor comes back with its code in R3
abbrev pub cpu_of_call : CpuPart → Option Run → Answer → List ℕ → CpuPart
cpu_of_call cpu (Some run) a shown = cpu_of_guest cpu run a shown
cpu_of_call cpu None (answer.Ret code) shown = record cpu { own = with_code cpu.own code; last = answer.Ret code }
cpu_of_call cpu None a shown = cpu

-- the CPU after a command of the hypervisor, but for registers and last answer: one that selects a vCPU has it selected
abbrev pub selecting : CpuPart → Cmd → Answer → CpuPart
selecting cpu (HSelect lpid vid) answer.Done = record cpu { lpid = lpid; vid = vid }
selecting cpu cmd a = cpu

-- by the context before the step
abbrev pub cpu_in : Ctx → CpuPart → Cmd → Answer → List ℕ → CpuPart
cpu_in ctx.Hv cpu cmd a shown = record (selecting cpu cmd a) { own = own_after cpu.own cmd a; last = last_after cpu.last a }
cpu_in (ctx.Uv work) cpu cmd a shown = cpu_of_call cpu (caller work) a shown
cpu_in (ctx.Guest run) cpu cmd a shown = cpu_of_guest cpu run a shown

-- a CPU after a step, by the contexts before and after it, its command, its answer, what it lets out and its bytes
abbrev pub cpu_by : CpuPart → Ctx → Ctx → Cmd → Answer → List ℕ → List ℕ → CpuPart
cpu_by cpu before after cmd a shown bytes = record (cpu_in before cpu cmd a shown) { ctx = after; hand = if takes_bytes before cmd a then bytes else cpu.hand }

-- a CPU after an entry that touches it
abbrev pub next_cpu : CpuPart → Event → CpuPart
next_cpu cpu e = cpu_by cpu e.saw.before e.saw.after e.trace.cmd e.trace.answer e.saw.shown e.bytes
