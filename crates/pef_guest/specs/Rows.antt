-- A step does what its row of the model says, whatever guest and CPU of the model are shown before it.
use Rattle.std.specs.Prelude.{◌≡◌, ℕ, Bool, List, []}
use Rattle.pef_model.specs.declared.state.Move.{Move}
use Rattle.pef_model.specs.declared.state.Work.TheVariants.{Inward, Outward}
use Rattle.pef_model.specs.declared.state.Ctx.TheVariants as ctx
use Rattle.pef_model.specs.declared.state.Tag.{Tag}
use Rattle.pef_model.specs.declared.state.Run.{Run}
use Rattle.pef_model.specs.declared.command.Cmd.{Cmd}
use Rattle.pef_model.specs.declared.entry.Answer.{Answer}
use Rattle.pef_model.specs.Plan.{Plan}
use Rattle.pef_model.specs.Event.{Event, Mark}
use Rattle.pef_model.specs.Target.{Ask}
use Rattle.pef_model.specs.Cpu.{CpuPart, next_cpu}
use Rattle.pef_model.specs.Guest.{Guest as GuestWhole, next_guest}
use Rattle.pef_model.specs.Memory.{pool_with}
use Rattle.pef_model.specs.Deed.{deed_running}
use Rattle.pef_model.specs.History.{entry_of}
use Rattle.pef_guest.specs.declared.cpu.Cpu.{Cpu}
use Rattle.pef_guest.specs.declared.guest.Guest.{Guest}
use Rattle.pef_guest.specs.Shows.{ShowsCpu, Shows}

-- what a step learns of a CPU of the model on which the hypervisor runs
abbrev pub ask_hypervisor : CpuPart → Ask
ask_hypervisor c = record { before = ctx.Hv; lpid = c.lpid; vid = c.vid; last = c.last; hand = []; register = 0 }

-- what it learns of one that runs a vCPU
abbrev pub ask_running : Run → CpuPart → Ask
ask_running run c = record { before = ctx.Guest run; lpid = c.lpid; vid = c.vid; last = c.last; hand = []; register = 0 }

-- what a step learns of a CPU of the model with a page-out in progress
abbrev pub ask_outward : Move → CpuPart → Ask
ask_outward move c = record { before = ctx.Uv (Outward move); lpid = c.lpid; vid = c.vid; last = c.last; hand = c.hand; register = 0 }

-- what the copy of a page-in learns of its CPU: not the hand, which it writes
abbrev pub ask_reading : Move → CpuPart → Ask
ask_reading move c = record { before = ctx.Uv (Inward move); lpid = c.lpid; vid = c.vid; last = c.last; hand = []; register = 0 }

-- what the end of a page-in learns of its CPU
abbrev pub ask_inward : Move → CpuPart → Ask
ask_inward move c = record { before = ctx.Uv (Inward move); lpid = c.lpid; vid = c.vid; last = c.last; hand = c.hand; register = 0 }

-- the entry of a command of the vCPU that runs, in its guest's generation; found: the doubleword at an offset of a normal frame; any: a secure frame is free
abbrev pub entry_running : Plan → GuestWhole → (ℕ → ℕ → ℕ) → CpuPart → Run → Bool → Mark → Cmd → Event
entry_running plan g found c run any mark cmd = entry_of (ask_running run c) mark cmd (deed_running plan run g found any (ask_running run c) cmd)

-- a step at a guest answers what its entry does, and leaves the guest and the CPU as the entry does
pub record Row {S : Type 0} (stands : S → Tag → List ℕ → List ℕ → Type 0) (image : S → Tag → List ℕ → List ℕ) (plan : Plan) (g : GuestWhole) (c : CpuPart) (e : Event) (new : Guest S) (cpu : Cpu) (answer : Answer) : Type 0 where
  pub answered : answer ≡ e.trace.answer
  pub guest : Shows stands image plan new (next_guest plan g e)
  pub cpu_is : ShowsCpu cpu (next_cpu c e)

-- and it leaves the number of free secure frames as the entry does
pub record RowWithPool {S : Type 0} (stands : S → Tag → List ℕ → List ℕ → Type 0) (image : S → Tag → List ℕ → List ℕ) (plan : Plan) (g : GuestWhole) (c : CpuPart) (e : Event) (new : Guest S) (cpu : Cpu) (free free_new : ℕ) (answer : Answer) : Type 0 where
  pub row : Row stands image plan g c e new cpu answer
  pub pool : free_new ≡ pool_with free e.saw.pool
