-- What a step at a normal frame needs and does.
use Rattle.std.specs.Prelude.{◌≡◌, ℕ, ◌%◌, ◌^◌, true, false, List, length}
use Rattle.pef_model.specs.declared.state.Work.TheVariants.{Inward, Outward}
use Rattle.pef_model.specs.declared.state.Ctx.{Ctx}
use Rattle.pef_model.specs.declared.state.Ctx.TheVariants as ctx
use Rattle.pef_model.specs.declared.aim.Aim.{Aim}
use Rattle.pef_model.specs.declared.aim.Aim.TheVariants as aim
use Rattle.pef_model.specs.declared.command.Cmd.{Cmd}
use Rattle.pef_model.specs.declared.entry.Answer.{Answer}
use Rattle.pef_model.specs.declared.entry.Answer.TheVariants as answer
use Rattle.pef_model.specs.Plan.{Plan, IsWithin}
use Rattle.pef_model.specs.Event.{Event, Mark}
use Rattle.pef_model.specs.Target.{Ask, aim_in}
use Rattle.pef_model.specs.Cpu.{CpuPart, next_cpu}
use Rattle.pef_model.specs.Memory.{write_in, after_writes, next_frame}
use Rattle.pef_model.specs.Deed.{deed_frame}
use Rattle.pef_model.specs.History.{ask_of, entry_of}
use Rattle.pef_guest.specs.declared.cpu.Cpu.{Cpu}
use Rattle.pef_guest.specs.Shows.{ShowsCpu}

-- a size of pages
pub record IsPageSize (size : ℕ) : Type 0 where
  pub shift : ℕ
  pub range : IsWithin 8 16 shift
  pub is : size ≡ 2 ^ shift

-- an aim is at a normal frame, as far as it tells: at the address of a doubleword, or at a page on the move that isn't copied yet
abbrev pub IsAtFrame : Aim → Type 0
IsAtFrame (aim.Address ra) = ra % 8 ≡ 0
IsAtFrame (aim.Move move) = move.copied ≡ false
IsAtFrame other = ⊥

-- a step aims at a normal frame, as far as its CPU tells
abbrev pub AimsAtFrame : Ctx → ℕ → Cmd → Type 0
AimsAtFrame before lpid cmd = IsAtFrame (aim_in before lpid cmd)

-- what a step at a normal frame needs of it and of its CPU
pub record IsReadyAt (cmd : Cmd) (cpu : Cpu) (frame : List ℕ) : Type 0 where
  pub aims : AimsAtFrame cpu.ctx cpu.lpid cmd
  pub size : IsPageSize (length frame)
  pub hand : length cpu.hand ≡ length frame

-- a context after a step at a normal frame: a move was copied
abbrev pub ctx_copied : Ctx → Ctx
ctx_copied (ctx.Uv (Inward move)) = ctx.Uv (Inward (record move { copied = true }))
ctx_copied (ctx.Uv (Outward move)) = ctx.Uv (Outward (record move { copied = true }))
ctx_copied before = before

-- a step that is not refused
abbrev pub IsDone : Answer → Type 0
IsDone answer.Done = Unit {0}
IsDone (answer.Val value) = Unit {0}
IsDone answer.Step = Unit {0}
IsDone other = ⊥

-- a step at the normal frame of this number answers what its entry does, and leaves the CPU and the frame as the entry does
pub record RowFrame (plan : Plan) (n : ℕ) (c : CpuPart) (e : Event) (cpu : Cpu) (frame_new frame : List ℕ) (a : Answer) : Type 0 where
  pub answered : a ≡ e.trace.answer
  pub cpu_is : ShowsCpu cpu (next_cpu c e)
  pub frame_is : frame_new ≡ next_frame plan n frame e

-- what every step at a normal frame does, whatever CPU of the model is shown, and whatever number the frame has
pub record DoesFrame (cmd : Cmd) (cpu cpu_new : Cpu) (frame frame_new : List ℕ) (a : Answer) : Type 0 where
  pub number : cpu_new.number ≡ cpu.number
  pub lpid : cpu_new.lpid ≡ cpu.lpid
  pub vid : cpu_new.vid ≡ cpu.vid
  pub ctx_is : cpu_new.ctx ≡ ctx_copied cpu.ctx
  pub hand : length cpu_new.hand ≡ length cpu.hand
  pub size : length frame_new ≡ length frame
  pub written : (shift n : ℕ) → length frame ≡ 2 ^ shift → frame_new ≡ after_writes n frame (write_in shift cpu.ctx cmd a cpu.hand n)
  pub done : IsDone a
  pub answers : (plan : Plan) (n : ℕ) (ask : Ask) → length frame ≡ 2 ^ plan.shift → ask.before ≡ cpu.ctx → a ≡ (deed_frame plan n frame ask cmd).answer
  pub row : (plan : Plan) (n : ℕ) (c : CpuPart) (mark : Mark) → length frame ≡ 2 ^ plan.shift → ShowsCpu cpu c →
      RowFrame plan n c (entry_of (ask_of c cmd) mark cmd (deed_frame plan n frame (ask_of c cmd) cmd)) cpu_new frame_new frame a
