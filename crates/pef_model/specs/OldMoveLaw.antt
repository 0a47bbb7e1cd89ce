-- Laws of pages on the move whose guest has another generation by now.
use Rattle.std.specs.Prelude.{◌≡◌, ◌≢◌, ℕ, true, false, List, ◌∷◌}
use Rattle.pef_model.specs.declared.state.Move.{Move}
use Rattle.pef_model.specs.declared.state.Way.{Way}
use Rattle.pef_model.specs.declared.state.Work.TheVariants.{Inward, Outward}
use Rattle.pef_model.specs.declared.state.Ctx.TheVariants as ctx
use Rattle.pef_model.specs.declared.command.Code.TheVariants.{UParameter}
use Rattle.pef_model.specs.declared.command.Cmd.TheVariants.{Go}
use Rattle.pef_model.specs.declared.entry.Answer.TheVariants as answer
use Rattle.pef_model.specs.Plan.{Plan}
use Rattle.pef_model.specs.Event.{Event}
use Rattle.pef_model.specs.Registers.{with_code}
use Rattle.pef_model.specs.Memory.{overwritten}
use Rattle.pef_model.specs.Cpu.{CpuPart}
use Rattle.pef_model.specs.History.{cpu_after, guest_after, pool_after, frame_after, Extends, ChangesNoMemory}
use Rattle.pef_model.specs.Target.{work_by}

-- an entry is a step of a page's move under another generation than its guest's
pub record IsOldMove (plan : Plan) (past : List Event) (way : Way) (move : Move) (e : Event) : Type 0 where
  pub before : e.saw.before ≡ ctx.Uv (work_by way move)
  pub cmd_is : e.trace.cmd ≡ Go
  pub generation : move.generation ≢ (guest_after plan move.lpid past).part.generation

-- the CPU of a call that came back with U_PARAMETER: the hypervisor runs, with the code in R3
abbrev pub refused_cpu : CpuPart → CpuPart
refused_cpu cpu = record cpu { ctx = ctx.Hv; own = with_code cpu.own UParameter; last = answer.Ret UParameter }

-- its end answers U_PARAMETER, and changes its CPU alone
pub record EndsForNothing (plan : Plan) (past : List Event) (e : Event) : Type 0 where
  pub answer_is : e.trace.answer ≡ answer.Ret UParameter
  pub cpu : cpu_after plan e.trace.cpu (e ∷ past) ≡ refused_cpu (cpu_after plan e.trace.cpu past)
  pub rest : ChangesNoMemory plan past e

-- a page's copy is written into the normal frame of its move
pub record IsWritten (plan : Plan) (past : List Event) (move : Move) (e : Event) : Type 0 where
  pub cpu : cpu_after plan e.trace.cpu (e ∷ past) ≡ record (cpu_after plan e.trace.cpu past) { ctx = ctx.Uv (Outward (record move { copied = true })) }
  pub frame : frame_after plan move.frame (e ∷ past) ≡ overwritten (frame_after plan move.frame past) 0 (cpu_after plan e.trace.cpu past).hand
  pub others : (n : ℕ) → n ≢ move.frame → frame_after plan n (e ∷ past) ≡ frame_after plan n past

-- a page's copy is read out of the normal frame of its move
pub record IsRead (plan : Plan) (past : List Event) (move : Move) (e : Event) : Type 0 where
  pub cpu : cpu_after plan e.trace.cpu (e ∷ past) ≡ record (cpu_after plan e.trace.cpu past) { ctx = ctx.Uv (Inward (record move { copied = true })); hand = frame_after plan move.frame past }
  pub frames : (n : ℕ) → frame_after plan n (e ∷ past) ≡ frame_after plan n past

-- its copy still copies, and the call goes on
pub record StillCopies (plan : Plan) (past : List Event) (e : Event) : Type 0 where
  pub answer_is : e.trace.answer ≡ answer.Step
  pub guests : (lpid : ℕ) → guest_after plan lpid (e ∷ past) ≡ guest_after plan lpid past
  pub pool : pool_after plan (e ∷ past) ≡ pool_after plan past
  -- a page-out writes its CPU's hand into the normal frame
  pub page_out : (move : Move) → e.saw.before ≡ ctx.Uv (Outward move) → IsWritten plan past move e
  -- a page-in reads the normal frame into its CPU's hand
  pub page_in : (move : Move) → e.saw.before ≡ ctx.Uv (Inward move) → IsRead plan past move e

-- a step of a move under another generation
pub record StepsForNothing (plan : Plan) (past : List Event) (move : Move) (e : Event) : Type 0 where
  pub end : move.copied ≡ true → EndsForNothing plan past e
  pub copy : move.copied ≡ false → StillCopies plan past e

abbrev pub OldMovesChangeNothing : Type 0
OldMovesChangeNothing = (plan : Plan) (past : List Event) (way : Way) (move : Move) (e : Event) → Extends plan past e → IsOldMove plan past way move e → StepsForNothing plan past move e
