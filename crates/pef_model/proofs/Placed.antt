-- A store that was done, and the copy of a page-out, tell the normal frame that they write.
use Rattle.std.proofs.Common.{◌≡◌, ℕ, ◌%◌, List, [], Bool, true, false, refl, ap, sym, ◌∙◌, ◌==◌, if◌then◌else◌, Some}
use Rattle.std.proofs.lemmas.Bool.{and_parts}
use Rattle.pef_model.specs.declared.state.Move.{Move}
use Rattle.pef_model.specs.declared.state.Work.TheVariants.{Outward}
use Rattle.pef_model.specs.declared.state.Ctx.{Ctx}
use Rattle.pef_model.specs.declared.state.Ctx.TheVariants as ctx
use Rattle.pef_model.specs.declared.command.Code.TheVariants.{USuccess, UParameter}
use Rattle.pef_model.specs.declared.command.Cmd.{Cmd}
use Rattle.pef_model.specs.declared.command.Cmd.TheVariants.{HSt, Go}
use Rattle.pef_model.specs.declared.entry.Answer.TheVariants.{Done, Step}
use Rattle.pef_model.specs.Plan.{Plan}
use Rattle.pef_model.specs.Event.{Event}
use Rattle.pef_model.specs.Target.{Ask, Alone, AtGuest, AtFrame, frame_of, has_real_place, uses_hand, target_in}
use Rattle.pef_model.specs.Cpu.{CpuPart}
use Rattle.pef_model.specs.Deed.{Deed, answer_alone, giving, coming_back}
use Rattle.pef_model.specs.History.{cpu_after, guest_after, deed_after, ask_of, Extends, register_shown}
use Rattle.pef_model.proofs.Folds.{test_same}

-- a store that was done lies in a normal frame, which the entry tells
pub record IsPlaced (plan : Plan) (e : Event) (at : ℕ) : Type 0 where
  pub place : has_real_place plan at ≡ true
  pub frame : e.saw.frame ≡ Some (frame_of plan at)

-- a store that aims at nothing isn't done
alone_not_done : (plan : Plan) (at value : ℕ) → answer_alone plan ctx.Hv (HSt at value) ≡ Done → ⊥
alone_not_done plan at value h = cc

-- by what a store does, in a frame or not
pub store_is_placed : (plan : Plan) (past : List Event) (e : Event) (at value : ℕ) → Extends plan past e → e.saw.before ≡ ctx.Hv → e.trace.cmd ≡ HSt at value →
    e.trace.answer ≡ Done → IsPlaced plan e at
store_is_placed plan past e at value extends before cmd done_is = by_place (has_real_place plan at) refl where
  cpu : CpuPart
  cpu = cpu_after plan e.trace.cpu past

  ask : Ctx → Ask
  ask c = record (ask_of cpu (HSt at value)) { before = c }

  deed : Bool → Deed
  deed b = deed_after plan past (ask ctx.Hv) (HSt at value) (if b then AtFrame (frame_of plan at) else Alone)

  same : deed_after plan past (ask_of cpu e.trace.cmd) e.trace.cmd (target_in plan cpu.ctx cpu.lpid e.trace.cmd) ≡ deed (has_real_place plan at)
  same =
      ap (λ (x : Cmd). deed_after plan past (ask_of cpu x) x (target_in plan cpu.ctx cpu.lpid x)) cmd
      ∙ ap (λ (c : Ctx). deed_after plan past (ask c) (HSt at value) (target_in plan c cpu.lpid (HSt at value))) (ap (λ (x : Event). x.saw.before) (sym extends.is) ∙ before)

  by_place : (b : Bool) → has_real_place plan at ≡ b → IsPlaced plan e at
  by_place true t = record {
    place = t;
    frame = ap (λ (x : Event). x.saw.frame) extends.is ∙ ap (λ (d : Deed). d.frame) same ∙ ap (λ (b : Bool). (deed b).frame) t;
  }
  by_place false t = absurd (alone_not_done plan at value (
      sym (ap (λ (x : Event). x.trace.answer) extends.is ∙ ap (λ (d : Deed). d.answer) same ∙ ap (λ (b : Bool). (deed b).answer) t) ∙ done_is))

-- an address with a place is a multiple of 8
pub aligned : (plan : Plan) (ra : ℕ) → has_real_place plan ra ≡ true → ra % 8 ≡ 0
aligned plan ra h = test_same (ra % 8) 0 (and_parts _ _ h).0

-- the copy of a page that moves writes the hand into the frame that the call names
pub record IsCopied (plan : Plan) (past : List Event) (e : Event) (move : Move) : Type 0 where
  pub frame : e.saw.frame ≡ Some move.frame
  pub bytes : e.bytes ≡ (cpu_after plan e.trace.cpu past).hand

-- by what a copy does
pub copy_is_placed : (plan : Plan) (past : List Event) (e : Event) (move : Move) → Extends plan past e → e.saw.before ≡ ctx.Uv (Outward move) → e.trace.cmd ≡ Go → e.trace.answer ≡ Step →
    IsCopied plan past e move
copy_is_placed plan past e move extends before cmd_is answer_is = by_copied move.copied refl where
  cpu : CpuPart
  cpu = cpu_after plan e.trace.cpu past

  ask : Ctx → Ask
  ask c = record { before = c; lpid = cpu.lpid; vid = cpu.vid; last = cpu.last; hand = if uses_hand c Go then cpu.hand else []; register = register_shown c Go cpu.own }

  deed : Bool → Deed
  deed b = deed_after plan past (ask (ctx.Uv (Outward move))) Go (if b then AtGuest move.lpid else AtFrame move.frame)

  same : deed_after plan past (ask_of cpu e.trace.cmd) e.trace.cmd (target_in plan cpu.ctx cpu.lpid e.trace.cmd) ≡ deed move.copied
  same =
      ap (λ (cmd : Cmd). deed_after plan past (ask_of cpu cmd) cmd (target_in plan cpu.ctx cpu.lpid cmd)) cmd_is
      ∙ ap (λ (c : Ctx). deed_after plan past (ask c) Go (target_in plan c cpu.lpid Go)) (ap (λ (x : Event). x.saw.before) (sym extends.is) ∙ before)

  not_step : (deed true).answer ≡ Step → ⊥
  not_step = by_life (move.generation == (guest_after plan move.lpid past).part.generation) where
    by_life : (b : Bool) → (if b then giving (coming_back (ask (ctx.Uv (Outward move))) USuccess) 1 else coming_back (ask (ctx.Uv (Outward move))) UParameter).answer ≡ Step → ⊥
    by_life true h = cc
    by_life false h = cc

  by_copied : (b : Bool) → move.copied ≡ b → IsCopied plan past e move
  by_copied true t = absurd (not_step (ap (λ (b : Bool). (deed b).answer) (sym t) ∙ ap (λ (d : Deed). d.answer) (sym same) ∙ ap (λ (x : Event). x.trace.answer) (sym extends.is) ∙ answer_is))
  by_copied false t = record {
    frame = ap (λ (x : Event). x.saw.frame) extends.is ∙ ap (λ (d : Deed). d.frame) same ∙ ap (λ (b : Bool). (deed b).frame) t;
    bytes = ap (λ (x : Event). x.bytes) extends.is ∙ ap (λ (d : Deed). d.bytes) same ∙ ap (λ (b : Bool). (deed b).bytes) t;
  }
