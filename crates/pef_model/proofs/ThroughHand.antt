-- The steps of a page's move go through the CPU's hand.
use Rattle.std.proofs.Common.{◌≡◌, List, Bool, true, false, refl, ap, sym, ◌∙◌, ◌==◌, if◌then◌else◌, []}
use Rattle.pef_model.specs.declared.state.Work.TheVariants.{Inward, Outward}
use Rattle.pef_model.specs.declared.state.Ctx.{Ctx}
use Rattle.pef_model.specs.declared.state.Ctx.TheVariants as ctx
use Rattle.pef_model.specs.declared.command.Cmd.{Cmd}
use Rattle.pef_model.specs.declared.command.Cmd.TheVariants.{Go}
use Rattle.pef_model.specs.declared.command.Code.TheVariants.{UParameter}
use Rattle.pef_model.specs.Plan.{Plan}
use Rattle.pef_model.specs.Event.{Event}
use Rattle.pef_model.specs.Target.{Ask, AtGuest, AtFrame, uses_hand, target_in}
use Rattle.pef_model.specs.Cpu.{CpuPart}
use Rattle.pef_model.specs.PageIn.{is_last_sealed}
use Rattle.pef_model.specs.Deed.{coming_back, deed_page_in_test}
use Rattle.pef_model.specs.History.{cpu_after, guest_after, deed_after, ask_of, Extends, register_shown}
use Rattle.pef_model.specs.MoveLaw.{GoesThroughHand, EachMoveGoesThroughHand}

-- the end of a page-in has the hand as its bytes, whatever it answers
end_bytes : (ask : Ask) (same test : Bool) → (if same then deed_page_in_test ask test else coming_back ask UParameter).bytes ≡ ask.hand
end_bytes ask true true = refl
end_bytes ask true false = refl
end_bytes ask false test = refl

module _ (plan : Plan) (past : List Event) (e : Event) (extends : Extends plan past e) where
  abbrev cpu : CpuPart
  cpu = cpu_after plan e.trace.cpu past

  abbrev ask : Ctx → Ask
  ask c = record { before = c; lpid = cpu.lpid; vid = cpu.vid; last = cpu.last; hand = if uses_hand c Go then cpu.hand else []; register = register_shown c Go cpu.own }

  -- the bytes of a step of a call in progress are its deed's
  bytes_are : (c : Ctx) → e.saw.before ≡ c → e.trace.cmd ≡ Go → e.bytes ≡ (deed_after plan past (ask c) Go (target_in plan c cpu.lpid Go)).bytes
  bytes_are c before go =
      ap (λ (x : Event). x.bytes) extends.is
      ∙ ap (λ (cmd : Cmd). (deed_after plan past (ask_of cpu cmd) cmd (target_in plan cpu.ctx cpu.lpid cmd)).bytes) go
      ∙ ap (λ (c : Ctx). (deed_after plan past (ask c) Go (target_in plan c cpu.lpid Go)).bytes) (ap (λ (x : Event). x.saw.before) (sym extends.is) ∙ before)

  -- by its work
  through : GoesThroughHand plan past e
  through = record {
    writes = λ move before go copied.
        bytes_are (ctx.Uv (Outward move)) before go
        ∙ ap (λ (b : Bool). (deed_after plan past (ask (ctx.Uv (Outward move))) Go (if b then AtGuest move.lpid else AtFrame move.frame)).bytes) copied;
    reads = λ move before go copied.
        bytes_are (ctx.Uv (Inward move)) before go
        ∙ ap (λ (b : Bool). (deed_after plan past (ask (ctx.Uv (Inward move))) Go (if b then AtGuest move.lpid else AtFrame move.frame)).bytes) copied;
    tests = λ move before go copied.
        bytes_are (ctx.Uv (Inward move)) before go
        ∙ ap (λ (b : Bool). (deed_after plan past (ask (ctx.Uv (Inward move))) Go (if b then AtGuest move.lpid else AtFrame move.frame)).bytes) copied
        ∙ end_bytes (ask (ctx.Uv (Inward move))) (move.generation == (guest_after plan move.lpid past).part.generation)
        (is_last_sealed ((guest_after plan move.lpid past).part.pages move.gfn).sealed (ask (ctx.Uv (Inward move))).hand)
        ∙ ap (λ (b : Bool). if b then cpu.hand else []) copied;
  }

-- so it is with each entry
pub each_move_goes_through_hand : EachMoveGoesThroughHand
each_move_goes_through_hand plan past e extends = through plan past e extends
