-- Laws of UV_PAGE_INVAL: where it is accepted, and what it takes then.
use Rattle.std.specs.Prelude.{◌≡◌, ◌↔◌, ℕ, Bool, true, List, ◌∷◌, Option, None}
use Rattle.pef_model.specs.declared.state.Kind.TheVariants.{Invalid, Shared}
use Rattle.pef_model.specs.declared.state.Ctx.TheVariants as ctx
use Rattle.pef_model.specs.declared.command.Code.TheVariants.{USuccess}
use Rattle.pef_model.specs.declared.command.Cmd.TheVariants.{UInval}
use Rattle.pef_model.specs.declared.entry.Answer.TheVariants as answer
use Rattle.pef_model.specs.Plan.{Plan, IsWithin}
use Rattle.pef_model.specs.Event.{Event}
use Rattle.pef_model.specs.GuestPart.{page_of}
use Rattle.pef_model.specs.PageOut.{has_page}
use Rattle.pef_model.specs.PageIn.{may_page_in_in}
use Rattle.pef_model.specs.PageInval.{may_be_dropped}
use Rattle.pef_model.specs.History.{guest_after, pool_after, frame_after, Extends, part_after, page_after}

-- a page of a guest of the machine may lose its normal frame: the guest is Starting or Secure, and the page Invalid or Shared
pub record MayBeUnmapped (plan : Plan) (past : List Event) (lpid gpa order : ℕ) : Type 0 where
  pub guest : IsWithin 1 plan.guests lpid
  pub phase : may_page_in_in (part_after plan past lpid).phase ≡ true
  pub page : has_page plan gpa ≡ true
  pub kind : may_be_dropped (page_after plan past lpid (page_of plan gpa)).kind ≡ true
  pub order_is : order ≡ plan.shift

-- UV_PAGE_INVAL of the hypervisor is accepted exactly there
abbrev pub InvalExactlyWhere : Type 0
InvalExactlyWhere =
    (plan : Plan) (past : List Event) (e : Event) (lpid gpa order : ℕ) → Extends plan past e → e.saw.before ≡ ctx.Hv → e.trace.cmd ≡ UInval lpid gpa order →
    (e.trace.answer ≡ answer.Ret USuccess) ↔ MayBeUnmapped plan past lpid gpa order

-- what an entry leaves that takes a page's normal frame
pub record LeavesUnmapped (plan : Plan) (past : List Event) (e : Event) (lpid gfn : ℕ) : Type 0 where
  -- the page, if it is Shared, has no frame and keeps its mark
  pub shared : (frame : Option ℕ) (fresh : Bool) → (page_after plan past lpid gfn).kind ≡ Shared frame fresh →
      page_after plan (e ∷ past) lpid gfn ≡ record (page_after plan past lpid gfn) { kind = Shared None fresh }
  -- an Invalid one stays as it was
  pub invalid : (page_after plan past lpid gfn).kind ≡ Invalid → page_after plan (e ∷ past) lpid gfn ≡ page_after plan past lpid gfn
  -- so does each other page, of each guest
  pub others : (l n : ℕ) → (l ≡ lpid → n ≡ gfn → ⊥) → page_after plan (e ∷ past) l n ≡ page_after plan past l n
  -- all else of each guest
  pub guests : (l : ℕ) → guest_after plan l (e ∷ past) ≡ record (guest_after plan l past) { part = record (part_after plan past l) { pages = page_after plan (e ∷ past) l } }
  -- the number of free frames, and each normal frame
  pub pool : pool_after plan (e ∷ past) ≡ pool_after plan past
  pub frames : (n : ℕ) → frame_after plan n (e ∷ past) ≡ frame_after plan n past

-- UV_PAGE_INVAL that is accepted takes the frame of the page that it names, and changes nothing else but its CPU
abbrev pub InvalTakesFrame : Type 0
InvalTakesFrame =
    (plan : Plan) (past : List Event) (e : Event) (lpid gpa order : ℕ) → Extends plan past e → e.saw.before ≡ ctx.Hv → e.trace.cmd ≡ UInval lpid gpa order →
    e.trace.answer ≡ answer.Ret USuccess → LeavesUnmapped plan past e lpid (page_of plan gpa)
