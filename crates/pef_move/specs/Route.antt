-- What a call is to move, and what the begin of a page-out does.
use Rattle.std.specs.Prelude.{◌≡◌, ◌≢◌, ◌↔◌, ℕ, ◌+◌, ◌-◌, ◌/◌, ◌%◌, ◌^◌, ◌<◌, ◌==◌, nat_lt, ◌&&◌, not, Bool, true, false, List, [], ◌∷◌, length, Option, Some, None, is_some, Result, Ok, Err}
use Rattle.pef_model.specs.declared.state.Phase.TheVariants as phase
use Rattle.pef_model.specs.declared.state.Kind.TheVariants as kind
use Rattle.pef_model.specs.declared.state.Ctx.TheVariants as ctx
use Rattle.pef_model.specs.declared.state.Work.TheVariants.{Outward}
use Rattle.pef_model.specs.declared.state.Tag.{Tag}
use Rattle.pef_model.specs.declared.command.TheConstants.{PAGE_IN_FLAGS}
use Rattle.pef_model.specs.declared.command.Code.{Code}
use Rattle.pef_model.specs.declared.command.Code.TheVariants.{UBusy}
use Rattle.pef_model.specs.declared.entry.Answer.TheVariants as answer
use Rattle.pef_model.specs.Plan.{Plan}
use Rattle.pef_model.specs.GuestPart.{GuestPart}
use Rattle.pef_pages.specs.declared.page.Page.{Page}
use Rattle.pef_model.specs.PageOut.{page_out_code}
use Rattle.pef_model.specs.PageIn.{may_page_in_in, can_come_in, page_in_operands}
use Rattle.pef_num.specs.DoublewordLaw.{AreBytes}
use Rattle.pef_frames.specs.Frame.{FrameState}
use Rattle.pef_pages.specs.Cells.{begun_out}
use Rattle.pef_pages.specs.Pages.{PagesState, cell_at, kind_at, mover_at, frame_at, version_at, with_page}
use Rattle.pef_guest.specs.declared.cpu.Cpu.{Cpu}
use Rattle.pef_guest.specs.declared.guest.Guest.{Guest}
use Rattle.pef_guest.specs.Shows.{digest_by}
use Rattle.pef_move.specs.declared.page_call.PageCall.{PageCall}
use Rattle.pef_move.specs.declared.route.Route.{Route}

-- a page that begins to move, with the digest of what is in the hand
abbrev pub page_begun : PagesState FrameState → ℕ → ℕ → List ℕ → Page FrameState
page_begun pages gfn cpu hand = record { cell = begun_out (cell_at pages gfn) cpu (Some (digest_by hand)); version = version_at pages gfn + 1 }

module _ {S : Type 0} where
  -- a plan with a guest's sizes
  abbrev pub plan_with : Plan → Guest S → Plan
  plan_with plan guest = record plan { shift = guest.shift; normal = guest.normal; pages = length guest.pages.pages }

  -- a public part with a guest's phase, and with the kinds and movers of its pages
  abbrev pub part_with : GuestPart → Guest S → GuestPart
  part_with g guest = record g { phase = guest.phase; pages = λ gfn. record (g.pages gfn) { kind = kind_at guest.pages gfn; mover = mover_at guest.pages gfn } }

  -- the code with which UV_PAGE_OUT comes back at once, by what it reads of the plan and of the guest
  abbrev pub code_for : Plan → GuestPart → Guest S → PageCall → Option Code
  code_for plan g guest call = page_out_code (plan_with plan guest) (part_with g guest) call.ra call.gpa call.flags call.order

  -- a page is Secure and at rest in a Secure guest, and the frame is a normal one
  pub record IsRoute (guest : Guest S) (call : PageCall) (route : Route) : Type 0 where
    pub gfn_is : route.gfn ≡ call.gpa / 2 ^ guest.shift
    pub frame_is : route.frame ≡ call.ra / 2 ^ guest.shift
    pub below : route.gfn < length guest.pages.pages
    pub normal : route.frame < guest.normal
    pub kind_is : kind_at guest.pages route.gfn ≡ kind.Secure
    pub rests : mover_at guest.pages route.gfn ≡ None
    pub phase_is : guest.phase ≡ phase.Secure

  -- the code with which UV_PAGE_IN comes back by its operands, by what it reads of the plan and of the guest
  abbrev pub operands_for : Plan → GuestPart → Guest S → PageCall → Option Code
  operands_for plan g guest call = page_in_operands (plan_with plan guest) (part_with g guest) call.ra call.gpa call.flags call.order

  -- whether one of a guest's pages begins at an address
  abbrev pub has_page_at : Guest S → ℕ → Bool
  has_page_at guest gpa = (gpa % 2 ^ guest.shift == 0) && nat_lt (gpa / 2 ^ guest.shift) (length guest.pages.pages)

  -- whether the operands of UV_PAGE_IN are right: the page is Out and at rest, and the frame is a normal one
  abbrev pub are_right_in : Guest S → PageCall → Bool
  are_right_in guest call =
      may_page_in_in guest.phase
      && ((call.ra % 2 ^ guest.shift == 0) && nat_lt (call.ra / 2 ^ guest.shift) guest.normal)
      && (has_page_at guest call.gpa && can_come_in guest.phase (kind_at guest.pages (call.gpa / 2 ^ guest.shift)))
      && not (nat_lt PAGE_IN_FLAGS call.flags)
      && (call.order == guest.shift)
      && not (is_some (mover_at guest.pages (call.gpa / 2 ^ guest.shift)))

  -- a page is Out and at rest, and the frame is a normal one
  pub record IsRouteIn (guest : Guest S) (call : PageCall) (route : Route) : Type 0 where
    pub gfn_is : route.gfn ≡ call.gpa / 2 ^ guest.shift
    pub frame_is : route.frame ≡ call.ra / 2 ^ guest.shift
    pub below : route.gfn < length guest.pages.pages
    pub normal : route.frame < guest.normal
    pub kind_is : kind_at guest.pages route.gfn ≡ kind.Out
    pub rests : mover_at guest.pages route.gfn ≡ None

  -- a page can be sealed into a hand, and begin to move
  pub record CanBegin (takes : S → ℕ → ℕ → Type 0) (guest : Guest S) (hand : List ℕ) (gfn : ℕ) : Type 0 where
    pub below : gfn < length guest.pages.pages
    pub kind_is : kind_at guest.pages gfn ≡ kind.Secure
    pub rests : mover_at guest.pages gfn ≡ None
    pub version : version_at guest.pages gfn < 2 ^ 64 - 1
    pub takes_it : takes guest.sealer gfn (length hand)
    pub size : (frame : FrameState) → frame_at guest.pages gfn ≡ Some frame → length frame.bytes ≡ length hand

  -- the tag under which a page is sealed next
  abbrev pub next_tag : Guest S → ℕ → Tag
  next_tag guest gfn = record { lpid = guest.lpid; generation = guest.generation; gfn = gfn; version = version_at guest.pages gfn + 1 }

  -- a CPU with a page in its hand that is on its way out
  abbrev pub cpu_begun : Guest S → Route → Cpu → List ℕ → Cpu
  cpu_begun guest route cpu hand = record cpu {
    ctx = ctx.Uv (Outward (record { lpid = guest.lpid; generation = guest.generation; gfn = route.gfn; frame = route.frame; copied = false }));
    last = answer.Step;
    hand = hand;
  }

  -- the page of a route was sealed under its next tag into the CPU's hand, and moves; frame: where it lies
  pub record HasBegun (stands : S → Tag → List ℕ → List ℕ → Type 0) (image : S → Tag → List ℕ → List ℕ) (takes : S → ℕ → ℕ → Type 0) (route : Route) (old new : Guest S) (cpu cpu_new : Cpu) : Type 0 where
    pub frame : FrameState
    pub there : frame_at old.pages route.gfn ≡ Some frame
    pub bytes : AreBytes frame.bytes
    pub hand : cpu_new.hand ≡ image old.sealer (next_tag old route.gfn) frame.bytes
    pub stands_for : stands new.sealer (next_tag old route.gfn) frame.bytes cpu_new.hand
    pub others : (tag : Tag) (page sealed : List ℕ) → tag.gfn ≢ route.gfn → stands new.sealer tag page sealed ↔ stands old.sealer tag page sealed
    pub same_image : image new.sealer ≡ image old.sealer
    pub same_takes : (gfn size : ℕ) → takes new.sealer gfn size ↔ takes old.sealer gfn size
    pub size : length cpu_new.hand ≡ length cpu.hand
    pub cpu_is : cpu_new ≡ cpu_begun old route cpu cpu_new.hand
    pub guest_is : new ≡ record old { pages = with_page old.pages route.gfn (page_begun old.pages route.gfn cpu.number cpu_new.hand); sealer = new.sealer }

-- U_BUSY where no secure frame is free
abbrev pub busy_without : List ℕ → Option Code
busy_without [] = Some UBusy
busy_without (number ∷ more) = None

-- the code of a result
abbrev pub code_of : {X : Type 0} → Result X Code → Option Code
code_of (Ok value) = None
code_of (Err code) = Some code

-- whether a result is a value
abbrev pub has_value : {X : Type 0} → Result X Code → Bool
has_value (Ok value) = true
has_value (Err code) = false
