-- The pages after an access are those of the model's guest after it.
use Rattle.std.proofs.Common.{◌≡◌, ◌≢◌, ℕ, ◌+◌, ◌%◌, ◌^◌, ◌<◌, ◌≤◌, ◌==◌, nat_lt, Bool, true, false, if◌then◌else◌, List, [], ◌∷◌, ◌++◌, Option, Some, None, is_some, unwrap_or, ◌⊎◌, inl, inr, arith, refl, ap, sym, ◌∙◌}
use Rattle.std.proofs.lemmas.List.{length-set}
use Rattle.std.proofs.lemmas.Bool.{cases_eq}
use Rattle.std.proofs.lemmas.Bool.Decides.{nat_tests}
use Rattle.pef_model.specs.declared.state.Kind.{Kind}
use Rattle.pef_model.specs.declared.state.Kind.TheVariants as kind
use Rattle.pef_model.specs.declared.state.Mover.{Mover}
use Rattle.pef_model.specs.declared.state.Phase.{Phase}
use Rattle.pef_model.specs.declared.state.Phase.TheVariants as phase
use Rattle.pef_model.specs.declared.state.Slot.{Slot}
use Rattle.pef_model.specs.declared.state.Tag.{Tag}
use Rattle.pef_model.specs.Plan.{Plan}
use Rattle.pef_model.specs.Target.{frame_of}
use Rattle.pef_model.specs.Doubleword.{doubleword, with_doubleword}
use Rattle.pef_model.specs.GuestPart.{Page as PagePart, PartitionEntry, GuestPart, Meeting, NoPlace, Moves, Normal, page_of, is_in_slot as in_model, meets_kind, meets_page, meets_entry, meets_in, meets, put, secured, with_secure_page}
use Rattle.pef_model.specs.Guest.{Guest}
use Rattle.pef_model.specs.Memory.{offset_of}
use Rattle.pef_model.proofs.Puts.{put-here, put-other}
use Rattle.pef_model.proofs.Doublewords.{doubleword-put, doubleword-other, doubleword-zeros}
use Rattle.pef_model.proofs.Places.{apart_at}
use Rattle.pef_frames.specs.Frame.{FrameState, zero_frame}
use Rattle.pef_pages.specs.declared.cell.Cell.{Cell}
use Rattle.pef_pages.specs.declared.cell.Cell.TheVariants as cell
use Rattle.pef_pages.specs.declared.page.Page.{Page}
use Rattle.pef_pages.specs.Cells.{kind_of, mover_of, frame_in}
use Rattle.pef_pages.specs.Pages.{PagesState, page_at, kind_at, frame_at}
use Rattle.pef_pate.specs.declared.pate.Pate.{Pate}
use Rattle.pef_guest.specs.declared.guest.Guest.{Guest as Machine}
use Rattle.pef_guest.specs.Shows.{HoldsPage, IsZeroPage, ShowsEntry, ShowsPages, Shows}
use Rattle.pef_guest.proofs.OnePage.{each_with_page}
use Rattle.pef_access.specs.Access.{is_in_slot, meets_page_at, meets_at, meets_frame, meets_through, meets_in_phase, meets_guest, doubleword_in}
use Rattle.pef_access.proofs.Meets.{IsAt, IsHeld, placed, room_in}
use Rattle.pef_access.proofs.AccessPages.{page_with, with_secure, with_backed, frame_with, held_where_backed}

-- two choices are the same where they are where the test holds
if_when : {X : Type 0} (b : Bool) (x y z : X) → (b ≡ true → x ≡ y) → (if b then x else z) ≡ (if b then y else z)
if_when true x y z e = e refl
if_when false x y z e = refl

-- an access to an address meets in the pages what it meets in those of the model
meets_pages : (plan : Plan) (slots : List Slot) (pages : PagesState FrameState) (g : Guest) (gpa : ℕ) → slots ≡ g.part.slots → ShowsPages plan pages g → meets_at plan.shift slots pages gpa ≡ (if in_model plan g.part gpa then meets_page (g.part.pages (page_of plan gpa)) else NoPlace)
meets_pages plan slots pages g gpa same shows =
    (λ i. if is_in_slot plan.shift (shows.count i) (same i) gpa then meets_page_at pages (page_of plan gpa) else NoPlace)
    ∙ if_when (is_in_slot plan.shift plan.pages g.part.slots gpa) _ _ NoPlace (λ e.
    let below : page_of plan gpa < plan.pages = (placed plan.shift plan.pages g.part.slots gpa e).1 in
    ap (λ (mover : Option Mover). if is_some mover then Moves else meets_kind (kind_at pages (page_of plan gpa))) (shows.movers (page_of plan gpa) below)
    ∙ ap (λ (k : Kind). if is_some (g.part.pages (page_of plan gpa)).mover then Moves else meets_kind k) (shows.kinds (page_of plan gpa) below))

-- and through a partition entry
meets_entry_is : (plan : Plan) (entry : Pate) (part : PartitionEntry) (gpa : ℕ) → ShowsEntry entry part → meets_through plan.shift entry gpa ≡ (if gpa % 8 == 0 then meets_entry plan part (page_of plan gpa) else NoPlace)
meets_entry_is plan entry part gpa shows =
    ap (λ (m : Meeting). if gpa % 8 == 0 then m else NoPlace)
    (by_test (nat_lt (page_of plan gpa) entry.dw1) (frame_of plan entry.dw0 + page_of plan gpa)
    ∙ (λ i. if nat_lt (page_of plan gpa) (shows.length_is i) then Normal (frame_of plan (shows.base i) + page_of plan gpa) else NoPlace)) where
      by_test : (b : Bool) (number : ℕ) → meets_frame (if b then Some number else None) ≡ (if b then Normal number else NoPlace)
      by_test true number = refl
      by_test false number = refl

-- so an access of a guest meets in the machine what it meets in the model, in each phase
pub meets_is : {S : Type 0} (stands : S → Tag → List ℕ → List ℕ → Type 0) (image : S → Tag → List ℕ → List ℕ) (plan : Plan) (guest : Machine S) (g : Guest) (gpa : ℕ) → Shows stands image plan guest g → meets_guest guest gpa ≡ meets plan g.part gpa
meets_is stands image plan guest g gpa shows = ap (λ (p : Phase). meets_in_phase p guest.shift guest.entry guest.slots guest.pages gpa) shows.phase ∙ by_phase g.part.phase where
  by_phase : (p : Phase) → meets_in_phase p guest.shift guest.entry guest.slots guest.pages gpa ≡ meets_in p plan g.part gpa
  by_phase phase.Normal = ap (λ (shift : ℕ). meets_through shift guest.entry gpa) shows.shift ∙ meets_entry_is plan guest.entry g.part.entry gpa shows.entry
  by_phase other = ap (λ (shift : ℕ). meets_at shift guest.slots guest.pages gpa) shows.shift ∙ meets_pages plan guest.slots guest.pages g gpa shows.slots shows.pages

-- the model's public part after an access that was done, by whether it backs its page
abbrev pub part_after : Plan → GuestPart → ℕ → Bool → GuestPart
part_after plan g at backs = if backs then with_secure_page g (page_of plan at) else g

-- the doublewords after a store
abbrev pub content_after : Guest → ℕ → ℕ → ℕ → ℕ
content_after g at value gpa = unwrap_or (if at == gpa then Some value else None) (g.content gpa)

-- what the pages and the model's guest are after an access that was done
pub record IsDone (plan : Plan) (pages : PagesState FrameState) (g : Guest) (gpa : ℕ) (backs : Bool) : Type 0 where
  pub held : IsHeld plan.shift pages gpa
  pub shows : ShowsPages plan pages (record g { part = part_after plan g.part gpa backs })

-- an access to a page in its frame leaves the pages
pub done_in_frame : (plan : Plan) (pages : PagesState FrameState) (g : Guest) (gpa : ℕ) → ShowsPages plan pages g → IsHeld plan.shift pages gpa → IsDone plan pages g gpa false
done_in_frame plan pages g gpa shows held = record { held = held; shows = shows }

-- the pages after one of them was backed
module _ (plan : Plan) (pages : PagesState FrameState) (g : Guest) (at number : ℕ) (shows : ShowsPages plan pages g) (is : IsAt plan.shift pages at cell.Invalid) where
  -- the model has a Secure page there, and the others as before
  abbrev backed : PagePart
  backed = secured (g.part.pages (page_of plan at))

  abbrev after : Guest
  after = record g { part = with_secure_page g.part (page_of plan at) }

  -- what the model's guest after it says of a page
  record IsBackedPage (n : ℕ) (page : Page FrameState) : Type 0 where
    kind_is : n < plan.pages → kind_of page.cell ≡ (put g.part.pages (page_of plan at) backed n).kind
    mover_is : n < plan.pages → mover_of page.cell ≡ (put g.part.pages (page_of plan at) backed n).mover
    holds : (frame : FrameState) → kind_of page.cell ≡ kind.Secure → frame_in page.cell ≡ Some frame → HoldsPage plan after n frame
    zeros : kind_of page.cell ≡ kind.Invalid → IsZeroPage plan after n

  here : IsBackedPage (page_of plan at) (page_with (page_at pages (page_of plan at)) (cell.Secure (zero_frame (2 ^ plan.shift) number)))
  here = record {
    kind_is = λ below. sym (ap (λ (page : PagePart). page.kind) (put-here g.part.pages (page_of plan at) backed));
    mover_is = λ below. sym (ap (λ (page : PagePart). page.mover) (put-here g.part.pages (page_of plan at) backed));
    holds = λ frame k e gpa aligned page.
        let same : frame ≡ zero_frame (2 ^ plan.shift) number = cc in
        ap (λ (f : FrameState). doubleword f.bytes (offset_of plan gpa)) same ∙ doubleword-zeros (2 ^ plan.shift) (offset_of plan gpa) ∙ sym (shows.zeros (page_of plan at) (ap kind_of is.cell_is) gpa page);
    zeros = λ invalid. absurd cc;
  }

  there : (n : ℕ) → n ≢ page_of plan at → IsBackedPage n (page_at pages n)
  there n other = record {
    kind_is = λ below. shows.kinds n below ∙ sym (ap (λ (page : PagePart). page.kind) (put-other g.part.pages (page_of plan at) backed n other));
    mover_is = λ below. shows.movers n below ∙ sym (ap (λ (page : PagePart). page.mover) (put-other g.part.pages (page_of plan at) backed n other));
    holds = shows.holds n;
    zeros = shows.zeros n;
  }

  each : (n : ℕ) → IsBackedPage n (page_at (with_backed plan.shift pages (page_of plan at) number) n)
  each = each_with_page IsBackedPage pages (page_of plan at) (page_with (page_at pages (page_of plan at)) (cell.Secure (zero_frame (2 ^ plan.shift) number))) is.below here there

  -- an access that backs its page leaves it in a frame of zeros, last in the order
  pub done_backed : IsDone plan (with_backed plan.shift pages (page_of plan at) number) g at true
  done_backed = record {
    held = held_where_backed plan.shift pages at number is;
    shows = record {
      count = length-set pages.pages (page_of plan at) (page_with (page_at pages (page_of plan at)) (cell.Secure (zero_frame (2 ^ plan.shift) number))) ∙ shows.count;
      kinds = λ n. (each n).kind_is;
      movers = λ n. (each n).mover_is;
      order = ap (λ (order : List ℕ). order ++ page_of plan at ∷ []) shows.order;
      holds = λ n. (each n).holds;
      zeros = λ n. (each n).zeros;
    };
  }

-- the doubleword that an access finds is the one that the guest has there
pub value_is : (plan : Plan) (pages : PagesState FrameState) (g : Guest) (gpa : ℕ) (backs : Bool) → IsDone plan pages g gpa backs → doubleword_in (frame_at pages (page_of plan gpa)) (offset_of plan gpa) ≡ g.content gpa
value_is plan pages g gpa backs d =
    ap (λ (c : Cell FrameState). doubleword_in (frame_in c) (offset_of plan gpa)) d.held.at.cell_is
    ∙ d.shows.holds (page_of plan gpa) d.held.frame (ap kind_of d.held.at.cell_is) (ap frame_in d.held.at.cell_is) gpa d.held.at.aligned refl

-- a store changes one doubleword
stored_here : (g : Guest) (at value gpa : ℕ) → at ≡ gpa → content_after g at value gpa ≡ value
stored_here g at value gpa here = ap (λ (b : Bool). unwrap_or (if b then Some value else None) (g.content gpa)) (let test : (at == gpa) ≡ true = grind (arith, nat_tests) in test)

pub stored_there : (g : Guest) (at value gpa : ℕ) → at ≢ gpa → content_after g at value gpa ≡ g.content gpa
stored_there g at value gpa there = ap (λ (b : Bool). unwrap_or (if b then Some value else None) (g.content gpa)) (let test : (at == gpa) ≡ false = grind (arith, nat_tests) in test)

-- the pages after a doubleword was put into a page at rest in its frame
module _ (plan : Plan) (pages : PagesState FrameState) (g : Guest) (at value : ℕ) (least : 8 ≤ plan.shift) (small : value < 2 ^ 64) (backs : Bool) (d : IsDone plan pages g at backs) where
  abbrev stored : Guest
  stored = record g { part = part_after plan g.part at backs; content = content_after g at value }

  -- what the model's guest after it says of a page
  record IsStoredPage (n : ℕ) (page : Page FrameState) : Type 0 where
    kind_is : n < plan.pages → kind_of page.cell ≡ (stored.part.pages n).kind
    mover_is : n < plan.pages → mover_of page.cell ≡ (stored.part.pages n).mover
    holds : (frame : FrameState) → kind_of page.cell ≡ kind.Secure → frame_in page.cell ≡ Some frame → HoldsPage plan stored n frame
    zeros : kind_of page.cell ≡ kind.Invalid → IsZeroPage plan stored n

  -- the doublewords of the frame
  in_frame : (gpa : ℕ) → gpa % 8 ≡ 0 → page_of plan gpa ≡ page_of plan at → (at ≡ gpa) ⊎ (at ≢ gpa) →
      doubleword (with_doubleword d.held.frame.bytes (offset_of plan at) value) (offset_of plan gpa) ≡ content_after g at value gpa
  in_frame gpa aligned page (inl same) =
      ap (λ (n : ℕ). doubleword (with_doubleword d.held.frame.bytes (offset_of plan at) value) (offset_of plan n)) (sym same)
      ∙ doubleword-put d.held.frame.bytes (offset_of plan at) value (room_in plan.shift pages at least d.held) small
      ∙ sym (stored_here g at value gpa same)
  in_frame gpa aligned page (inr other) =
      doubleword-other d.held.frame.bytes (offset_of plan at) (offset_of plan gpa) value (room_in plan.shift pages at least d.held)
      (apart_at plan.shift at gpa least d.held.at.aligned aligned (sym page) other)
      ∙ d.shows.holds (page_of plan at) d.held.frame (ap kind_of d.held.at.cell_is) (ap frame_in d.held.at.cell_is) gpa aligned page
      ∙ sym (stored_there g at value gpa other)

  page_here : IsStoredPage (page_of plan at) (page_with (page_at pages (page_of plan at)) (cell.Secure (frame_with d.held.frame (offset_of plan at) value)))
  page_here = record {
    kind_is = λ below. sym (ap kind_of d.held.at.cell_is) ∙ d.shows.kinds (page_of plan at) below;
    mover_is = λ below. sym (ap mover_of d.held.at.cell_is) ∙ d.shows.movers (page_of plan at) below;
    holds = λ frame k e gpa aligned page.
        let same : frame ≡ frame_with d.held.frame (offset_of plan at) value = cc in
        ap (λ (f : FrameState). doubleword f.bytes (offset_of plan gpa)) same ∙ in_frame gpa aligned page (cases_eq at gpa);
    zeros = λ invalid. absurd cc;
  }

  -- an address of another page is another
  apart : (n gpa : ℕ) → n ≢ page_of plan at → page_of plan gpa ≡ n → at ≢ gpa
  apart n gpa other page same = other (sym page ∙ ap (page_of plan) (sym same))

  page_there : (n : ℕ) → n ≢ page_of plan at → IsStoredPage n (page_at pages n)
  page_there n other = record {
    kind_is = d.shows.kinds n;
    mover_is = d.shows.movers n;
    holds = λ frame k e gpa aligned page. d.shows.holds n frame k e gpa aligned page ∙ sym (stored_there g at value gpa (apart n gpa other page));
    zeros = λ invalid gpa page. stored_there g at value gpa (apart n gpa other page) ∙ d.shows.zeros n invalid gpa page;
  }

  each_page : (n : ℕ) → IsStoredPage n (page_at (with_secure pages (page_of plan at) (frame_with d.held.frame (offset_of plan at) value)) n)
  each_page = each_with_page IsStoredPage pages (page_of plan at) (page_with (page_at pages (page_of plan at)) (cell.Secure (frame_with d.held.frame (offset_of plan at) value))) d.held.at.below page_here page_there

  pub shows_stored : ShowsPages plan (with_secure pages (page_of plan at) (frame_with d.held.frame (offset_of plan at) value)) stored
  shows_stored = record {
    count = length-set pages.pages (page_of plan at) (page_with (page_at pages (page_of plan at)) (cell.Secure (frame_with d.held.frame (offset_of plan at) value))) ∙ d.shows.count;
    kinds = λ n. (each_page n).kind_is;
    movers = λ n. (each_page n).mover_is;
    order = d.shows.order;
    holds = λ n. (each_page n).holds;
    zeros = λ n. (each_page n).zeros;
  }
