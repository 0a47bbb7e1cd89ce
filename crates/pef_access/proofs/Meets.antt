-- What is known of a guest's pages by what an access met.
use Rattle.std.proofs.Common.{◌≡◌, ℕ, ◌+◌, ◌/◌, ◌%◌, ◌^◌, ◌<◌, ◌≤◌, ◌==◌, Bool, true, false, if◌then◌else◌, List, Option, Some, None, length, is_some, arith, refl, ap, sym, subst}
use Rattle.std.proofs.lemmas.Bool.Decides.{nat_tests}
use Rattle.pef_model.specs.declared.state.Phase.{Phase}
use Rattle.pef_model.specs.declared.state.Phase.TheVariants as phase
use Rattle.pef_model.specs.declared.state.Slot.{Slot}
use Rattle.pef_model.specs.GuestPart.{Meeting, NoPlace, Moves, Private, Unbacked, meets_kind}
use Rattle.pef_model.proofs.Places.{room_at}
use Rattle.pef_frames.specs.Frame.{FrameState}
use Rattle.pef_pages.specs.declared.cell.Cell.{Cell}
use Rattle.pef_pages.specs.declared.cell.Cell.TheVariants as cell
use Rattle.pef_pages.specs.Cells.{kind_of, mover_of, frame_in}
use Rattle.pef_pages.specs.Pages.{PagesState, cell_at}
use Rattle.pef_guest.specs.declared.guest.Guest.{Guest}
use Rattle.pef_guest.specs.Whole.{IsOutside}
use Rattle.pef_guest.specs.Ready.{may_run_in}
use Rattle.pef_access.specs.Access.{is_in_slot, meets_page_at, meets_at, meets_frame, meets_in_phase, meets_guest, HaveFrames}

-- an address is that of a doubleword in one of the pages, and its page has this cell
pub record IsAt (shift : ℕ) (pages : PagesState FrameState) (gpa : ℕ) (c : Cell FrameState) : Type 0 where
  pub aligned : gpa % 8 ≡ 0
  pub below : gpa / 2 ^ shift < length pages.pages
  pub cell_is : cell_at pages (gpa / 2 ^ shift) ≡ c

-- the page of an address is at rest in this frame, which has the size of a page
pub record IsHeld (shift : ℕ) (pages : PagesState FrameState) (gpa : ℕ) : Type 0 where
  pub frame : FrameState
  pub at : IsAt shift pages gpa (cell.Secure frame)
  pub size : length frame.bytes ≡ 2 ^ shift

-- the place of a doubleword is in its frame
pub room_in : (shift : ℕ) (pages : PagesState FrameState) (gpa : ℕ) → 8 ≤ shift → (h : IsHeld shift pages gpa) → gpa % 2 ^ shift + 8 ≤ length h.frame.bytes
room_in shift pages gpa least h = let fits : gpa % 2 ^ shift + 8 ≤ 2 ^ shift = room_at shift gpa least h.at.aligned in omega (arith, fits, h.size)

-- a test of an address that holds
pub placed : (shift count : ℕ) (slots : List Slot) (gpa : ℕ) → is_in_slot shift count slots gpa ≡ true → (gpa % 8 ≡ 0) × (gpa / 2 ^ shift < count)
placed shift count slots gpa e = (grind (arith, nat_tests), grind (arith, nat_tests))

module _ (shift : ℕ) (slots : List Slot) (pages : PagesState FrameState) (gpa : ℕ) where
  -- what is known where an access met this
  abbrev Known : Meeting → Type 0
  Known Private = IsHeld shift pages gpa
  Known Unbacked = IsAt shift pages gpa cell.Invalid
  Known met = Unit {0}

  by_cell : HaveFrames (2 ^ shift) pages → (gpa % 8 ≡ 0) × (gpa / 2 ^ shift < length pages.pages) → (c : Cell FrameState) → cell_at pages (gpa / 2 ^ shift) ≡ c → Known (if is_some (mover_of c) then Moves else meets_kind (kind_of c))
  by_cell sizes place (cell.Secure frame) is = record {
    frame = frame;
    at = record { aligned = place.0; below = place.1; cell_is = is };
    size = sizes (gpa / 2 ^ shift) frame (ap frame_in is);
  }
  by_cell sizes place cell.Invalid is = record { aligned = place.0; below = place.1; cell_is = is }
  by_cell sizes place (cell.Out digest) is = tt
  by_cell sizes place (cell.Shared frame) is = tt
  by_cell sizes place (cell.Unbacked fresh) is = tt
  by_cell sizes place (cell.MovesOut frame cpu digest) is = tt
  by_cell sizes place (cell.MovesIn frame cpu digest) is = tt

  by_place : HaveFrames (2 ^ shift) pages → (b : Bool) → is_in_slot shift (length pages.pages) slots gpa ≡ b → Known (if b then meets_page_at pages (gpa / 2 ^ shift) else NoPlace)
  by_place sizes true test = by_cell sizes (placed shift (length pages.pages) slots gpa test) (cell_at pages (gpa / 2 ^ shift)) refl
  by_place sizes false test = tt

  pub known : (r : Meeting) → HaveFrames (2 ^ shift) pages → meets_at shift slots pages gpa ≡ r → Known r
  known r sizes is = subst Known is (by_place sizes (is_in_slot shift (length pages.pages) slots gpa) refl)

-- an access that meets a page of the guest's own: its secure frame, or an Invalid one
abbrev pub IsOwn : Meeting → Type 0
IsOwn Private = Unit {0}
IsOwn Unbacked = Unit {0}
IsOwn met = ⊥

-- none does through a partition entry
not_through : (b : Bool) (o : Option ℕ) (r : Meeting) → (if b then meets_frame o else NoPlace) ≡ r → IsOwn r → ⊥
not_through true (Some number) r is own = subst IsOwn (sym is) own
not_through true None r is own = subst IsOwn (sym is) own
not_through false o r is own = subst IsOwn (sym is) own

-- so such an access is of a guest that is inside, and meets it in the pages
pub own_inside : {S : Type 0} (guest : Guest S) (gpa : ℕ) (r : Meeting) → may_run_in guest.phase ≡ true → meets_guest guest gpa ≡ r → IsOwn r → (IsOutside guest.phase → ⊥) × (meets_at guest.shift guest.slots guest.pages gpa ≡ r)
own_inside guest gpa r = by_phase guest.phase where
  by_phase : (p : Phase) → may_run_in p ≡ true → meets_in_phase p guest.shift guest.entry guest.slots guest.pages gpa ≡ r → IsOwn r → (IsOutside p → ⊥) × (meets_at guest.shift guest.slots guest.pages gpa ≡ r)
  by_phase phase.Normal may is own = absurd (not_through (gpa % 8 == 0) _ r is own)
  by_phase phase.Starting may is own = (λ outside. outside, is)
  by_phase phase.Secure may is own = (λ outside. outside, is)
  by_phase p may is own = absurd cc
