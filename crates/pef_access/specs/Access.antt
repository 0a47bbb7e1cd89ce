-- What an access of a guest meets in the machine, and what it leaves.
use Rattle.std.specs.Prelude.{◌≡◌, ℕ, ◌+◌, ◌/◌, ◌%◌, ◌^◌, ◌==◌, ◌<◌, ◌≤◌, nat_lt, Bool, true, false, ◌&&◌, if◌then◌else◌, List, length, slice_index, slice_set, Option, Some, None, is_some, Result, Ok, Err}
use Rattle.std.specs.Vec.{with_item}
use Rattle.pef_model.specs.declared.entry.Answer.{Answer}
use Rattle.pef_model.specs.declared.entry.Answer.TheVariants.{Hole, Again}
use Rattle.pef_model.specs.declared.state.Kind.TheVariants as kind
use Rattle.pef_model.specs.declared.state.Phase.{Phase}
use Rattle.pef_model.specs.declared.state.Phase.TheVariants as phase
use Rattle.pef_model.specs.declared.state.Regs.{Regs}
use Rattle.pef_model.specs.declared.state.Slot.{Slot}
use Rattle.pef_model.specs.Doubleword.{doubleword, with_doubleword}
use Rattle.pef_model.specs.Guest.{at_next_instruction}
use Rattle.pef_model.specs.GuestPart.{Meeting, NoPlace, Moves, Private, Normal, Unbacked, meets_kind}
use Rattle.pef_model.specs.Slots.{has_slot}
use Rattle.pef_num.specs.declared.place.Place.{Place}
use Rattle.pef_pate.specs.declared.pate.Pate.{Pate}
use Rattle.pef_pate.specs.Entry.{frame_at as frame_mapped}
use Rattle.pef_frames.specs.Frame.{FrameState}
use Rattle.pef_pages.specs.declared.cell.Cell.TheVariants as cell
use Rattle.pef_pages.specs.Pages.{PagesState, kind_at, mover_at, frame_at, with_cell, with_frame_at, joins_order}
use Rattle.pef_guest.specs.declared.guest.Guest.{Guest}
use Rattle.pef_guest.specs.Shows.{vcpu_at}
use Rattle.pef_regs.specs.Registers.{with_registers}
use Rattle.pef_guest.specs.Aims.{frame_met}

-- what an access to a page meets
abbrev pub meets_page_at : PagesState FrameState → ℕ → Meeting
meets_page_at pages gfn = if is_some (mover_at pages gfn) then Moves else meets_kind (kind_at pages gfn)

-- where an address lies in pages of 2^shift bytes
abbrev pub place_at : ℕ → ℕ → Place
place_at shift gpa = record { page = gpa / 2 ^ shift; off = gpa % 2 ^ shift }

-- whether an address is that of a doubleword in one of so many pages of 2^shift bytes
abbrev pub has_place : ℕ → ℕ → ℕ → Bool
has_place shift count gpa = (gpa % 8 == 0) && nat_lt (gpa / 2 ^ shift) count

-- whether it is that of a doubleword in one of those pages that lie in a slot
abbrev pub is_in_slot : ℕ → ℕ → List Slot → ℕ → Bool
is_in_slot shift count slots gpa = has_place shift count gpa && has_slot slots (gpa / 2 ^ shift)

-- what an access to an address of these pages meets, where they lie in these slots
abbrev pub meets_at : ℕ → List Slot → PagesState FrameState → ℕ → Meeting
meets_at shift slots pages gpa = if is_in_slot shift (length pages.pages) slots gpa then meets_page_at pages (gpa / 2 ^ shift) else NoPlace

-- what an access meets in a normal frame, where it has one
abbrev pub meets_frame : Option ℕ → Meeting
meets_frame None = NoPlace
meets_frame (Some number) = Normal number

-- what an access to an address meets through a partition entry
abbrev pub meets_through : ℕ → Pate → ℕ → Meeting
meets_through shift entry gpa = if gpa % 8 == 0 then meets_frame (frame_mapped shift entry (gpa / 2 ^ shift)) else NoPlace

-- by a guest's phase: one in normal memory goes through its partition entry, and every other has the pages in its slots
abbrev pub meets_in_phase : Phase → ℕ → Pate → List Slot → PagesState FrameState → ℕ → Meeting
meets_in_phase phase.Normal shift entry slots pages gpa = meets_through shift entry gpa
meets_in_phase other shift entry slots pages gpa = meets_at shift slots pages gpa

-- what an access of a guest meets
abbrev pub meets_guest : {S : Type 0} → Guest S → ℕ → Meeting
meets_guest guest gpa = meets_in_phase guest.phase guest.shift guest.entry guest.slots guest.pages gpa

-- whether an access asks for a free frame
abbrev pub is_unbacked : Meeting → Bool
is_unbacked Unbacked = true
is_unbacked met = false

-- whether an access of a guest does, by the guest as it is
abbrev pub asks_at : {S : Type 0} → Guest S → ℕ → Bool
asks_at guest gpa = is_unbacked (meets_guest guest gpa)

-- the normal frame into which an access of a guest goes, by its number
abbrev pub through_at : {S : Type 0} → Guest S → ℕ → Option ℕ
through_at guest gpa = frame_met (meets_guest guest gpa)

-- each normal frame that backs a Shared page has a number below this
abbrev pub ShareBelow : ℕ → PagesState FrameState → Type 0
ShareBelow normal pages = (gfn frame : ℕ) (fresh : Bool) → kind_at pages gfn ≡ kind.Shared (Some frame) fresh → frame < normal

-- where an access finds its doubleword, which is in a secure frame already, or what it answers
abbrev pub found_at : Place → Meeting → Result Place Answer
found_at place Private = Ok place
found_at place Moves = Err Again
found_at place met = Err Hole

-- the pages after a page was backed by a frame, if there is one
abbrev pub backed_by : PagesState FrameState → ℕ → Option FrameState → PagesState FrameState
backed_by pages gfn None = pages
backed_by pages gfn (Some frame) = joins_order (with_cell pages gfn (cell.Secure frame)) gfn

-- a doubleword at an offset lies in a page's frame
abbrev pub HasRoom : Option FrameState → ℕ → Type 0
HasRoom None off = ⊥
HasRoom (Some frame) off = off + 8 ≤ length frame.bytes

-- a place is one of a doubleword in the frame of a page
pub record IsReached (pages : PagesState FrameState) (place : Place) : Type 0 where
  pub page : place.page < length pages.pages
  pub room : HasRoom (frame_at pages place.page) place.off

-- the doubleword in a page's frame
abbrev pub doubleword_in : Option FrameState → ℕ → ℕ
doubleword_in None off = 0
doubleword_in (Some frame) off = doubleword frame.bytes off

-- the doubleword at a place
abbrev pub value_at : PagesState FrameState → Place → ℕ
value_at pages place = doubleword_in (frame_at pages place.page) place.off

-- the pages with a doubleword put into a page's frame
abbrev pub stored_in : PagesState FrameState → ℕ → Option FrameState → ℕ → ℕ → PagesState FrameState
stored_in pages gfn None off value = pages
stored_in pages gfn (Some frame) off value = with_frame_at pages gfn (record frame { bytes = with_doubleword frame.bytes off value })

-- the pages with a doubleword put at a place
abbrev pub stored_at : PagesState FrameState → Place → ℕ → PagesState FrameState
stored_at pages place value = stored_in pages place.page (frame_at pages place.page) place.off value

-- each secure frame that the pages have has so many bytes
abbrev pub HaveFrames : ℕ → PagesState FrameState → Type 0
HaveFrames size pages = (gfn : ℕ) (frame : FrameState) → frame_at pages gfn ≡ Some frame → length frame.bytes ≡ size

-- the registers after a load of a value into R rd, and after a store
abbrev pub after_load : ℕ → ℕ → Regs → Regs
after_load rd value regs = at_next_instruction regs (slice_set regs.gpr rd value)

abbrev pub after_store : Regs → Regs
after_store regs = at_next_instruction regs regs.gpr

-- the value of a register of a vCPU
abbrev pub register_at : {S : Type 0} → Guest S → ℕ → ℕ → ℕ
register_at guest vid rs = slice_index (vcpu_at guest vid).regs.gpr rs

-- a guest with the registers of a vCPU changed
abbrev pub with_change : {S : Type 0} → Guest S → ℕ → (Regs → Regs) → Guest S
with_change guest vid change = record guest { vcpus = with_item guest.vcpus vid (with_registers (vcpu_at guest vid) (change (vcpu_at guest vid).regs)) }
