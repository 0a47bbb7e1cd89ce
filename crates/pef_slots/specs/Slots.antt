-- What the calls about a guest's memory slots do.
use Rattle.std.specs.Prelude.{ℕ, ◌+◌, ◌/◌, ◌%◌, ◌^◌, ◌==◌, nat_lt, nat_le, Bool, not, ◌&&◌, if◌then◌else◌, List, [], ◌∷◌, ◌++◌, length, Option, Result, Ok, Err}
use Rattle.std.specs.List.{find}
use Rattle.std.specs.Option.{option_map, ok_or}
use Rattle.pef_model.specs.declared.state.Slot.{Slot}
use Rattle.pef_model.specs.Slots.{has, has_id, meets_slots}
use Rattle.pef_slots.specs.declared.slot.SlotFault.{SlotFault}
use Rattle.pef_slots.specs.declared.slot.SlotFault.TheVariants.{BadStart, BadSize, Overlap, BadFlags, IdOutOfRange, IdTaken, Full, NoSlot}

-- a start is the address of one of the guest's pages
abbrev pub is_start : ℕ → ℕ → ℕ → Bool
is_start shift pages start = (start % 2 ^ shift == 0) && nat_lt (start / 2 ^ shift) pages

-- a size is that of one or more pages, and from a first page on the guest has that many
abbrev pub is_size : ℕ → ℕ → ℕ → ℕ → Bool
is_size shift pages first size = not (size == 0) && (size % 2 ^ shift == 0) && nat_le (first + size / 2 ^ shift) pages

-- the slot that is asked for, or the first thing that is wrong with it
abbrev pub checked : ℕ → ℕ → List Slot → ℕ → ℕ → ℕ → ℕ → Result Slot SlotFault
checked shift pages slots start size flags id =
    if not (is_start shift pages start) then Err BadStart
    else if not (is_size shift pages (start / 2 ^ shift) size) then Err BadSize
    else if meets_slots slots (start / 2 ^ shift) (size / 2 ^ shift) then Err Overlap
    else if not (flags == 0) then Err BadFlags
    else if nat_le (2 ^ 16) id then Err IdOutOfRange
    else if has_id slots id then Err IdTaken
    else if nat_le 32 (length slots) then Err Full
    else Ok (record { id = id; first = start / 2 ^ shift; count = size / 2 ^ shift })

-- what a registration answers: the refusal, or nothing more than that there was none
abbrev pub answered : Result Slot SlotFault → Result (Unit {0}) SlotFault
answered (Ok slot) = Ok tt
answered (Err fault) = Err fault

-- the slots after a registration: a new one is last, and a refusal changes nothing
abbrev pub registered : List Slot → Result Slot SlotFault → List Slot
registered slots (Ok slot) = slots ++ slot ∷ []
registered slots (Err fault) = slots

-- the slot with an id, or that there is none
abbrev pub found : List Slot → ℕ → Result Slot SlotFault
found slots id = ok_or (find (λ slot. id == slot.id) slots) NoSlot

-- the id of the slot that has a page
abbrev pub slot_at : List Slot → ℕ → Option ℕ
slot_at slots gfn = option_map (λ slot. slot.id) (find (λ slot. has slot gfn) slots)
