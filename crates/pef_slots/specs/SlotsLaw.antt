-- Laws of slots that come and go.
use Rattle.std.specs.Prelude.{◌≡◌, ℕ, ◌+◌, ◌/◌, ◌^◌, ◌<◌, ◌≤◌, ◌↔◌, true, false, List, [], ◌∷◌, ◌++◌, slice_get, Some, None, Ok}
use Rattle.std.specs.List.{IsAmong}
use Rattle.pef_model.specs.declared.state.Slot.{Slot}
use Rattle.pef_model.specs.Slots.{has, meets_slots, without, AreSlots}
use Rattle.pef_slots.specs.Slots.{checked, found, slot_at}

-- where an accepted slot joins, each two are apart as before
abbrev pub AcceptedStayApart : Type 0
AcceptedStayApart =
    (shift pages : ℕ) (slots : List Slot) (start size flags id : ℕ) (slot : Slot) → AreSlots slots → checked shift pages slots start size flags id ≡ Ok slot →
    AreSlots (slots ++ slot ∷ [])

-- and where one leaves
abbrev pub RemainingStayApart : Type 0
RemainingStayApart = (slots : List Slot) (id : ℕ) → AreSlots slots → AreSlots (without slots id)

-- a page lies in one slot at most
abbrev pub PageHasOneSlot : Type 0
PageHasOneSlot =
    (slots : List Slot) (i j : ℕ) (slot other : Slot) (gfn : ℕ) → AreSlots slots → slice_get slots i ≡ Some slot → slice_get slots j ≡ Some other →
    has slot gfn ≡ true → has other gfn ≡ true → i ≡ j

-- the slot that was registered last is found by its id, and without it the slots are as they were before
abbrev pub RegisteredComesOut : Type 0
RegisteredComesOut =
    (shift pages : ℕ) (slots : List Slot) (start size flags id : ℕ) (slot : Slot) → AreSlots slots → checked shift pages slots start size flags id ≡ Ok slot →
    (found (slots ++ slot ∷ []) id ≡ Ok slot) × (without (slots ++ slot ∷ []) id ≡ slots)

-- where a slot leaves, those before it and those behind it stay, in their order
abbrev pub OthersKeepOrder : Type 0
OthersKeepOrder = (front back : List Slot) (slot : Slot) → AreSlots (front ++ slot ∷ back) → without (front ++ slot ∷ back) slot.id ≡ front ++ back

-- which slot a page has: the one in which it lies, or none where it lies in none
pub record HasItsSlot (slots : List Slot) (gfn : ℕ) : Type 0 where
  pub some : (id : ℕ) → (slot_at slots gfn ≡ Some id) ↔ ((slot : Slot) × IsAmong slots slot × (slot.id ≡ id) × (has slot gfn ≡ true))
  pub none : (slot_at slots gfn ≡ None) ↔ ((slot : Slot) → IsAmong slots slot → has slot gfn ≡ false)

abbrev pub PagesHaveTheirSlot : Type 0
PagesHaveTheirSlot = (slots : List Slot) (gfn : ℕ) → AreSlots slots → HasItsSlot slots gfn

-- a run of pages meets the slots exactly where one of its pages lies in one of them
abbrev pub RunsMeetAtAPage : Type 0
RunsMeetAtAPage =
    (slots : List Slot) (first count : ℕ) → (meets_slots slots first count ≡ true)
    ↔ ((gfn : ℕ) × (slot : Slot) × (first ≤ gfn) × (gfn < first + count) × IsAmong slots slot × (has slot gfn ≡ true))

-- an accepted slot has the page of each byte from the start on, as many bytes as the size, and no other page
abbrev pub SlotHasItsBytes : Type 0
SlotHasItsBytes =
    (shift pages : ℕ) (slots : List Slot) (start size flags id : ℕ) (slot : Slot) (address : ℕ) → checked shift pages slots start size flags id ≡ Ok slot →
    ((start ≤ address) × (address < start + size)) ↔ (has slot (address / 2 ^ shift) ≡ true)

-- and each of its pages is one of the guest's
abbrev pub SlotIsTheGuests : Type 0
SlotIsTheGuests =
    (shift pages : ℕ) (slots : List Slot) (start size flags id : ℕ) (slot : Slot) (gfn : ℕ) → checked shift pages slots start size flags id ≡ Ok slot →
    has slot gfn ≡ true → gfn < pages
