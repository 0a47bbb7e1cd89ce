-- A guest's memory slots: disjoint runs of its pages, in the order in which they were registered.
use Rattle.std.specs.Prelude.{◌≡◌, ◌≢◌, ℕ, ◌+◌, ◌^◌, ◌<◌, ◌≤◌, ◌==◌, nat_lt, nat_le, Bool, true, false, not, ◌&&◌, List, [], ◌∷◌, ◌++◌, length, filter, All, AllPairs}
use Rattle.std.specs.List.{list_any, range_with_len}
use Rattle.pef_model.specs.declared.state.Slot.{Slot}
use Rattle.pef_model.specs.declared.command.Code.{Code}
use Rattle.pef_model.specs.declared.command.Code.TheVariants.{USuccess}
use Rattle.pef_model.specs.Plan.{Plan}

-- whether a page lies in a slot
abbrev pub has : Slot → ℕ → Bool
has slot gfn = nat_le slot.first gfn && nat_lt gfn (slot.first + slot.count)

-- whether one of so many pages, from a first one on, lies in a slot
abbrev pub has_any : Slot → ℕ → ℕ → Bool
has_any slot first count = list_any (has slot) (range_with_len first count)

-- whether a page lies in one of the slots
abbrev pub has_slot : List Slot → ℕ → Bool
has_slot slots gfn = list_any (λ slot. has slot gfn) slots

-- whether one of so many pages does, from a first one on
abbrev pub meets_slots : List Slot → ℕ → ℕ → Bool
meets_slots slots first count = list_any (λ slot. has_any slot first count) slots

-- whether one of the slots has an id
abbrev pub has_id : List Slot → ℕ → Bool
has_id slots id = list_any (λ slot. id == slot.id) slots

-- the slots without the one with an id, in their order
abbrev pub without : List Slot → ℕ → List Slot
without slots id = filter (λ slot. not (id == slot.id)) slots

-- two slots have two ids, and no page lies in both
pub record AreApart (slot other : Slot) : Type 0 where
  pub ids : slot.id ≢ other.id
  pub pages : (gfn : ℕ) → has slot gfn ≡ true → has other gfn ≡ true → ⊥

-- at most 32 slots, none of them empty, each two apart, and the ids have 16 bits
pub record AreSlots (slots : List Slot) : Type 0 where
  pub few : length slots ≤ 32
  pub filled : All (λ slot. 0 < slot.count) slots
  pub ids : All (λ slot. slot.id < 2 ^ 16) slots
  pub apart : AllPairs AreApart slots

-- the slots with which a guest begins: one that is born secure has slot 0, over all its pages
abbrev pub start_slots : Plan → Bool → List Slot
start_slots plan true = record { id = 0; first = 0; count = plan.pages } ∷ []
start_slots plan false = []

-- the slots after a registration that comes back with this code: a new one is last
abbrev pub registered_by : Code → List Slot → Slot → List Slot
registered_by USuccess slots slot = slots ++ slot ∷ []
registered_by code slots slot = slots

-- and after the one with an id is taken out
abbrev pub unregistered_by : Code → List Slot → ℕ → List Slot
unregistered_by USuccess slots id = without slots id
unregistered_by code slots id = slots
