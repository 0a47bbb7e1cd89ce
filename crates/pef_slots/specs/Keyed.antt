-- How a map has the slots.
use Rattle.std.specs.Prelude.{ℕ, List, map}
use Rattle.pef_model.specs.declared.state.Slot.{Slot}

-- each slot with its id
abbrev pub keyed : List Slot → List (ℕ × Slot)
keyed slots = map (λ slot. (slot.id, slot)) slots
