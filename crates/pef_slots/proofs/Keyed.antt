-- A map's entries are the slots with their ids.
use Rattle.std.proofs.Common.{◌≡◌, ℕ, ◌==◌, nat_eq, Bool, true, false, cond, not, List, [], ◌∷◌, ◌++◌, map, filter, Some, is_some, refl, sym, ap, ◌∙◌}
use Rattle.std.specs.List.{find}
use Rattle.std.specs.Map.{lookup, values_of}
use Rattle.std.proofs.lemmas.List.{map-append}
use Rattle.pef_model.specs.declared.state.Slot.{Slot}
use Rattle.pef_model.specs.Slots.{has_id, without}
use Rattle.pef_slots.specs.Keyed.{keyed}
use Rattle.pef_slots.proofs.Found.{is_some-found}

-- their values are the slots
pub values-keyed : (slots : List Slot) → values_of (keyed slots) ≡ slots
values-keyed [] = refl
values-keyed (slot ∷ slots) = ap (λ rest. slot ∷ rest) (values-keyed slots)

-- a look-up finds the first slot with the id
pub lookup-keyed : (slots : List Slot) (id : ℕ) → lookup (nat_eq id) (keyed slots) ≡ find (λ slot. id == slot.id) slots
lookup-keyed [] id = refl
lookup-keyed (slot ∷ slots) id = ap (cond (id == slot.id) (Some slot)) (lookup-keyed slots id)

-- one of two rests stands alone or behind the first
either : {X Y : Type 0} (f : X → Y) (b : Bool) (x : X) (xs : List X) (ys : List Y) → ys ≡ map f xs → cond b (f x ∷ ys) ys ≡ map f (cond b (x ∷ xs) xs)
either f true x xs ys same = ap (λ rest. f x ∷ rest) same
either f false x xs ys same = same

-- the entries without an id are those of the slots without it
pub filter-keyed : (slots : List Slot) (id : ℕ) → filter (λ e. not (id == e.0)) (keyed slots) ≡ keyed (without slots id)
filter-keyed [] id = refl
filter-keyed (slot ∷ slots) id = either (λ (s : Slot). (s.id, s)) (not (id == slot.id)) slot (without slots id) _ (filter-keyed slots id)

-- it finds one exactly where a slot has the id
pub is_some-keyed : (slots : List Slot) (id : ℕ) → is_some (lookup (nat_eq id) (keyed slots)) ≡ has_id slots id
is_some-keyed slots id = ap is_some (lookup-keyed slots id) ∙ is_some-found (λ slot. id == slot.id) slots

module _ (es more : List (ℕ × Slot)) (slot : Slot) (put : more ≡ es ++ (slot.id, slot) ∷ []) where
  -- one more entry is one more slot
  pub values-more : values_of more ≡ values_of es ++ slot ∷ []
  values-more = ap values_of put ∙ map-append (λ (e : ℕ × Slot). e.1) es ((slot.id, slot) ∷ [])

  -- which has its id
  pub keyed-more : es ≡ keyed (values_of es) → more ≡ keyed (values_of more)
  keyed-more same =
      put ∙ ap (λ xs. xs ++ (slot.id, slot) ∷ []) same
      ∙ sym (map-append (λ (s : Slot). (s.id, s)) (values_of es) (slot ∷ []))
      ∙ ap keyed (sym values-more)
