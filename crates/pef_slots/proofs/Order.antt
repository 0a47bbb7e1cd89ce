-- Which slots are found, and which stay where one leaves.
use Rattle.std.proofs.Common.{◌≡◌, ◌≢◌, ◌⊎◌, inl, inr, ℕ, suc, ◌+◌, ◌<◌, ◌==◌, true, false, cond, not, List, [], ◌∷◌, ◌++◌, length, All, get_or, Some, None, Ok, refl, sym, ap, subst, ◌∙◌, arith, length-append}
use Rattle.std.specs.List.{find, slice_get}
use Rattle.std.specs.Option.{ok_or, option_or}
use Rattle.std.proofs.lemmas.Bool.{cases_order}
use Rattle.std.proofs.lemmas.Bool.Decides.{nat_tests}
use Rattle.std.proofs.lemmas.List.{append-nil, get_or_append_left, get_or-append-add}
use Rattle.std.proofs.lemmas.List.Elements.{filter-append}
use Rattle.std.proofs.lemmas.List.Folds.{find-append}
use Rattle.std.proofs.lemmas.Option.{get_or_from_slice_get, slice_get_within}
use Rattle.pef_model.specs.declared.state.Slot.{Slot}
use Rattle.pef_model.specs.Slots.{without, AreApart, AreSlots}
use Rattle.pef_slots.specs.declared.slot.SlotFault.TheVariants.{NoSlot}
use Rattle.pef_slots.specs.Slots.{found}
use Rattle.pef_slots.specs.SlotsLaw.{PageHasOneSlot, RegisteredComesOut}
use Rattle.pef_slots.proofs.Apart.{joined}
use Rattle.pef_slots.proofs.Checked.{accepted}
use Rattle.pef_slots.proofs.Found.{all_fail}

-- two that stand at two places are apart
apart_at : (slots : List Slot) (i j : ℕ) (slot other : Slot) → AreSlots slots → slice_get slots i ≡ Some slot → slice_get slots j ≡ Some other → i < j → AreApart slot other
apart_at slots i j slot other are here there before =
    let apart = are.apart i j slot before (slice_get_within slots j other there) in
    subst (λ s. AreApart slot s) (get_or_from_slice_get slots j other slot there) (subst (λ s. AreApart s (get_or slots j slot)) (get_or_from_slice_get slots i slot slot here) apart)

pub one_slot : PageHasOneSlot
one_slot slots i j slot other gfn are here there is_in is_too = by (cases_order i j)
  where
    by : (i ≡ j) ⊎ ((i < j) ⊎ (j < i)) → i ≡ j
    by (inl same) = same
    by (inr (inl before)) = absurd ((apart_at slots i j slot other are here there before).pages gfn is_in is_too)
    by (inr (inr behind)) = absurd ((apart_at slots j i other slot are there here behind).pages gfn is_too is_in)

-- slots without an id stay as they are
all_stay : (slots : List Slot) (id : ℕ) → All (λ slot. id ≢ slot.id) slots → without slots id ≡ slots
all_stay [] id others = refl
all_stay (slot ∷ slots) id others =
    let stays : not (id == slot.id) ≡ true = grind (arith, nat_tests, others 0 slot (omega arith)) in
    ap (λ b. cond b (slot ∷ without slots id) (without slots id)) stays ∙ ap (λ rest. slot ∷ rest) (all_stay slots id (λ k d below. others (suc k) d (omega (arith, below))))

module _ (front back : List Slot) (slot : Slot) (are : AreSlots (front ++ slot ∷ back)) where
  -- each before it has another id
  before : All (λ other. slot.id ≢ other.id) front
  before k d below same =
      let apart = are.apart k (length front + 0) d (omega (arith, below)) (omega (arith, length-append front (slot ∷ back))) in
      let here = get_or_append_left front (slot ∷ back) d k below in
      let there = get_or-append-add front (slot ∷ back) 0 d in
      apart.ids (ap (λ s. s.id) here ∙ sym same ∙ ap (λ s. s.id) (sym there))

  -- so none of them is found by its id
  pub none_before : find (λ other. slot.id == other.id) front ≡ None
  none_before = all_fail (λ other. slot.id == other.id) front (λ k d below. grind (arith, nat_tests, before k d below))

  -- and each behind it has another
  behind : All (λ other. slot.id ≢ other.id) back
  behind k d below same =
      let apart = are.apart (length front + 0) (length front + suc k) d (omega arith) (omega (arith, length-append front (slot ∷ back), below)) in
      let here = get_or-append-add front (slot ∷ back) 0 d in
      let there = get_or-append-add front (slot ∷ back) (suc k) d in
      apart.ids (ap (λ s. s.id) here ∙ same ∙ ap (λ s. s.id) (sym there))

  pub keep_order : without (front ++ slot ∷ back) slot.id ≡ front ++ back
  keep_order =
      let leaves : not (slot.id == slot.id) ≡ false = grind (arith, nat_tests) in
      filter-append (λ other. not (slot.id == other.id)) front (slot ∷ back)
      ∙ ap (λ rest. without front slot.id ++ cond rest (slot ∷ without back slot.id) (without back slot.id)) leaves
      ∙ ap (λ rest. rest ++ without back slot.id) (all_stay front slot.id before)
      ∙ ap (λ rest. front ++ rest) (all_stay back slot.id behind)

-- the last is found by its id
found_last : (slots : List Slot) (slot : Slot) → AreSlots (slots ++ slot ∷ []) → found (slots ++ slot ∷ []) slot.id ≡ Ok slot
found_last slots slot are =
    let has_it : (slot.id == slot.id) ≡ true = grind (arith, nat_tests) in
    ap (λ o. ok_or o NoSlot) (
    find-append (λ other. slot.id == other.id) slots (slot ∷ [])
    ∙ ap (λ o. option_or o (cond (slot.id == slot.id) (Some slot) None)) (none_before slots [] slot are)
    ∙ ap (λ b. option_or None (cond b (Some slot) None)) has_it
    )

pub comes_out : RegisteredComesOut
comes_out shift pages slots start size flags id slot are h =
    let ok = accepted shift pages slots start size flags id slot h in
    let id_is : slot.id ≡ id = ap (λ s. s.id) ok.slot_is in
    let all = joined shift pages slots start size flags id slot are h in
    let last = found_last slots slot all in
    let rest = keep_order slots [] slot all ∙ append-nil slots in
    (ap (found (slots ++ slot ∷ [])) (sym id_is) ∙ last, ap (without (slots ++ slot ∷ [])) (sym id_is) ∙ rest)
