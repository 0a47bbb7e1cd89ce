-- In which slot a page lies.
use Rattle.std.proofs.Common.{◌≡◌, ℕ, ◌+◌, ◌-◌, ◌<◌, ◌≤◌, Bool, true, false, true≢false, List, get_or, Option, Some, None, is_some, refl, sym, ap, ◌∙◌, arith}
use Rattle.std.specs.List.{find, slice_get, position_or_len, IsAmong, range_with_len}
use Rattle.std.specs.Option.{option_map}
use Rattle.std.proofs.lemmas.List.{get_or_default}
use Rattle.std.proofs.lemmas.List.Folds.{Any-from_list_any, list_any_at, find_at}
use Rattle.std.proofs.lemmas.List.FromFn.{length-range_with_len, get_or-range_with_len}
use Rattle.std.proofs.lemmas.Option.{get_or_from_slice_get, slice_get-get_or, slice_get_within}
use Rattle.pef_model.specs.declared.state.Slot.{Slot}
use Rattle.pef_model.specs.Slots.{has, has_any, meets_slots, AreSlots}
use Rattle.pef_slots.specs.Slots.{slot_at}
use Rattle.pef_slots.specs.SlotsLaw.{PagesHaveTheirSlot, RunsMeetAtAPage}
use Rattle.pef_slots.proofs.Found.{passes, each_fails, all_fail}
use Rattle.pef_slots.proofs.Order.{one_slot}

-- what is found is one of them
found_among : (test : Slot → Bool) (slots : List Slot) (slot : Slot) → find test slots ≡ Some slot → IsAmong slots slot
found_among test slots slot found =
    let place : slice_get slots (position_or_len test slots) ≡ Some slot = sym (find_at test slots) ∙ found in
    (position_or_len test slots, (slice_get_within slots (position_or_len test slots) slot place, sym (get_or_from_slice_get slots (position_or_len test slots) slot slot place)))

-- a slot that is one of them stands somewhere
stands : (slots : List Slot) (slot : Slot) (among : IsAmong slots slot) → slice_get slots among.0 ≡ Some slot
stands slots slot among = slice_get-get_or slots among.0 slot among.1.0 ∙ ap Some (sym among.1.1)

module _ (slots : List Slot) (gfn : ℕ) (are : AreSlots slots) where
  -- the one that has the page is found
  only : (slot : Slot) → IsAmong slots slot → has slot gfn ≡ true → slot_at slots gfn ≡ Some slot.id
  only slot among lies = by (find (λ s. has s gfn) slots) refl
    where
      by : (o : Option Slot) → find (λ s. has s gfn) slots ≡ o → option_map (λ s. s.id) o ≡ Some slot.id
      by None nobody = absurd (true≢false (sym lies ∙ ap (λ s. has s gfn) among.1.1 ∙ each_fails (λ s. has s gfn) slots among.0 slot nobody among.1.0))
      by (Some other) found =
          let there = found_among (λ s. has s gfn) slots other found in
          let same : there.0 ≡ among.0 = one_slot slots there.0 among.0 other slot gfn are (stands slots other there) (stands slots slot among) (passes (λ s. has s gfn) slots other found) lies in
          let both : ◌≡◌ {A = Option Slot} (Some other) (Some slot) = sym (stands slots other there) ∙ ap (slice_get slots) same ∙ stands slots slot among in
          ap (option_map (λ s. s.id)) both

  id_of : (a b : ℕ) → ◌≡◌ {A = Option ℕ} (Some a) (Some b) → a ≡ b
  id_of a b h = search h

  none_is : (id : ℕ) → ◌≡◌ {A = Option ℕ} None (Some id) → ⊥
  none_is id h = true≢false (sym (ap is_some h))

  some : (id : ℕ) → slot_at slots gfn ≡ Some id → (slot : Slot) × IsAmong slots slot × (slot.id ≡ id) × (has slot gfn ≡ true)
  some id h = by (find (λ s. has s gfn) slots) refl h
    where
      by : (o : Option Slot) → find (λ s. has s gfn) slots ≡ o → option_map (λ s. s.id) o ≡ Some id → (slot : Slot) × IsAmong slots slot × (slot.id ≡ id) × (has slot gfn ≡ true)
      by None nobody is = absurd (none_is id is)
      by (Some slot) found is = (slot, found_among (λ s. has s gfn) slots slot found, id_of slot.id id is, passes (λ s. has s gfn) slots slot found)

  nobody : slot_at slots gfn ≡ None → (slot : Slot) → IsAmong slots slot → has slot gfn ≡ false
  nobody h slot among = by (has slot gfn) refl
    where
      by : (b : Bool) → has slot gfn ≡ b → has slot gfn ≡ false
      by true lies = search (only slot among lies, h)
      by false fails = fails

  free : ((slot : Slot) → IsAmong slots slot → has slot gfn ≡ false) → slot_at slots gfn ≡ None
  free fail = ap (option_map (λ s. s.id)) (all_fail (λ s. has s gfn) slots (λ k d below. fail (get_or slots k d) (k, (below, get_or_default slots k d (get_or slots k d) below))))

pub have_their_slot : PagesHaveTheirSlot
have_their_slot slots gfn are = record {
  some = λ id. (some slots gfn are id, λ lies. only slots gfn are lies.0 lies.1 lies.3 ∙ ap Some lies.2);
  none = (nobody slots gfn are, free slots gfn are);
}

pub meet_at_a_page : RunsMeetAtAPage
meet_at_a_page slots first count = (meets, met)
  where
    meets : meets_slots slots first count ≡ true → (gfn : ℕ) × (slot : Slot) × (first ≤ gfn) × (gfn < first + count) × IsAmong slots slot × (has slot gfn ≡ true)
    meets any =
        let at = Any-from_list_any (λ slot. has_any slot first count) slots any in
        let page = Any-from_list_any (has at.1) (range_with_len first count) at.4 in
        let below : page.0 < count = omega (arith, page.2, length-range_with_len first count) in
        let is : first + page.0 ≡ page.1 = sym (get_or-range_with_len first count page.0 page.1 below) ∙ page.3 in
        (page.1, at.1, omega (arith, is), omega (arith, is, below), (at.0, (at.2, sym at.3)), page.4)

    met : ((gfn : ℕ) × (slot : Slot) × (first ≤ gfn) × (gfn < first + count) × IsAmong slots slot × (has slot gfn ≡ true)) → meets_slots slots first count ≡ true
    met at =
        let gfn = at.0 in
        let slot = at.1 in
        let among = at.4 in
        let below : gfn - first < count = omega (arith, at.2, at.3) in
        let is : get_or (range_with_len first count) (gfn - first) gfn ≡ gfn = get_or-range_with_len first count (gfn - first) gfn below ∙ omega (arith, at.2) in
        let any : has_any slot first count ≡ true = list_any_at (has slot) (range_with_len first count) (gfn - first) gfn (omega (arith, below, length-range_with_len first count)) (ap (has slot) is ∙ at.5) in
        list_any_at (λ s. has_any s first count) slots among.0 slot among.1.0 (ap (λ s. has_any s first count) (sym among.1.1) ∙ any)
