-- Slots stay apart where one joins them and where one leaves.
use Rattle.std.proofs.Common.{◌≡◌, ℕ, zero, suc, ◌*◌, ◌/◌, ◌%◌, ◌^◌, ◌<◌, ◌==◌, true, false, not, List, [], ◌∷◌, ◌++◌, All, get_or, Ok, refl, ap, subst, arith, length-append}
use Rattle.std.proofs.lemmas.Bool.Decides.{nat_tests}
use Rattle.std.proofs.lemmas.List.Elements.{All-append, All-filter}
use Rattle.std.proofs.lemmas.List.Kept.{AllPairs-filter}
use Rattle.std.proofs.lemmas.List.Quantifiers.{all_pairs_push}
use Rattle.std.proofs.lemmas.List.Sums.{length-filter, count_by-le-length}
use Rattle.pef_model.specs.declared.state.Slot.{Slot}
use Rattle.pef_model.specs.Slots.{has, has_any, without, AreApart, AreSlots}
use Rattle.pef_slots.specs.Slots.{is_size, checked}
use Rattle.pef_slots.proofs.Runs.{any_meets, whole}
use Rattle.pef_slots.proofs.Checked.{accepted}
use Rattle.pef_slots.proofs.Found.{none_at}

-- a slot has none of the pages of a run where it has none of them
has-none : (slot other : Slot) (gfn : ℕ) → has_any slot other.first other.count ≡ false → has slot gfn ≡ true → has other gfn ≡ true → ⊥
has-none slot other gfn none here there =
    let filled : 0 < slot.count = grind (arith, nat_tests, here) in
    let some : 0 < other.count = grind (arith, nat_tests, there) in
    let met = any_meets slot other.first other.count filled some in
    grind (arith, nat_tests, met, none, here, there)

-- a size that is accepted has pages
filled : (shift pages first size : ℕ) → is_size shift pages first size ≡ true → 0 < size / 2 ^ shift
filled shift pages first size is = by (size / 2 ^ shift) refl
  where
    by : (n : ℕ) → size / 2 ^ shift ≡ n → 0 < size / 2 ^ shift
    by zero none =
        let some : 0 < size = grind (arith, nat_tests, is) in
        let even : size % 2 ^ shift ≡ 0 = grind (arith, nat_tests, is) in
        let nothing : 0 * 2 ^ shift ≡ size = subst (λ count. count * 2 ^ shift ≡ size) none (whole size (2 ^ shift) even) in
        absurd (omega (arith, some, nothing))
    by (suc n) more = rw more (omega arith)

-- what holds of a slot holds of each in a list of it alone
holds_alone : (P : Slot → Type 0) (slot : Slot) → P slot → All P (slot ∷ [])
holds_alone P slot holds zero d below = holds
holds_alone P slot holds (suc k) d below = absurd (omega (arith, below))

-- one alone
pub alone : (slot : Slot) → 0 < slot.count → slot.id < 2 ^ 16 → AreSlots (slot ∷ [])
alone slot some fits = record {
  few = omega arith;
  filled = holds_alone (λ s. 0 < s.count) slot some;
  ids = holds_alone (λ s. s.id < 2 ^ 16) slot fits;
  apart = λ i j d before below. absurd (omega (arith, before, below));
}

-- one that is accepted joins
pub joined : (shift pages : ℕ) (slots : List Slot) (start size flags id : ℕ) (slot : Slot) → AreSlots slots → checked shift pages slots start size flags id ≡ Ok slot → AreSlots (slots ++ slot ∷ [])
joined shift pages slots start size flags id slot are h =
    let ok = accepted shift pages slots start size flags id slot h in
    let id_is : slot.id ≡ id = ap (λ s. s.id) ok.slot_is in
    let first_is : slot.first ≡ start / 2 ^ shift = ap (λ s. s.first) ok.slot_is in
    let count_is : slot.count ≡ size / 2 ^ shift = ap (λ s. s.count) ok.slot_is in
    record {
      few = omega (arith, length-append slots (slot ∷ []), ok.room);
      filled = All-append (λ s. 0 < s.count) slots (slot ∷ []) are.filled (holds_alone (λ s. 0 < s.count) slot (rw count_is (filled shift pages (start / 2 ^ shift) size ok.size_is)));
      ids = All-append (λ s. s.id < 2 ^ 16) slots (slot ∷ []) are.ids (holds_alone (λ s. s.id < 2 ^ 16) slot (rw id_is ok.fits));
      apart = all_pairs_push AreApart slots slot are.apart (λ k d below. record {
        ids =
            let new = none_at (λ other. id == other.id) slots k d ok.new below in
            grind (arith, nat_tests, new, id_is);
        pages = λ gfn here there.
            has-none (get_or slots k d) slot gfn (rw (first_is, count_is) (none_at (λ other. has_any other (start / 2 ^ shift) (size / 2 ^ shift)) slots k d ok.free below)) here there;
      });
    }

-- one leaves
pub left : (slots : List Slot) (id : ℕ) → AreSlots slots → AreSlots (without slots id)
left slots id are = record {
  few = omega (arith, length-filter (λ slot. not (id == slot.id)) slots, count_by-le-length (λ slot. not (id == slot.id)) slots, are.few);
  filled = All-filter (λ slot. not (id == slot.id)) (λ slot. 0 < slot.count) slots are.filled;
  ids = All-filter (λ slot. not (id == slot.id)) (λ slot. slot.id < 2 ^ 16) slots are.ids;
  apart = AllPairs-filter AreApart (λ slot. not (id == slot.id)) slots are.apart;
}
