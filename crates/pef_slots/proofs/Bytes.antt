-- The pages of a slot are those of its bytes.
use Rattle.std.proofs.Common.{◌≡◌, ℕ, ◌+◌, ◌*◌, ◌/◌, ◌%◌, ◌^◌, ◌<◌, ◌≤◌, ◌⊎◌, inl, inr, ap, arith}
use Rattle.std.proofs.Math.Nat.{le-div_iff_mul-le, add-mul}
use Rattle.std.proofs.lemmas.Bool.{cases_lt}
use Rattle.std.proofs.lemmas.Bool.Decides.{nat_tests}
use Rattle.std.proofs.lemmas.Nat.{pow_pos}
use Rattle.pef_slots.specs.SlotsLaw.{SlotHasItsBytes}
use Rattle.pef_slots.proofs.Checked.{accepted}
use Rattle.pef_slots.proofs.Runs.{whole}

-- an address lies in a run of pages exactly where it lies in their bytes
module _ (page first count address : ℕ) (some : 0 < page) where
  pages_of : first * page ≤ address → address < first * page + count * page → (first ≤ address / page) × (address / page < first + count)
  pages_of above below = ((le-div_iff_mul-le some).1 above, by (cases_lt (address / page) (first + count)))
    where
      by : (address / page < first + count) ⊎ (first + count ≤ address / page) → address / page < first + count
      by (inl within) = within
      by (inr past) = absurd (omega (arith, below, add-mul first count page, (le-div_iff_mul-le {x = first + count} {y = address} some).0 past))

  bytes_of : first ≤ address / page → address / page < first + count → (first * page ≤ address) × (address < first * page + count * page)
  bytes_of above below = ((le-div_iff_mul-le some).0 above, by (cases_lt address (first * page + count * page)))
    where
      by : (address < first * page + count * page) ⊎ (first * page + count * page ≤ address) → address < first * page + count * page
      by (inl within) = within
      by (inr past) = absurd (omega (arith, below, (le-div_iff_mul-le {x = first + count} {y = address} some).1 (omega (arith, past, add-mul first count page))))

pub its_bytes : SlotHasItsBytes
its_bytes shift pages slots start size flags id slot address h =
    let ok = accepted shift pages slots start size flags id slot h in
    let first_is : slot.first ≡ start / 2 ^ shift = ap (λ s. s.first) ok.slot_is in
    let count_is : slot.count ≡ size / 2 ^ shift = ap (λ s. s.count) ok.slot_is in
    let start_whole : start % 2 ^ shift ≡ 0 = grind (arith, nat_tests, ok.start_is) in
    let size_whole : size % 2 ^ shift ≡ 0 = grind (arith, nat_tests, ok.size_is) in
    let begins = whole start (2 ^ shift) start_whole in
    let extends = whole size (2 ^ shift) size_whole in (
      λ within.
          let pages_are = pages_of (2 ^ shift) (start / 2 ^ shift) (size / 2 ^ shift) address (pow_pos shift) (omega (arith, begins, within.0)) (omega (arith, begins, extends, within.1)) in
          grind (arith, nat_tests, first_is, count_is, pages_are.0, pages_are.1),
      λ lies.
          let above : start / 2 ^ shift ≤ address / 2 ^ shift = grind (arith, nat_tests, first_is, lies) in
          let below : address / 2 ^ shift < start / 2 ^ shift + size / 2 ^ shift = grind (arith, nat_tests, first_is, count_is, lies) in
          let bytes_are = bytes_of (2 ^ shift) (start / 2 ^ shift) (size / 2 ^ shift) address (pow_pos shift) above below in
          (omega (arith, begins, bytes_are.0), omega (arith, begins, extends, bytes_are.1)),
    )
