-- Where a run of pages meets a slot, and how many bytes it has.
use Rattle.std.proofs.Common.{◌≡◌, ℕ, zero, suc, ◌+◌, ◌*◌, ◌/◌, ◌%◌, ◌<◌, nat_lt, ◌&&◌, arith}
use Rattle.std.proofs.Math.Nat.{mod-add-div'}
use Rattle.std.proofs.lemmas.Bool.Decides.{nat_tests}
use Rattle.pef_model.specs.declared.state.Slot.{Slot}
use Rattle.pef_model.specs.Slots.{has_any}

-- each of the two begins before the other ends
pub any_meets : (slot : Slot) (first count : ℕ) → 0 < slot.count → 0 < count → has_any slot first count ≡ (nat_lt slot.first (first + count) && nat_lt first (slot.first + slot.count))
any_meets slot first zero filled some = absurd (omega (arith, some))
any_meets slot first (suc zero) filled some = grind (arith, nat_tests)
any_meets slot first (suc (suc count)) filled some = grind (arith, nat_tests, any_meets slot (first + 1) (suc count) filled (omega arith))

-- a number of bytes of whole pages
pub whole : (bytes page : ℕ) → bytes % page ≡ 0 → bytes / page * page ≡ bytes
whole bytes page even = omega (arith, even, mod-add-div' bytes page)
