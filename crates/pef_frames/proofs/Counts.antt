-- How often a number stands among the free ones at the start.
use Rattle.std.proofs.Common.{arith, ◌≡◌, ℕ, zero, suc, ◌+◌, ◌==◌, nat_le, nat_lt, ◌&&◌, if◌then◌else◌}
use Rattle.std.specs.List.{count_by, range_with_len}
use Rattle.std.proofs.lemmas.Bool.Decides.{nat_tests}
use Rattle.std.proofs.lemmas.List.Sums.{sum_by-cons}
use Rattle.pef_frames.specs.PoolLaw.{StartsWithEachOnce}

-- how often a number stands among so many from a first one on
times : ℕ → ℕ → ℕ → ℕ
times first many number = count_by (λ n. n == number) (range_with_len first many)

times-more : (first many number : ℕ) → times first (suc many) number ≡ (if first == number then 1 else 0) + times (first + 1) many number
unfolding times
times-more first many number = sum_by-cons (λ n. if n == number then 1 else 0) first (range_with_len (first + 1) many)

-- it stands there once, where it is one of them
times-once : (first many number : ℕ) → times first many number ≡ (if nat_le first number && nat_lt number (first + many) then 1 else 0)
unfolding times
times-once first zero number = grind (arith, nat_tests)
times-once first (suc many) number = grind (arith, nat_tests, times-more first many number, times-once (first + 1) many number)

-- those from 0 on are those below the count
pub starts_with_each_once : StartsWithEachOnce
unfolding times
starts_with_each_once count size number = grind (arith, nat_tests, times-once 0 count number)
