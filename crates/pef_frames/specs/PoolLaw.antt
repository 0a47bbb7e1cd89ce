-- Laws of the pool and of lent bytes: each number is free once at the start, and taking and giving move one.
use Rattle.std.specs.Prelude.{◌≡◌, ℕ, ◌+◌, ◌==◌, nat_lt, if◌then◌else◌, List, length, Some}
use Rattle.std.specs.List.{count_by}
use Rattle.pef_frames.specs.Frame.{FrameState, zero_frame}
use Rattle.pef_frames.specs.Lent.{with_bytes}
use Rattle.pef_frames.specs.Pool.{PoolState, full_pool, first_free, without_first, with_free}

-- how often a number stands among the free ones
abbrev pub times_free : PoolState → ℕ → ℕ
times_free pool number = count_by (λ n. n == number) pool.free

-- once where the two numbers are the same
abbrev pub once : ℕ → ℕ → ℕ
once one number = if one == number then 1 else 0

-- in a full pool each number below the count is free once, and no other is
abbrev pub StartsWithEachOnce : Type 0
StartsWithEachOnce = (count size number : ℕ) → times_free (full_pool count size) number ≡ (if nat_lt number count then 1 else 0)

-- taking a frame moves its number out of the free ones, once
abbrev pub TakeMovesOne : Type 0
TakeMovesOne =
    (pool : PoolState) (frame : FrameState) (number : ℕ) → first_free pool ≡ Some frame →
    times_free pool number ≡ once frame.number number + times_free (without_first pool) number

-- giving a frame moves its number in among the free ones, once
abbrev pub GiveMovesOne : Type 0
GiveMovesOne = (pool : PoolState) (given number : ℕ) → times_free (with_free pool given) number ≡ once given number + times_free pool number

-- a frame that is taken and given back leaves the pool as it was
abbrev pub GiveUndoesTake : Type 0
GiveUndoesTake = (pool : PoolState) (frame : FrameState) → first_free pool ≡ Some frame → with_free (without_first pool) frame.number ≡ pool

-- the frame that is taken is the one last given, all zero
abbrev pub TakeFindsGiven : Type 0
TakeFindsGiven =
    (pool : PoolState) (given : ℕ) →
    (first_free (with_free pool given) ≡ Some (zero_frame pool.size given)) × (without_first (with_free pool given) ≡ pool)

-- as many bytes as a frame has are what it has once they are written
abbrev pub WritesAllBytes : Type 0
WritesAllBytes = (frame : FrameState) (bytes : List ℕ) → length bytes ≡ length frame.bytes → with_bytes frame bytes ≡ record frame { bytes = bytes }
