-- Which registers a call leaves.
use Rattle.std.specs.Prelude.{◌≡◌, ℕ, ◌<◌, List, slice_index}

-- what a call loads are R0, R2, R3 and R4 to R12: R1 and R13 to R31 stay
pub record LoadsCall (old new : List ℕ) : Type 0 where
  pub first : slice_index new 1 ≡ slice_index old 1
  pub others : (r : ℕ) → 12 < r → slice_index new r ≡ slice_index old r
