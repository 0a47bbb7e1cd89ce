-- A source in memory as its callers see it.
use Rattle.std.specs.Prelude.{ℕ, List}

-- a source in memory
pub record MemSourceState : Type 0 where
  -- the bytes that it gave
  pub taken : List ℕ
  -- the bytes that are left
  pub left : List ℕ
  -- the numbers of the reads that fail
  pub fails : List ℕ
  -- the number of the next read
  pub calls : ℕ
  -- how many reads have failed
  pub faults : ℕ
