-- Standard input and output as their callers see them: what they stand on, and a count.
use Rattle.std.specs.Prelude.{ℕ, Bool, List}

-- a source over a reader
pub record StdSourceState (R : Type 0) : Type 0 where
  -- what it reads from
  pub reader : R
  -- the bytes that it gave
  pub taken : List ℕ
  -- whether it said that no byte is left, when it last answered
  pub ended : Bool
  -- how many reads have failed
  pub faults : ℕ

-- a sink over a writer
pub record StdSinkState (W : Type 0) : Type 0 where
  -- what it writes to
  pub writer : W
  -- the bytes that it took
  pub given : List ℕ
  -- how many writes have failed
  pub faults : ℕ
