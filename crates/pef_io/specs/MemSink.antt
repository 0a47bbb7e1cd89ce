-- A sink in memory as its callers see it, and which writes it refuses.
use Rattle.std.specs.Prelude.{ℕ, ◌≤◌, ◌<◌, ◌⊎◌, List, length, Contains}

-- a sink in memory
pub record MemSinkState : Type 0 where
  -- the bytes that were written
  pub written : List ℕ
  -- how many bytes it takes in all
  pub room : ℕ
  -- the numbers of the writes that fail
  pub fails : List ℕ
  -- the number of the next write
  pub calls : ℕ
  -- how many writes have failed
  pub faults : ℕ

-- the number of the write was named, or a buffer that is not empty finds no room
abbrev pub IsRefused : MemSinkState → List ℕ → Type 0
IsRefused sink buffer = Contains sink.fails sink.calls ⊎ ((0 < length buffer) × (sink.room ≤ length sink.written))
