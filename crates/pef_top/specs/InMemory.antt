-- What the clauses of a top call say over a source in memory, of which it is known what is left.
use Rattle.std.specs.Prelude.{◌≡◌, List, ℕ, [], ◌++◌}
use Rattle.pef_top.specs.declared.outcome.RunOutcome.{RunOutcome}
use Rattle.pef_top.specs.Top.{Reports, IsReported, Begins, IsBegun, TookNoScript, IsNoScript, Passes, IsPast, Answers, due}

-- each clause holds of the bytes that were left before the call
pub record HoldsOfLeft (before left after left_after : List ℕ) : Type 0 where
  pub reports : (old new : List ℕ) → Reports (left_after ≡ []) before after old new → IsReported left old new
  pub begins : (old new : List ℕ) → Begins (left_after ≡ []) before after old new → IsBegun left old new
  pub no_script : (outcome : RunOutcome) → TookNoScript (left_after ≡ []) before after outcome → IsNoScript left outcome
  pub passes : (outcome : RunOutcome) → Passes (left_after ≡ []) before after outcome → IsPast left outcome
  pub answers : (outcome : RunOutcome) → Answers (left_after ≡ []) before after outcome → outcome ≡ due left

-- a source that knows its bytes gave a first part of those that were left, so each clause on the text that was taken is one on them
abbrev pub MemoryIsTakenInOrder : Type 0
MemoryIsTakenInOrder = (before left after left_after : List ℕ) → after ++ left_after ≡ before ++ left → HoldsOfLeft before left after left_after
