-- The outcome that is due for what the program took.
use Rattle.std.specs.Prelude.{◌≡◌, ◌≢◌, ℕ, List, String}
use Rattle.std.specs.declared.alloc.Global.{Global}
use Rattle.pef_top.specs.declared.outcome.RunOutcome.{RunOutcome}
use Rattle.pef_top.specs.Top.{Answers}
use Rattle.pef_cli.specs.Words.{AreRun}

-- the program ended with the status of the outcome that is due for the text that it took
pub record EndsAsDue (ended : Type 0) (before after : List ℕ) (status : ℕ) : Type 0 where
  pub outcome : RunOutcome
  pub answers : Answers ended before after outcome
  pub is : status ≡ outcome.status

-- where the word is `run` and neither device counted a fault, something holds, unless memory was wanting
abbrev pub WhereAllWent : List (String Global) → Type 0 → Type 0 → ℕ → Type 0 → Type 0
WhereAllWent args read_failed write_failed status claim = AreRun args → ¬ read_failed → ¬ write_failed → status ≢ 5 → claim
