-- What the program told on standard error.
use Rattle.std.specs.Prelude.{◌≡◌, ◌≢◌, ℕ, List, [], ◌++◌}
use Rattle.std.specs.Process.{exit_status}
use Rattle.std.specs.declared.process.ExitCode.{ExitCode}
use Rattle.pef_io.specs.Cause.{Rose}
use Rattle.pef_io.specs.Sink.{AppendsPrefix}
use Rattle.pef_top.specs.declared.outcome.RunOutcome.{RunOutcome}
use Rattle.pef_top.specs.Outcome.{IsOutcome}
use Rattle.pef_top.specs.FaultLine.{fault_text}

-- the program ended with the status of an outcome, which at 1 says the first faulty line and at 6 the limit that is passed; its line was written on standard error, and at status 2 perhaps a usage text behind it, or a first part of both where a write failed there
pub record Tells (faulty passes : RunOutcome → Type 0) (code : ExitCode) (old new : List ℕ) (before now : ℕ) : Type 0 where
  pub outcome : RunOutcome
  pub fields : IsOutcome outcome
  pub status : exit_status code ≡ outcome.status
  pub fault : outcome.status ≡ 1 → faulty outcome
  pub limit : outcome.status ≡ 6 → passes outcome
  pub usage : List ℕ
  pub alone : outcome.status ≢ 2 → usage ≡ []
  pub part : AppendsPrefix old new (fault_text outcome ++ usage)
  pub whole : ¬ (Rose before now) → new ≡ old ++ (fault_text outcome ++ usage)
