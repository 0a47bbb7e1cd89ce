-- The outcomes of a top call.
use Rattle.std.specs.Prelude.{◌≡◌, ◌≢◌, ℕ, ◌+◌, ◌≤◌}
use Rattle.pef_top.specs.declared.limits.Limit.{Limit}
use Rattle.pef_top.specs.declared.limits.Limit.TheVariants as limit
use Rattle.pef_top.specs.declared.limits.TheConstants.{COMMAND_LIMIT, MEMORY_LIMIT}
use Rattle.pef_top.specs.declared.outcome.TheConstants.{SCRIPT_LIMIT}
use Rattle.pef_top.specs.declared.outcome.RunOutcome.{RunOutcome}
use Rattle.pef_top.specs.Limits.{IsOver}

-- a status that says no more
abbrev pub plain : ℕ → RunOutcome
plain status = record { status = status; line = 0; left = 0; right = 0 }

-- an input is no script: its first faulty line
abbrev pub script_fault : ℕ → RunOutcome
script_fault line = record { status = 1; line = line; left = 0; right = 0 }

-- a limit is passed: its number, what stood, the limit; of limit 1 what stood where reading stopped
abbrev pub limit_passed : Limit → RunOutcome
limit_passed limit.Script = record { status = 6; line = 1; left = SCRIPT_LIMIT + 1; right = SCRIPT_LIMIT }
limit_passed (limit.Commands count) = record { status = 6; line = 2; left = count; right = COMMAND_LIMIT }
limit_passed (limit.Frames bytes) = record { status = 6; line = 3; left = bytes; right = MEMORY_LIMIT }
limit_passed (limit.Pages bytes) = record { status = 6; line = 4; left = bytes; right = MEMORY_LIMIT }

-- an outcome says that a limit is passed
pub record IsLimit (outcome : RunOutcome) : Type 0 where
  pub passed : Limit
  pub is : outcome ≡ limit_passed passed
  pub over : IsOver passed

-- a status is one of 0 to 6, and the other fields are 0 but at 1, which says a line, and at 6, which names the limit that is passed
pub record IsOutcome (outcome : RunOutcome) : Type 0 where
  pub known : outcome.status ≤ 6
  pub fault : outcome.status ≡ 1 → outcome ≡ script_fault outcome.line
  pub limit : outcome.status ≡ 6 → IsLimit outcome
  pub other : outcome.status ≢ 1 → outcome.status ≢ 6 → outcome ≡ plain outcome.status
