-- Reading an input whole.
use Rattle.std.specs.Prelude.{◌≡◌, ℕ, ◌+◌, ◌≤◌, List, ◌++◌, length}
use Rattle.pef_io.specs.Cause.{Rose}
use Rattle.pef_top.specs.declared.input.InputFault.{InputFault}
use Rattle.pef_top.specs.declared.input.InputFault.TheVariants as fault
use Rattle.pef_top.specs.declared.outcome.TheConstants.{SCRIPT_LIMIT}

-- the source gave this text in a call, and then said that it ended
pub record TookAll (ended : Type 0) (before after text : List ℕ) : Type 0 where
  pub taken : after ≡ before ++ text
  pub end : ended

-- the source gave this text in a call: whole, or up to the first byte past the limit
pub record Took (ended : Type 0) (before after text : List ℕ) : Type 0 where
  pub taken : after ≡ before ++ text
  pub end : length text ≤ SCRIPT_LIMIT → ended
  pub most : length text ≤ SCRIPT_LIMIT + 1

-- the source gave no byte in a call past the first one that a script may not have
pub record StopsInTime (before after : List ℕ) : Type 0 where
  pub text : List ℕ
  pub taken : after ≡ before ++ text
  pub most : length text ≤ SCRIPT_LIMIT + 1

-- the source gave one byte more than a script may have
pub record IsTooLong (before after : List ℕ) : Type 0 where
  pub text : List ℕ
  pub taken : after ≡ before ++ text
  pub long : length text ≡ SCRIPT_LIMIT + 1

-- why the input was not read to its end: a fault of the source was counted, or it is too long, or memory is wanting
abbrev pub HasFault : List ℕ → List ℕ → ℕ → ℕ → InputFault → Type 0
HasFault before after old now fault.Read = Rose old now
HasFault before after old now fault.TooLong = IsTooLong before after
HasFault before after old now fault.Memory = Unit {0}
