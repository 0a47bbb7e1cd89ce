-- What the answer of a read or a write says: how many bytes it moved, and why it may be a failure.
use Rattle.std.specs.Prelude.{◌≡◌, ℕ, ◌+◌, ◌-◌, ◌^◌, ◌≤◌, min, Result, Ok, Err, OnErr, OnOk}

-- how many bytes a call moved: none where it failed
abbrev pub count_taken : {E : Type 0} → Result ℕ E → ℕ
count_taken (Ok count) = count
count_taken (Err failure) = 0

-- one more, but for 2^64 - 1, which stays
abbrev pub raised : ℕ → ℕ
raised count = min (count + 1) (2 ^ 64 - 1)

-- the count of faults after an answer: a failure raises it
abbrev pub faults_after : {T E : Type 0} → ℕ → Result T E → ℕ
faults_after before (Ok value) = before
faults_after before (Err failure) = raised before

-- a count rose: it is greater than before, or stands at 2^64 - 1
abbrev pub Rose : ℕ → ℕ → Type 0
Rose before now = raised before ≤ now

-- the count of faults never falls; a failure comes only where it rose, and what went well counted none
pub record HasCause {T E : Type 0} (before now : ℕ) (result : Result T E) : Type 0 where
  pub never_falls : before ≤ now
  pub failed : OnErr result (Rose before now)
  pub clean : OnOk result (now ≡ before)
