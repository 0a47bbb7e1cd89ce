-- The limits in numbers.
use Rattle.std.specs.Prelude.{◌≡◌, ℕ}
use Rattle.pef_top.specs.declared.limits.Limit.TheVariants as limit
use Rattle.pef_top.specs.Outcome.{limit_passed}

-- what each limit tells: its number, what stood, the most that is allowed
pub record LimitsAreTold : Type 0 where
  pub script : limit_passed limit.Script ≡ record { status = 6; line = 1; left = 16777217; right = 16777216 }
  pub commands : (count : ℕ) → limit_passed (limit.Commands count) ≡ record { status = 6; line = 2; left = count; right = 200000 }
  pub frames : (bytes : ℕ) → limit_passed (limit.Frames bytes) ≡ record { status = 6; line = 3; left = bytes; right = 67108864 }
  pub pages : (bytes : ℕ) → limit_passed (limit.Pages bytes) ≡ record { status = 6; line = 4; left = bytes; right = 67108864 }
