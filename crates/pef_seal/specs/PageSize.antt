-- How many bytes a page may have.
use Rattle.std.specs.Prelude.{◌≡◌, ℕ, ◌^◌}
use Rattle.pef_model.specs.Plan.{IsWithin}

-- a power of two from 2^8 to 2^16
pub record IsPageSize (size : ℕ) : Type 0 where
  pub shift : ℕ
  pub range : IsWithin 8 16 shift
  pub is : size ≡ 2 ^ shift
