-- Which frame begins at an address, and in which page a doubleword lies.
use Rattle.std.specs.Prelude.{◌≡◌, ℕ, ◌+◌, ◌/◌, ◌%◌, ◌^◌, ◌==◌, ◌≤◌, nat_lt, ◌&&◌, if◌then◌else◌, Option, Some, None}
use Rattle.pef_num.specs.declared.place.Place.{Place}

-- the number of the frame that begins at an address, where one does and its number has 32 bits
abbrev pub frame_in : ℕ → ℕ → Option ℕ
frame_in shift address = if (address % 2 ^ shift == 0) && nat_lt (address / 2 ^ shift) (2 ^ 32) then Some (address / 2 ^ shift) else None

-- where the doubleword of an address lies, where it is aligned and its page's number has 32 bits
abbrev pub place_in : ℕ → ℕ → Option Place
place_in shift address =
    if (address % 8 == 0) && nat_lt (address / 2 ^ shift) (2 ^ 32) then Some (record { page = address / 2 ^ shift; off = address % 2 ^ shift }) else None

-- a place is one of an aligned doubleword that lies within a page of 2^shift bytes
pub record IsPlace (shift : ℕ) (place : Place) : Type 0 where
  pub aligned : place.off % 8 ≡ 0
  pub room : place.off + 8 ≤ 2 ^ shift
