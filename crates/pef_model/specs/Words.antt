-- The words of a script: numbers and registers.
use Rattle.std.specs.Prelude.{ℕ, ◌^◌, nat_eq, nat_lt, nat_le, Bool, not, ◌&&◌, if◌then◌else◌, List, length, drop, codes, Option, Some, None}
use Rattle.std.specs.List.{starts_with, list_all}
use Rattle.std.specs.Char.{is_digit}
use Rattle.std.specs.Str.Parse.{digits_value}

-- digits of a radix, at least one and at most so many, that write a number below 2^64
abbrev pub numeral_in : ℕ → ℕ → List ℕ → Option ℕ
numeral_in radix most digits =
    if nat_lt 0 (length digits) && (nat_le (length digits) most && (list_all (λ c. is_digit c radix) digits && nat_lt (digits_value radix digits) (2 ^ 64)))
    then Some (digits_value radix digits)
    else None

-- a number: 0x and 1 to 16 hexadecimal digits of either case, or 1 to 20 decimal digits
abbrev pub number_in : List ℕ → Option ℕ
number_in word = if starts_with nat_eq word (codes "0x") then numeral_in 16 16 (drop 2 word) else numeral_in 10 20 word

-- digits that begin with a zero which isn't the only one
abbrev pub has_leading_zero : List ℕ → Bool
has_leading_zero digits = starts_with nat_eq digits (codes "0") && nat_lt 1 (length digits)

-- a number that is one of a register
abbrev pub register_at : Option ℕ → Option ℕ
register_at None = None
register_at (Some n) = if nat_lt n 32 then Some n else None

-- a register: r and 0 to 31 in decimal without leading zeros
abbrev pub register_in : List ℕ → Option ℕ
register_in word =
    if starts_with nat_eq word (codes "r") && not (has_leading_zero (drop 1 word))
    then register_at (numeral_in 10 2 (drop 1 word))
    else None
