-- Numbers, registers and pairs at the edge of the grammar, each computed from the definitions.
use Rattle.std.specs.Prelude.{◌≡◌, codes, Some, None}
use Rattle.pef_model.specs.Words.{number_in, register_in}
use Rattle.pef_script.specs.Token.{pair_in}

-- numbers below 2^64, in 1 to 20 decimal or 1 to 16 hexadecimal digits of either case
pub record NumbersAtTheEdge : Type 0 where
  pub greatest : number_in (codes "18446744073709551615") ≡ Some 18446744073709551615
  pub too_great : number_in (codes "18446744073709551616") ≡ None
  pub twenty_digits : number_in (codes "00000000000000000007") ≡ Some 7
  pub twenty_one_digits : number_in (codes "000000000000000000007") ≡ None
  pub no_digit : number_in (codes "") ≡ None
  pub letter : number_in (codes "1a") ≡ None
  pub sixteen_digits : number_in (codes "0xFFFFffffFFFFffff") ≡ Some 18446744073709551615
  pub seventeen_digits : number_in (codes "0x00000000000000001") ≡ None
  pub no_hexadecimal_digit : number_in (codes "0x") ≡ None
  pub upper_case_prefix : number_in (codes "0X1") ≡ None
  pub past_hexadecimal : number_in (codes "0x1g") ≡ None
  pub sign : number_in (codes "+1") ≡ None

-- registers r0 to r31 without leading zeros
pub record RegistersAtTheEdge : Type 0 where
  pub first : register_in (codes "r0") ≡ Some 0
  pub last : register_in (codes "r31") ≡ Some 31
  pub too_great : register_in (codes "r32") ≡ None
  pub two_zeros : register_in (codes "r00") ≡ None
  pub leading_zero : register_in (codes "r01") ≡ None
  pub hexadecimal : register_in (codes "r0x1") ≡ None
  pub no_digit : register_in (codes "r") ≡ None
  pub upper_case : register_in (codes "R1") ≡ None
  pub no_letter : register_in (codes "1") ≡ None

-- one number, or two with | between them
pub record PairsAtTheEdge : Type 0 where
  pub one : pair_in (codes "7") ≡ Some (record { left = 7; right = 7 })
  pub two : pair_in (codes "7|0x9") ≡ Some (record { left = 7; right = 9 })
  pub no_left : pair_in (codes "|9") ≡ None
  pub no_right : pair_in (codes "7|") ≡ None
  pub three : pair_in (codes "7|8|9") ≡ None
  pub left_too_great : pair_in (codes "18446744073709551616|9") ≡ None
  pub right_too_great : pair_in (codes "7|18446744073709551616") ≡ None

-- the edge, whole
pub record WordsAtTheEdge : Type 0 where
  pub numbers : NumbersAtTheEdge
  pub registers : RegistersAtTheEdge
  pub pairs : PairsAtTheEdge
