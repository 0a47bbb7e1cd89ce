use Rattle.std.proofs.Common.{◌≡◌, ◌<◌, ◌^◌, drop}
use Rattle.std.specs.List.{list_all}
use Rattle.std.specs.Char.{is_digit}
use Rattle.std.specs.Str.Parse.{digits_value, digits_value_after}
use Rattle.pef_script.proofs.number.parse_numeral.Given as goal

-- whether all are digits is up to those that are left, and they go on from the number so far
abbrev pub invariant-loop-digit : goal.invariant-loop-digit
invariant-loop-digit l = record {
  valid : list_all (λ c. is_digit c l.radix) l.digits ≡ list_all (λ c. is_digit c l.radix) (drop l.digit-index l.digits);
  fits : l.number < 2 ^ 64;
  value : digits_value l.radix l.digits ≡ digits_value_after l.radix l.number (drop l.digit-index l.digits);
}
