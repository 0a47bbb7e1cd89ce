-- Lemmas on digits that are read from the front.
use Rattle.std.proofs.Common.{◌≡◌, ◌≤◌, ◌<◌, ℕ, ◌+◌, ◌*◌, ◌^◌, Bool, true, false, cond, ◌&&◌, List, [], ◌∷◌, length, drop, get_or, refl, ap, ◌∙◌, arith}
use Rattle.std.specs.Prelude.{Some, None, nat_lt, nat_le}
use Rattle.std.specs.Char.{digit_value, is_digit}
use Rattle.std.specs.List.{list_all}
use Rattle.std.specs.Str.Parse.{digits_value, digits_value_after}
use Rattle.std.proofs.Math.Nat.{mul-le-mul_left}
use Rattle.std.proofs.lemmas.Bool.{le-ltb, lt-ltb}
use Rattle.std.proofs.lemmas.Bool.Decides.{nat_tests}
use Rattle.std.proofs.lemmas.List.{drop_more, drop_all}
use Rattle.pef_model.specs.Words.{numeral_in}

le_test : (a b : ℕ) → a ≤ b → nat_le a b ≡ true
le_test a b h = grind (arith, nat_tests)

-- more digits write no smaller number
digits_value_after-ge : (radix n : ℕ) (ds : List ℕ) → 1 ≤ radix → n ≤ digits_value_after radix n ds
digits_value_after-ge radix n [] h = omega arith
digits_value_after-ge radix n (c ∷ cs) h =
    let grows : n * 1 ≤ n * radix = mul-le-mul_left n h in
    let rest : n * radix + digit_value c ≤ digits_value_after radix (n * radix + digit_value c) cs = digits_value_after-ge radix (n * radix + digit_value c) cs h in
    omega (arith, grows, rest)

none_of_last : (a b c d : Bool) (n : ℕ) → d ≡ false → cond (a && (b && (c && d))) (Some n) None ≡ None
none_of_last true true true d n e = rw e refl
none_of_last true true false d n e = refl
none_of_last true false c d n e = refl
none_of_last false b c d n e = refl

-- what is too large is no numeral
too_large : (radix most : ℕ) (ds : List ℕ) → 2 ^ 64 ≤ digits_value radix ds → numeral_in radix most ds ≡ None
too_large radix most ds h =
    none_of_last (nat_lt 0 (length ds)) (nat_le (length ds) most) (list_all (λ c. is_digit c radix) ds) _ (digits_value radix ds) (le-ltb _ _ h)

-- where the digits so far are too large with the next one, there is no numeral
pub overflows : (radix base most number i : ℕ) (ds : List ℕ) → base ≡ radix → 1 ≤ radix → i < length ds →
    digits_value radix ds ≡ digits_value_after radix number (drop i ds) → 2 ^ 64 ≤ number * base + digit_value (get_or ds i 0) →
    numeral_in radix most ds ≡ None
overflows radix base most number i ds same low within value large =
    let split = value ∙ ap (digits_value_after radix number) (drop_more ds i 0 within) in
    let product : number * base ≡ number * radix = ap (λ n. number * n) same in
    too_large radix most ds (omega (arith, product, split, digits_value_after-ge radix (number * radix + digit_value (get_or ds i 0)) (drop (i + 1) ds) low))

-- digits that are all read, and write a number that isn't too large
pub all_read : (radix most number i : ℕ) (ds : List ℕ) → 0 < length ds → length ds ≤ most → length ds ≤ i → number < 2 ^ 64 →
    list_all (λ c. is_digit c radix) ds ≡ list_all (λ c. is_digit c radix) (drop i ds) →
    digits_value radix ds ≡ digits_value_after radix number (drop i ds) → Some number ≡ numeral_in radix most ds
all_read radix most number i ds some few over fits valid value =
    let ended : drop i ds ≡ [] = drop_all i ds over in
    let digits : list_all (λ c. is_digit c radix) ds ≡ true = valid ∙ ap (list_all (λ c. is_digit c radix)) ended in
    let is : digits_value radix ds ≡ number = value ∙ ap (digits_value_after radix number) ended in
    rw (lt-ltb 0 (length ds) some, le_test (length ds) most few, digits, is, lt-ltb number (2 ^ 64) fits) refl
