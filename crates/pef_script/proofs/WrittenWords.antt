-- Lemmas on words that are written: they are words, and a number and a register are read again.
use Rattle.std.proofs.Common.{◌≡◌, ◌≤◌, ◌<◌, ◌≢◌, ℕ, ◌+◌, ◌*◌, ◌/◌, ◌%◌, ◌^◌, Bool, true, false, cond, ◌&&◌, List, [], ◌∷◌, ◌++◌, length, get_or, refl, sym, subst, arith, zero, suc}
use Rattle.std.specs.Prelude.{Some, nat_eq, nat_lt, ◌==◌, codes}
use Rattle.std.specs.Char.{digit_value, is_digit}
use Rattle.std.specs.Fmt.{digits, decimal, digit_glyph, digits_onto}
use Rattle.std.specs.List.{list_all, starts_with, AllByRecursion}
use Rattle.std.specs.Str.Parse.{AllDigits, digits_value}
use Rattle.std.proofs.lemmas.Bool.{and_parts, and_right, le-leb, lt-ltb, ltb-true, ltb-false, ne_eqb}
use Rattle.std.proofs.lemmas.Bool.Decides.{nat_tests}
use Rattle.std.proofs.lemmas.Nat.{div_below}
use Rattle.std.proofs.lemmas.Fmt.{digits_is_IsNumeral, decimal_is_IsNumeral, length-decimal-le, decimal_digit, first_decimal}
use Rattle.pef_model.specs.Words.{numeral_in, number_in, has_leading_zero, register_in}
use Rattle.pef_script.specs.Token.{has_bytes}
use Rattle.pef_script.specs.Written.{number_text, register_text}

-- numbers of m + 1 hexadecimal digits are below this
abbrev hex_room : ℕ → ℕ
hex_room zero = 16
hex_room (suc m) = hex_room m * 16

all_digits_tested : (radix : ℕ) (ds : List ℕ) → AllDigits radix ds → list_all (λ c. is_digit c radix) ds ≡ true
all_digits_tested radix [] h = refl
all_digits_tested radix (d ∷ ds) h = rw (lt-ltb (digit_value d) radix h.0, all_digits_tested radix ds h.1) refl

-- digits that are few enough are the number that they write
numeral_is : (radix most n : ℕ) (ds : List ℕ) → 0 < length ds → length ds ≤ most → AllDigits radix ds → digits_value radix ds ≡ n → n < 2 ^ 64 → numeral_in radix most ds ≡ Some n
numeral_is radix most n ds some few all is fits =
    rw (lt-ltb 0 (length ds) some, le-leb (length ds) most few, all_digits_tested radix ds all, is, lt-ltb n (2 ^ 64) fits) refl

-- a decimal number is read again
decimal_reads : (most n : ℕ) → 0 < most → n < 10 ^ most → n < 2 ^ 64 → numeral_in 10 most (decimal n) ≡ Some n
decimal_reads most n some few fits =
    let numeral = decimal_is_IsNumeral n fits in
    numeral_is 10 most n (decimal n) numeral.0.0 (length-decimal-le most n some few fits) numeral.0.1 numeral.1 fits

length_onto_step : (test : Bool) (k m n : ℕ) (acc : List ℕ) → test ≡ (n / 16 == 0) → n < hex_room m →
    ((j : ℕ) → m ≡ suc j → n / 16 < hex_room j → length (digits_onto k 16 false (n / 16) (digit_glyph false (n % 16) ∷ acc)) ≤ (j + 1) + (length acc + 1)) →
    length (cond test (digit_glyph false (n % 16) ∷ acc) (digits_onto k 16 false (n / 16) (digit_glyph false (n % 16) ∷ acc))) ≤ (m + 1) + length acc
length_onto_step true k m n acc e h more = omega arith
length_onto_step false k zero n acc e h more =
    let some : n / 16 ≢ 0 = grind (arith, nat_tests) in
    let none : n / 16 < 1 = div_below n 16 1 (omega arith) (omega arith) in
    absurd (omega arith)
length_onto_step false k (suc j) n acc e h more =
    let rest = more j refl (div_below n 16 (hex_room j) (omega arith) h) in omega arith

length_onto : (k m n : ℕ) (acc : List ℕ) → n < hex_room m → length (digits_onto k 16 false n acc) ≤ (m + 1) + length acc
length_onto zero m n acc h = omega arith
length_onto (suc k) m n acc h =
    length_onto_step (n / 16 == 0) k m n acc refl h (λ j e below. let rest = length_onto k j (n / 16) (digit_glyph false (n % 16) ∷ acc) below in omega arith)

length-hex-le : (n : ℕ) → n < 2 ^ 64 → length (digits 16 false n) ≤ 16
unfolding digits
length-hex-le n h = omega (arith, length_onto 64 15 n [] (let room : hex_room 15 ≡ 2 ^ 64 = refl in omega arith))

hex_reads : (n : ℕ) → n < 2 ^ 64 → numeral_in 16 16 (digits 16 false n) ≡ Some n
hex_reads n fits =
    let numeral = digits_is_IsNumeral 16 false (omega arith) (omega arith) n (omega arith) in
    numeral_is 16 16 n (digits 16 false n) numeral.0.0 (length-hex-le n fits) numeral.0.1 numeral.1 fits

not_x : (b : ℕ) → digit_value b < 10 → nat_eq 120 b ≡ false
not_x b h =
    let other : b ≢ 120 = λ e. let large : digit_value 120 < 10 = subst (λ z. digit_value z < 10) e h in omega arith in
    ne_eqb 120 b (λ e. other (sym e))

-- decimal digits don't begin as a hexadecimal number does
no_prefix : (ds : List ℕ) → AllDigits 10 ds → starts_with nat_eq ds (codes "0x") ≡ false
no_prefix [] h = refl
no_prefix (a ∷ []) h = and_right (nat_eq 48 a) false refl
no_prefix (a ∷ b ∷ ds) h = rw (not_x b h.1.0) (and_right (nat_eq 48 a) false refl)

-- a number is read again
pub number_reads : (hex : Bool) (n : ℕ) → n < 2 ^ 64 → number_in (number_text hex n) ≡ Some n
number_reads true n fits = hex_reads n fits
number_reads false n fits =
    rw (no_prefix (decimal n) (decimal_is_IsNumeral n fits).0.1) (decimal_reads 20 n (omega arith) (omega arith) fits)

no_zero : (ds : List ℕ) → 48 < get_or ds 0 0 → has_leading_zero ds ≡ false
no_zero [] h = refl
no_zero (d ∷ ds) h = rw (ne_eqb 48 d (λ e. let less : 48 < d = h in omega arith)) refl

no_leading_zero : (r : ℕ) → r < 32 → has_leading_zero (decimal r) ≡ false
no_leading_zero zero h = rw (decimal_digit 0 (omega arith)) refl
no_leading_zero (suc r) h = no_zero (decimal (suc r)) (first_decimal (suc r) (omega arith) (omega arith))

-- a register is read again
pub register_reads : (r : ℕ) → r < 32 → register_in (register_text r) ≡ Some r
register_reads r h =
    rw (no_leading_zero r h, decimal_reads 2 r (omega arith) (omega arith) (omega arith), lt-ltb r 32 h) refl

-- each byte is above this one
abbrev pub AllAbove : ℕ → List ℕ → Type 0
AllAbove low xs = AllByRecursion (λ b. low < b) xs

-- a word: it has a byte, and none is #, a space or an LF, since each is above #
abbrev pub IsWord : List ℕ → Type 0
IsWord word = (has_bytes word ≡ true) × AllAbove 35 word

-- each byte is above one that a test finds below each
pub above_tested : (low : ℕ) (xs : List ℕ) → list_all (λ b. nat_lt low b) xs ≡ true → AllAbove low xs
above_tested low [] e = tt
above_tested low (x ∷ xs) e =
    let parts = and_parts (nat_lt low x) (list_all (λ b. nat_lt low b) xs) e in
    (ltb-true low x parts.0, above_tested low xs parts.1)

-- whether a text is a word
abbrev pub is_word : List ℕ → Bool
is_word word = has_bytes word && list_all (λ b. nat_lt 35 b) word

pub word_tested : (word : List ℕ) → is_word word ≡ true → IsWord word
word_tested word e =
    let parts = and_parts (has_bytes word) (list_all (λ b. nat_lt 35 b) word) e in
    (parts.0, above_tested 35 word parts.1)

some_bytes : (xs : List ℕ) → 0 < length xs → has_bytes xs ≡ true
some_bytes [] h = absurd (omega arith)
some_bytes (x ∷ xs) h = refl

-- more behind a word's bytes
pub more_bytes : (xs ys : List ℕ) → has_bytes xs ≡ true → has_bytes (xs ++ ys) ≡ true
more_bytes [] ys h = absurd (cc)
more_bytes (x ∷ xs) ys h = refl

digit_above_test : (test : Bool) (c other : ℕ) → test ≡ nat_lt c 48 → cond test 36 other < 36 → 35 < c
digit_above_test true c other e h = absurd (omega arith)
digit_above_test false c other e h = omega (arith, ltb-false c 48 (sym e))

-- digits are above #
digits_above : (radix : ℕ) (ds : List ℕ) → radix ≤ 36 → AllDigits radix ds → AllAbove 35 ds
digits_above radix [] le h = tt
digits_above radix (d ∷ ds) le h =
    let less : digit_value d < 36 = omega (arith, h.0) in
    (digit_above_test (nat_lt d 48) d _ refl less, digits_above radix ds le h.1)

-- a number is a word
pub number_word : (hex : Bool) (n : ℕ) → n < 2 ^ 64 → IsWord (number_text hex n)
number_word true n fits =
    (refl, (omega arith, (omega arith, digits_above 16 (digits 16 false n) (omega arith) (digits_is_IsNumeral 16 false (omega arith) (omega arith) n (omega arith)).0.1)))
number_word false n fits =
    let numeral = decimal_is_IsNumeral n fits in
    (some_bytes (decimal n) numeral.0.0, digits_above 10 (decimal n) (omega arith) numeral.0.1)

-- and so is a register
pub register_word : (r : ℕ) → r < 32 → IsWord (register_text r)
register_word r h = (refl, (omega arith, digits_above 10 (decimal r) (omega arith) (decimal_is_IsNumeral r (omega arith)).0.1))
