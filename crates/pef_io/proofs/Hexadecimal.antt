-- The digits of a word without the zeros at the front are its hexadecimal digits.
use Rattle.std.proofs.Common.{◌≡◌, ℕ, zero, suc, ◌/◌, ◌%◌, ◌^◌, ◌<◌, ◌≤◌, ◌==◌, Bool, true, false, not, ◌&&◌, List, [], ◌∷◌, ◌++◌, drop, min, slice_index, refl, sym, ap, ◌∙◌, arith, inl, inr, append_assoc, lit<, w64, append-nil, length}
use Rattle.std.proofs.lemmas.Bool.{and_parts, cases_lt, eqb-true, eq-eqb, ne_eqb}
use Rattle.std.proofs.lemmas.Bool.Decides.{nat_tests}
use Rattle.std.proofs.Math.Nat.{div-div-eq-div-mul, div-eq_of_lt, min-zero, pow-suc}
use Rattle.std.proofs.lemmas.Nat.{div_below, le-div}
use Rattle.std.specs.Fmt.{digit_glyph, digits_onto, digits}
use Rattle.std.specs.Int.{byte_at, bytes_high_first, to_be_bytes}
use Rattle.std.specs.List.{prefix_len, position}
use Rattle.std.specs.Option.{unwrap_or}
use Rattle.hex.proofs.HexLemmas.{length-encode_with}
use Rattle.hex.specs.Hex.{encode_lower, encode_with, lower_digits}

-- the lowest digits of a number, so many of them, the highest first
abbrev pub lowest_digits : ℕ → ℕ → List ℕ
lowest_digits zero n = []
lowest_digits (suc k) n = digit_glyph false (n / 16 ^ k % 16) ∷ lowest_digits k n

-- whether it is the digit 0, in the form that `position` passes over
abbrev pub is_zero : ℕ → Bool
is_zero digit = not (not (digit == 48))

-- the lowest digits are those of the number without its last digit, and then that digit
lowest_digits_push : (k n : ℕ) → lowest_digits (suc k) n ≡ lowest_digits k (n / 16) ++ digit_glyph false (n % 16) ∷ []
lowest_digits_push zero n = ap (λ (m : ℕ). digit_glyph false (m % 16) ∷ []) {x = n / 16 ^ 0} {y = n} (omega arith)
lowest_digits_push (suc k) n =
    let front : n / 16 / 16 ^ k ≡ n / 16 ^ suc k = div-div-eq-div-mul n 16 (16 ^ k) ∙ ap (λ (m : ℕ). n / m) (omega (arith, pow-suc 16 k)) in
    ap (λ (m : ℕ). digit_glyph false (m % 16) ∷ lowest_digits (suc k) n) (sym front)
    ∙ ap (λ (xs : List ℕ). digit_glyph false (n / 16 / 16 ^ k % 16) ∷ xs) (lowest_digits_push k n)

-- the digit 0 alone is written as 48
glyph_is_zero : (d : ℕ) → d < 16 → is_zero (digit_glyph false d) ≡ (d == 0)
glyph_is_zero d small = grind (arith, nat_tests)

-- the first digit is written last
digits_onto_last : (j n : ℕ) (after : List ℕ) → n < 16 → 0 < j → digits_onto j 16 false n after ≡ digit_glyph false n ∷ after
digits_onto_last zero n after small some = absurd (omega arith)
digits_onto_last (suc j) n after small some =
    let front : n / 16 ≡ 0 = omega arith in
    let last : n % 16 ≡ n = omega arith in
    rw (front, last)

-- each other digit is written before those after it
digits_onto_step : (j n : ℕ) (after : List ℕ) → 16 ≤ n → digits_onto (suc j) 16 false n after ≡ digits_onto j 16 false (n / 16) (digit_glyph false (n % 16) ∷ after)
digits_onto_step j n after large =
    let more : (n / 16 == 0) ≡ false = ne_eqb (n / 16) 0 (λ e. absurd (omega arith)) in
    rw more

-- a power of 16 is not 0
power_positive : (k : ℕ) → 0 < 16 ^ k
power_positive zero = lit< tt
power_positive (suc k) = omega (arith, power_positive k, pow-suc 16 k)

-- a number with so many digits is written with all of them
digits_onto-all : (k j n : ℕ) (after : List ℕ) → 16 ^ k ≤ n → n < 16 ^ suc k → k < j → digits_onto j 16 false n after ≡ lowest_digits (suc k) n ++ after
digits_onto-all zero j n after low high room =
    digits_onto_last j n after high room ∙ ap (λ (m : ℕ). digit_glyph false m ∷ after) {x = n} {y = n / 16 ^ 0 % 16} (omega arith)
digits_onto-all (suc k) zero n after low high room = absurd (omega arith)
digits_onto-all (suc k) (suc j) n after low high room =
    let one = pow-suc 16 k in
    let two = pow-suc 16 (suc k) in
    let last = digit_glyph false (n % 16) in
    digits_onto_step j n after (omega (arith, one, power_positive k))
    ∙ digits_onto-all k j (n / 16) (last ∷ after) (omega (arith, one)) (omega (arith, two)) (omega arith)
    ∙ sym (append_assoc (lowest_digits (suc k) (n / 16)) (last ∷ []) after)
    ∙ ap (λ (xs : List ℕ). xs ++ after) (sym (lowest_digits_push (suc k) n))

-- the digits without the zeros at the front, the last digit apart
abbrev pub past_zeros : ℕ → List ℕ → List ℕ
past_zeros k xs = drop (min (prefix_len is_zero xs) k) xs

-- a zero at the front is passed
past_zeros-zero : (k digit : ℕ) (rest : List ℕ) → is_zero digit ≡ true → past_zeros (suc k) (digit ∷ rest) ≡ past_zeros k rest
past_zeros-zero k digit rest passed =
    let count : min (prefix_len is_zero (digit ∷ rest)) (suc k) ≡ suc (min (prefix_len is_zero rest) k) = rw passed (omega arith) in
    ap (λ (m : ℕ). drop m (digit ∷ rest)) count

-- another digit at the front stays
past_zeros-other : (k digit : ℕ) (rest : List ℕ) → is_zero digit ≡ false → past_zeros k (digit ∷ rest) ≡ digit ∷ rest
past_zeros-other k digit rest other =
    let count : min (prefix_len is_zero (digit ∷ rest)) k ≡ 0 = rw other (omega arith) in
    ap (λ (m : ℕ). drop m (digit ∷ rest)) count

-- past the zeros at the front, the lowest digits of a number are its digits
digits_onto-past_zeros : (k j n : ℕ) → n < 16 ^ suc k → k < j → digits_onto j 16 false n [] ≡ past_zeros k (lowest_digits (suc k) n)
digits_onto-past_zeros zero j n high room =
    digits_onto_last j n [] high room
    ∙ ap (λ (m : ℕ). digit_glyph false m ∷ []) {x = n} {y = n / 16 ^ 0 % 16} (omega arith)
    ∙ sym (ap (λ (m : ℕ). drop m (lowest_digits 1 n)) (min-zero (prefix_len is_zero (lowest_digits 1 n))))
digits_onto-past_zeros (suc k) j n high room =
    let first = n / 16 ^ suc k % 16 in
    let rest = lowest_digits (suc k) n in
    let is_zero-first = glyph_is_zero first (omega arith) in
    elim (cases_lt n (16 ^ suc k)) [
      | inl below ↦
          let none : first ≡ 0 = ap (λ (m : ℕ). m % 16) (div-eq_of_lt below) in
          digits_onto-past_zeros k j n below (omega arith)
          ∙ sym (past_zeros-zero k (digit_glyph false first) rest (is_zero-first ∙ eq-eqb first 0 none))
      | inr above ↦
          let some : 1 ≤ n / 16 ^ suc k = le-div 1 n (16 ^ suc k) (power_positive (suc k)) (omega arith) in
          let below : n / 16 ^ suc k < 16 = div_below n (16 ^ suc k) 16 (power_positive (suc k)) (omega (arith, pow-suc 16 (suc k))) in
          digits_onto-all (suc k) j n [] above high room
          ∙ append-nil (lowest_digits (suc (suc k)) n)
          ∙ sym (past_zeros-other (suc k) (digit_glyph false first) rest (is_zero-first ∙ ne_eqb first 0 (λ e. absurd (omega arith))))
    ]

-- the test of a digit of the table, which computes
abbrev are_same : ℕ → Bool
are_same zero = true
are_same (suc d) = (slice_index lower_digits d == digit_glyph false d) && are_same d

-- the table has the digit of each number below those tested
are_same-at : (count d : ℕ) → are_same count ≡ true → d < count → slice_index lower_digits d ≡ digit_glyph false d
are_same-at zero d same below = absurd (omega arith)
are_same-at (suc count) d same below =
    let parts = and_parts (slice_index lower_digits count == digit_glyph false count) (are_same count) same in
    elim (cases_lt d count) [
      | inl lower ↦ are_same-at count d parts.1 lower
      | inr top ↦
          let last : d ≡ count = omega arith in
          rw last (eqb-true (slice_index lower_digits count) (digit_glyph false count) parts.0)
    ]

-- twice a number, which computes
abbrev pub twice : ℕ → ℕ
twice zero = zero
twice (suc k) = suc (suc (twice k))

-- so many bytes have twice as many digits
power_of_bytes : (k : ℕ) → 16 ^ twice k ≡ 256 ^ k
power_of_bytes zero = refl
power_of_bytes (suc k) =
    let same = power_of_bytes k in
    omega (arith, pow-suc 16 (twice k), pow-suc 16 (suc (twice k)), pow-suc 256 k)

-- a byte of a number, by the place of its lower digit
byte_at-place : (k n : ℕ) → byte_at k n ≡ n / 16 ^ twice k % 256
byte_at-place zero n = ap (λ (m : ℕ). m % 256) {x = n} {y = n / 16 ^ 0} (omega arith)
byte_at-place (suc k) n = ap (λ (m : ℕ). n / m % 256) (sym (power_of_bytes (suc k)))

-- the text of a byte is that of its two digits
digit_of_table : (d : ℕ) → d < 16 → slice_index lower_digits d ≡ digit_glyph false d
digit_of_table d small = are_same-at 16 d refl small

-- the text of the lowest bytes is that of the lowest digits
encode_with-bytes : (k n : ℕ) → encode_with lower_digits (bytes_high_first k n) ≡ lowest_digits (twice k) n
unfolding encode_with
encode_with-bytes zero n = refl
encode_with-bytes (suc k) n =
    let byte = byte_at k n in
    let place = byte_at-place k n in
    let next : n / 16 ^ twice k / 16 ≡ n / 16 ^ suc (twice k) =
    div-div-eq-div-mul n (16 ^ twice k) 16 ∙ ap (λ (m : ℕ). n / m) (sym (pow-suc 16 (twice k))) in
    let high : byte / 16 ≡ n / 16 ^ suc (twice k) % 16 = omega (arith, place, next) in
    let low : byte % 16 ≡ n / 16 ^ twice k % 16 = omega (arith, place) in
    let first = digit_of_table (byte / 16) (omega (arith, high)) ∙ ap (λ (m : ℕ). digit_glyph false m) high in
    let second = digit_of_table (byte % 16) (omega arith) ∙ ap (λ (m : ℕ). digit_glyph false m) low in
    cc (first, second, encode_with-bytes k n)

-- the digits by the count that bounds them
digits-onto : (n : ℕ) → digits 16 false n ≡ digits_onto 64 16 false n []
unfolding digits
digits-onto n = refl

-- where the digits start, of so many
start-past_zeros : (xs : List ℕ) → length xs ≡ 16 → drop (unwrap_or (position (λ digit. not (digit == 48)) xs) 15) xs ≡ past_zeros 15 xs
start-past_zeros xs long =
    let count : unwrap_or (position (λ digit. not (digit == 48)) xs) 15 ≡ min (prefix_len is_zero xs) 15 = grind (arith, nat_tests) in
    ap (λ (m : ℕ). drop m xs) count

-- past the zeros at the front, the text of a word is that of its digits
pub word_digits : (value : ℕ) → value < 2 ^ 64
    → let text = encode_lower (to_be_bytes w64 value) in drop (unwrap_or (position (λ digit. not (digit == 48)) text) 15) text ≡ digits 16 false value
word_digits value small =
    let text = encode_lower (to_be_bytes w64 value) in
    let whole : text ≡ lowest_digits 16 value = encode_with-bytes 8 value in
    start-past_zeros text (length-encode_with lower_digits (to_be_bytes w64 value))
    ∙ ap (past_zeros 15) whole
    ∙ sym (digits_onto-past_zeros 15 64 value small (lit< tt))
    ∙ sym (digits-onto value)
