-- Each byte after a doubleword was put: one of the value's eight, or the one that was there.
use Rattle.std.proofs.Common.{◌≡◌, ℕ, zero, suc, ◌+◌, ◌-◌, ◌/◌, ◌%◌, ◌^◌, ◌<◌, ◌≤◌, ◌++◌, take, drop, slice_index, ◌⊎◌, inl, inr, refl, ap, sym, ◌∙◌, arith, length-take}
use Rattle.std.proofs.Math.Nat.{div-one}
use Rattle.std.proofs.lemmas.List.{get_or_append_left, get_or-append_right, get_or-take, get_or-drop}
use Rattle.std.proofs.lemmas.Bool.{cases_lt}
use Rattle.std.proofs.lemmas.Nat.{mod_below}
use Rattle.std.specs.Int.{byte_at, bytes_high_first}
use Rattle.byteorder.specs.Endian.{big_bytes}
use Rattle.byteorder.specs.Numbers.{big_from-lt, length-bytes_high_first}
use Rattle.pef_model.specs.Doubleword.{doubleword, with_doubleword}
use Rattle.pef_num.specs.DoublewordLaw.{PutLeavesBytes, PutsHighestFirst, PutGivesBytes, DoublewordFits}

-- a byte of a number, by its place
byte_at-is : (k value : ℕ) → byte_at k value ≡ value / 256 ^ k % 256
byte_at-is zero value = ap (λ (n : ℕ). n % 256) (sym (div-one value))
byte_at-is (suc k) value = refl

-- byte i of the lowest k of a number, the highest of them first
byte-high_first : (k value i : ℕ) → i < k → slice_index (bytes_high_first k value) i ≡ value / 256 ^ (k - 1 - i) % 256
byte-high_first zero value i below = absurd (omega arith)
byte-high_first (suc k) value zero below = byte_at-is k value ∙ ap (λ (n : ℕ). value / 256 ^ n % 256) (omega arith)
byte-high_first (suc k) value (suc i) below = byte-high_first k value i (omega arith) ∙ ap (λ (n : ℕ). value / 256 ^ n % 256) (omega arith)

-- the value's bytes lie between the two parts that were cut off, so a byte of either part keeps its place
pub leaves_bytes : PutLeavesBytes
unfolding with_doubleword
leaves_bytes bytes offset i value room (inl before) =
    get_or_append_left (take offset bytes) (big_bytes 8 value ++ drop 8 (drop offset bytes)) 0 i (omega (arith, length-take offset bytes))
    ∙ get_or-take offset bytes i 0 before
leaves_bytes bytes offset i value room (inr past) =
    get_or-append_right (take offset bytes) (big_bytes 8 value ++ drop 8 (drop offset bytes)) offset i 0 (omega (arith, length-take offset bytes)) (omega arith)
    ∙ get_or-append_right (big_bytes 8 value) (drop 8 (drop offset bytes)) 8 (i - offset) 0 (length-bytes_high_first 8 value) (omega arith)
    ∙ get_or-drop 8 (drop offset bytes) (i - offset - 8) 0
    ∙ get_or-drop offset bytes (8 + (i - offset - 8)) 0
    ∙ ap (slice_index bytes) (omega arith)

-- past the first part the bytes are those of the value
pub highest_first : PutsHighestFirst
unfolding with_doubleword
highest_first bytes offset i value room below =
    get_or-append_right (take offset bytes) (big_bytes 8 value ++ drop 8 (drop offset bytes)) offset (offset + i) 0 (omega (arith, length-take offset bytes)) (omega arith)
    ∙ ap (slice_index (big_bytes 8 value ++ drop 8 (drop offset bytes))) (omega arith)
    ∙ get_or_append_left (big_bytes 8 value) (drop 8 (drop offset bytes)) 0 i (omega (arith, length-bytes_high_first 8 value))
    ∙ byte-high_first 8 value i below

-- eight bytes make a number below 256^8
pub doubleword_fits : DoublewordFits
unfolding doubleword
doubleword_fits bytes offset are_bytes = big_from-lt 0 8 (drop offset bytes) (λ i. rw (get_or-drop offset bytes i 0) (are_bytes (offset + i)))

-- each byte is one that stays, or one of the value
pub gives_bytes : PutGivesBytes
gives_bytes bytes offset value room are_bytes i = by_place (cases_lt i offset) (cases_lt i (offset + 8)) where
  stays : (i < offset) ⊎ (offset + 8 ≤ i) → slice_index (with_doubleword bytes offset value) i < 256
  stays apart = rw (leaves_bytes bytes offset i value room apart) (are_bytes i)

  by_place : (i < offset) ⊎ (offset ≤ i) → (i < offset + 8) ⊎ (offset + 8 ≤ i) → slice_index (with_doubleword bytes offset value) i < 256
  by_place (inl before) within = stays (inl before)
  by_place (inr after) (inr past) = stays (inr past)
  by_place (inr after) (inl within) =
      let here : offset + (i - offset) ≡ i = omega arith in
      let put = highest_first bytes offset (i - offset) value room (omega arith) in
      rw (← here, put) (mod_below (value / 256 ^ (7 - (i - offset))) 256 (omega arith))
