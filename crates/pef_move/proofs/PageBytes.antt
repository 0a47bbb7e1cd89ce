-- A page is the bytes of its doublewords.
use Rattle.std.proofs.Common.{◌≡◌, ℕ, zero, suc, ◌+◌, ◌-◌, ◌*◌, ◌/◌, ◌%◌, ◌^◌, ◌<◌, ◌≤◌, List, [], ◌∷◌, ◌++◌, length, take, drop, map, get_or, arith, refl, sym, ap, subst, ◌∙◌, ◌⊎◌, inl, inr, length-take, length-drop, zero-add}
use Rattle.std.proofs.Math.Nat.{mul-mod_left}
use Rattle.std.proofs.lemmas.Bool.{cases_lt}
use Rattle.std.specs.List.{flat_map, range_with_len}
use Rattle.std.specs.Int.{w64, from_be_bytes}
use Rattle.std.proofs.lemmas.List.{take-append-drop, get_or-take, get_or-drop, get_or_past, drop-drop}
use Rattle.std.proofs.lemmas.Nat.{be_bytes_8, pow-add, mod-mul-add, div-mul-add}
use Rattle.byteorder.specs.Endian.{big_bytes, big_number}
use Rattle.byteorder.specs.Numbers.{big_from-take}
use Rattle.pef_model.specs.Doubleword.{doubleword}
use Rattle.pef_model.specs.PageOut.{page_bytes}
use Rattle.pef_num.specs.DoublewordLaw.{AreBytes}

-- the first eight bytes are those of the number that they are
eight : (bytes : List ℕ) → 8 ≤ length bytes → AreBytes bytes → big_bytes 8 (big_number 8 bytes) ≡ take 8 bytes
eight bytes enough are =
    be_bytes_8 (take 8 bytes) (big_number 8 bytes) (omega (arith, length-take 8 bytes)) small
    (sym (big_from-take 0 8 8 bytes (omega arith)) ∙ whole) where
      whole : big_number 8 (take 8 bytes) ≡ from_be_bytes w64 (take 8 bytes)
      whole = omega arith

      small : (i : ℕ) → get_or (take 8 bytes) i 0 < 256
      small i = by_place (cases_lt i 8) where
        by_place : (i < 8) ⊎ (8 ≤ i) → get_or (take 8 bytes) i 0 < 256
        by_place (inl within) = rw (get_or-take 8 bytes i 0 within) (are i)
        by_place (inr past) = rw (get_or_past (take 8 bytes) i 0 (omega (arith, length-take 8 bytes))) (omega arith)

-- bytes whose doublewords are the values of a function are the bytes of these values
words : (n start : ℕ) (bytes : List ℕ) (value : ℕ → ℕ) → length bytes ≡ n * 8 → AreBytes bytes → ((i : ℕ) → i < n → big_number 8 (drop (8 * i) bytes) ≡ value (start + i)) →
    bytes ≡ flat_map (big_bytes 8) (map value (range_with_len start n))
words zero start [] value size are each = refl
words zero start (byte ∷ bytes) value size are each = absurd (omega arith)
words (suc n) start bytes value size are each =
    sym (take-append-drop 8 bytes)
    ∙ ap (λ (front : List ℕ). front ++ drop 8 bytes) (sym (eight bytes (omega arith) are) ∙ ap (big_bytes 8) (each 0 (omega arith) ∙ ap value (omega arith)))
    ∙ ap (λ (back : List ℕ). big_bytes 8 (value start) ++ back) (words n (start + 1) (drop 8 bytes) value (omega (arith, length-drop 8 bytes)) (λ i. subst (λ (byte : ℕ). byte < 256) (sym (get_or-drop 8 bytes i 0)) (are (8 + i)))
    (λ i below. ap (big_number 8) (drop-drop (8 * i) 8 bytes) ∙ ap (λ (k : ℕ). big_number 8 (drop k bytes)) (omega arith) ∙ each (suc i) (omega arith) ∙ ap value (omega arith)))

-- a page is so many doublewords
doublewords_of : (shift : ℕ) → 8 ≤ shift → 2 ^ shift ≡ 2 ^ (shift - 3) * 8
doublewords_of shift least =
    let split : shift ≡ (shift - 3) + 3 = omega arith in
    ap (λ (n : ℕ). 2 ^ n) split ∙ pow-add 2 (shift - 3) 3

-- bytes that have at each offset the doubleword of its address are the page
pub page_bytes-is : (shift gfn : ℕ) (value : ℕ → ℕ) (bytes : List ℕ) → 8 ≤ shift → length bytes ≡ 2 ^ shift → AreBytes bytes →
    ((gpa : ℕ) → gpa % 8 ≡ 0 → gpa / 2 ^ shift ≡ gfn → doubleword bytes (gpa % 2 ^ shift) ≡ value gpa) → bytes ≡ page_bytes shift value gfn
unfolding page_bytes doubleword
page_bytes-is shift gfn value bytes least size are each =
    let many : 2 ^ shift ≡ 2 ^ (shift - 3) * 8 = doublewords_of shift least in
    let count : 2 ^ shift / 8 * 8 ≡ 2 ^ shift = omega arith in
    words (2 ^ shift / 8) 0 bytes (λ i. value (gfn * 2 ^ shift + 8 * i)) (size ∙ sym count) are (λ i below. at i below) where
      at : (i : ℕ) → i < 2 ^ shift / 8 → big_number 8 (drop (8 * i) bytes) ≡ value (gfn * 2 ^ shift + 8 * (0 + i))
      at i below =
          let many : 2 ^ shift ≡ 2 ^ (shift - 3) * 8 = doublewords_of shift least in
          let inside : 8 * i < 2 ^ shift = omega arith in
          let offset : (gfn * 2 ^ shift + 8 * i) % 2 ^ shift ≡ 8 * i = mod-mul-add gfn (2 ^ shift) (8 * i) inside in
          let page : (gfn * 2 ^ shift + 8 * i) / 2 ^ shift ≡ gfn = div-mul-add gfn (2 ^ shift) (8 * i) inside in
          let multiple : gfn * 2 ^ shift + 8 * i ≡ (gfn * 2 ^ (shift - 3) + i) * 8 = ap (λ (n : ℕ). gfn * n + 8 * i) many ∙ grind arith in
          let aligned : (gfn * 2 ^ shift + 8 * i) % 8 ≡ 0 = ap (λ (n : ℕ). n % 8) multiple ∙ mul-mod_left (gfn * 2 ^ (shift - 3) + i) 8 in
          ap (λ (k : ℕ). big_number 8 (drop k bytes)) (sym offset) ∙ each (gfn * 2 ^ shift + 8 * i) aligned page ∙ ap (λ (k : ℕ). value (gfn * 2 ^ shift + 8 * k)) (sym (zero-add i))
