-- A page's bytes: as many as its size, the doubleword of each address at its offset, and no other.
use Rattle.std.proofs.Common.{◌≡◌, ℕ, zero, suc, ◌+◌, ◌*◌, ◌/◌, ◌%◌, ◌^◌, ◌<◌, List, [], ◌∷◌, length, drop, map, get_or, arith, refl, ap, sym, ◌∙◌, length-append}
use Rattle.std.proofs.lemmas.List.{drop-drop}
use Rattle.std.proofs.lemmas.List.FromFn.{length-map-range_with_len, get_or-map-range_with_len, fill_by_all}
use Rattle.std.proofs.lemmas.Nat.{pow_pos, mod_below, shr_split, div-mul-add}
use Rattle.std.specs.List.{range_with_len}
use Rattle.byteorder.specs.Endian.{big_number, big_bytes}
use Rattle.byteorder.specs.Numbers.{big_number-reads_back}
use Rattle.pef_model.specs.Doubleword.{doubleword}
use Rattle.pef_model.specs.Seal.{doublewords}
use Rattle.pef_model.specs.PageOut.{page_bytes}
use Rattle.pef_model.specs.MoveLaw.{PageHasEachDoubleword, PageHasItsLength}
use Rattle.pef_model.proofs.Places.{doublewords_of, offset_aligned}

-- each doubleword has eight bytes
length-doublewords : (values : List ℕ) → length (doublewords values) ≡ 8 * length values
length-doublewords [] = refl
length-doublewords (value ∷ more) =
    let ih = length-doublewords more in
    length-append (big_bytes 8 value) (doublewords more) ∙ omega arith

-- past a doubleword's bytes come those of the next
after_one : (value : ℕ) (more : List ℕ) (n : ℕ) → drop (8 + n) (doublewords (value ∷ more)) ≡ drop n (doublewords more)
after_one value more n = sym (drop-drop n 8 (doublewords (value ∷ more)))

-- the doubleword at eight times a place is the one at the place
doubleword-at : (values : List ℕ) (k : ℕ) → k < length values → get_or values k 0 < 2 ^ 64 → doubleword (doublewords values) (8 * k) ≡ get_or values k 0
unfolding doubleword
doubleword-at [] k within small = absurd (omega arith)
doubleword-at (value ∷ more) zero within small = big_number-reads_back 8 value (doublewords more) small
doubleword-at (value ∷ more) (suc k) within small =
    let ih = doubleword-at more k (omega arith) small in
    let next : 8 * suc k ≡ 8 + 8 * k = omega arith in
    ap (λ (n : ℕ). big_number 8 (drop n (doublewords (value ∷ more)))) next ∙ ap (big_number 8) (after_one value more (8 * k)) ∙ ih

-- each of its doublewords has eight bytes
pub page_has_its_length : PageHasItsLength
unfolding page_bytes
page_has_its_length shift value gfn range =
    let size = doublewords_of shift range.0 in
    length-doublewords (map (λ i. value (gfn * 2 ^ shift + 8 * i)) (range_with_len 0 (2 ^ shift / 8)))
    ∙ ap (λ (n : ℕ). 8 * n) (length-map-range_with_len (λ i. value (gfn * 2 ^ shift + 8 * i)) 0 (2 ^ shift / 8)) ∙ omega arith

-- the doubleword of an address stands at its offset
pub page_has_each_doubleword : PageHasEachDoubleword
unfolding page_bytes
page_has_each_doubleword shift value gpa range aligned small =
    let f : ℕ → ℕ = λ i. value (gpa / 2 ^ shift * 2 ^ shift + 8 * i) in
    let k : ℕ = gpa % 2 ^ shift / 8 in
    let n : ℕ = 2 ^ shift / 8 in
    let values : List ℕ = map f (range_with_len 0 n) in
    let offset = offset_aligned shift gpa range.0 aligned in
    let size = doublewords_of shift range.0 in
    let below : gpa % 2 ^ shift < 2 ^ shift = mod_below gpa (2 ^ shift) (pow_pos shift) in
    let whole : gpa / 2 ^ shift * 2 ^ shift + gpa % 2 ^ shift ≡ gpa = shr_split gpa shift in
    let eight : gpa % 2 ^ shift ≡ 8 * k = omega arith in
    let inside : k < n = omega arith in
    let here : get_or values k 0 ≡ value gpa = get_or-map-range_with_len f 0 n k k 0 inside (omega arith) ∙ ap value (omega arith) in
    ap (doubleword (doublewords values)) eight
    ∙ doubleword-at values k (rw length-map-range_with_len inside) (rw here small) ∙ here

-- values that agree at the addresses of a page give it the same bytes
pub same_page_bytes : (shift : ℕ) (value other : ℕ → ℕ) (gfn : ℕ) → ((gpa : ℕ) → gpa / 2 ^ shift ≡ gfn → value gpa ≡ other gpa) → page_bytes shift value gfn ≡ page_bytes shift other gfn
unfolding page_bytes
same_page_bytes shift value other gfn same = ap doublewords (fill_by_all (λ i. other (at i)) (map (λ i. value (at i)) (range_with_len 0 n)) n 0
    (length-map-range_with_len (λ i. value (at i)) 0 n)
    (λ k below. get_or-map-range_with_len (λ i. value (at i)) 0 n k k 0 below (omega arith) ∙ same (at k) (within k below))) where
      n : ℕ
      n = 2 ^ shift / 8

      at : ℕ → ℕ
      at i = gfn * 2 ^ shift + 8 * i

      within : (k : ℕ) → k < n → at k / 2 ^ shift ≡ gfn
      within k below = let inside : 8 * k < 2 ^ shift = omega arith in div-mul-add gfn (2 ^ shift) (8 * k) inside
