-- A page's bytes depend on the doublewords of its own addresses alone.
use Rattle.std.proofs.Common.{◌≡◌, ℕ, ◌+◌, ◌*◌, ◌/◌, ◌^◌, ◌<◌, map, arith, ap, ◌∙◌}
use Rattle.std.proofs.lemmas.List.FromFn.{length-map-range_with_len, get_or-map-range_with_len, fill_by_all}
use Rattle.std.proofs.lemmas.Nat.{div-mul-add}
use Rattle.std.specs.List.{range_with_len}
use Rattle.pef_model.specs.Seal.{doublewords}
use Rattle.pef_model.specs.PageOut.{page_bytes}

-- two lists made of functions are the same where the functions are, below the length
same_below : (f g : ℕ → ℕ) (n : ℕ) → ((i : ℕ) → i < n → f i ≡ g i) → map f (range_with_len 0 n) ≡ map g (range_with_len 0 n)
same_below f g n same =
    fill_by_all g (map f (range_with_len 0 n)) n 0 (length-map-range_with_len f 0 n)
    (λ i below. get_or-map-range_with_len f 0 n i i 0 below (omega arith) ∙ same i below)

-- each doubleword of a page lies at an address of the page
in_page : (shift gfn i : ℕ) → i < 2 ^ shift / 8 → (gfn * 2 ^ shift + 8 * i) / 2 ^ shift ≡ gfn
in_page shift gfn i below = div-mul-add gfn (2 ^ shift) (8 * i) (omega arith)

pub same_page_bytes : (shift : ℕ) (value other : ℕ → ℕ) (gfn : ℕ) → ((gpa : ℕ) → gpa / 2 ^ shift ≡ gfn → value gpa ≡ other gpa) → page_bytes shift value gfn ≡ page_bytes shift other gfn
unfolding page_bytes
same_page_bytes shift value other gfn same =
    ap doublewords
    (same_below (λ i. value (gfn * 2 ^ shift + 8 * i)) (λ i. other (gfn * 2 ^ shift + 8 * i)) (2 ^ shift / 8) (λ i below. same (gfn * 2 ^ shift + 8 * i) (in_page shift gfn i below)))
