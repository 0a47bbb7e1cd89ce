-- What a page's size is large enough for, and what divides it.
use Rattle.std.proofs.Common.{◌≡◌, ℕ, ◌+◌, ◌-◌, ◌*◌, ◌%◌, ◌^◌, ◌≤◌, arith, ap, ◌∙◌}
use Rattle.std.proofs.lemmas.Nat.{pow-add}
use Rattle.pef_model.proofs.Filled.{tag_fits}
use Rattle.pef_seal.specs.PageSize.{IsPageSize}

-- a tag fits into a page
pub page_holds_tag : (size : ℕ) → IsPageSize size → 32 ≤ size
page_holds_tag size page =
    let fits = tag_fits page.shift page.range.0 in
    omega (arith, fits, page.is)

-- a power of two from 32 on, as a number of blocks
power_of_blocks : (shift : ℕ) → 8 ≤ shift → 2 ^ shift ≡ 2 ^ (shift - 5) * 32
power_of_blocks shift least =
    let parts : shift ≡ (shift - 5) + 5 = omega arith in
    ap (λ (n : ℕ). 2 ^ n) parts ∙ pow-add 2 (shift - 5) 5

-- a page is whole blocks of the keystream
pub page_is_blocks : (size : ℕ) → IsPageSize size → size % 32 ≡ 0
page_is_blocks size page =
    let blocks = power_of_blocks page.shift page.range.0 in
    omega (arith, blocks, page.is)
