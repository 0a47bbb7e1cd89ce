-- Where doublewords lie in their pages: each within its page, and no two over one another.
use Rattle.std.proofs.Common.{◌≡◌, ℕ, ◌+◌, ◌-◌, ◌*◌, ◌/◌, ◌%◌, ◌^◌, ◌<◌, ◌≤◌, ◌⊎◌, arith, ap, ◌∙◌}
use Rattle.std.proofs.Math.Pow.{mod-mod-pow}
use Rattle.std.proofs.lemmas.Nat.{pow-add, pow_pos, mod_below, shr_split}

-- a page is some number of doublewords
pub doublewords_of : (shift : ℕ) → 8 ≤ shift → 2 ^ shift ≡ 2 ^ (shift - 3) * 8
doublewords_of shift least =
    let split : shift ≡ (shift - 3) + 3 = omega arith in
    ap (λ (n : ℕ). 2 ^ n) split ∙ pow-add 2 (shift - 3) 3

-- an address is as far above a multiple of 8 as its offset
pub offset_eighth : (shift gpa : ℕ) → 8 ≤ shift → gpa % 2 ^ shift % 8 ≡ gpa % 8
offset_eighth shift gpa least =
    let split : shift ≡ (shift - 3) + 3 = omega arith in
    ap (λ (n : ℕ). gpa % 2 ^ n % 8) split ∙ mod-mod-pow gpa (shift - 3) 3

-- the offset of a doubleword's address is a multiple of 8 too
pub offset_aligned : (shift gpa : ℕ) → 8 ≤ shift → gpa % 8 ≡ 0 → gpa % 2 ^ shift % 8 ≡ 0
offset_aligned shift gpa least aligned = offset_eighth shift gpa least ∙ aligned

-- a doubleword lies within its page
pub room_at : (shift gpa : ℕ) → 8 ≤ shift → gpa % 8 ≡ 0 → gpa % 2 ^ shift + 8 ≤ 2 ^ shift
room_at shift gpa least aligned =
    let below : gpa % 2 ^ shift < 2 ^ shift = mod_below gpa (2 ^ shift) (pow_pos shift) in
    let offset = offset_aligned shift gpa least aligned in
    let size = doublewords_of shift least in
    omega arith

-- two doublewords in one page are the same, or lie apart
pub apart_at : (shift at gpa : ℕ) → 8 ≤ shift → at % 8 ≡ 0 → gpa % 8 ≡ 0 → at / 2 ^ shift ≡ gpa / 2 ^ shift → (at ≡ gpa → ⊥) →
    (gpa % 2 ^ shift + 8 ≤ at % 2 ^ shift) ⊎ (at % 2 ^ shift + 8 ≤ gpa % 2 ^ shift)
apart_at shift at gpa least at_aligned gpa_aligned page other =
    let first = offset_aligned shift at least at_aligned in
    let second = offset_aligned shift gpa least gpa_aligned in
    let split_at : at / 2 ^ shift * 2 ^ shift + at % 2 ^ shift ≡ at = shr_split at shift in
    let split_gpa : gpa / 2 ^ shift * 2 ^ shift + gpa % 2 ^ shift ≡ gpa = shr_split gpa shift in
    let same : at / 2 ^ shift * 2 ^ shift ≡ gpa / 2 ^ shift * 2 ^ shift = ap (λ (n : ℕ). n * 2 ^ shift) page in
    let differ : at % 2 ^ shift ≡ gpa % 2 ^ shift → ⊥ = λ e. other (omega arith) in
    grind arith
