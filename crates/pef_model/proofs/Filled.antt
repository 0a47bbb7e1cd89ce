-- A sealed page has as many bytes as the page.
use Rattle.std.proofs.Common.{◌≡◌, ℕ, ◌^◌, ◌≤◌, List, Bool, true, false, if◌then◌else◌, length, arith, refl, ◌∙◌, length-append}
use Rattle.std.proofs.Math.Nat.{pow-le-pow_right}
use Rattle.std.proofs.lemmas.List.{length-replicate}
use Rattle.std.proofs.lemmas.List.FromFn.{length-map-range_with_len}
use Rattle.pef_model.specs.Seal.{tag_bytes, vault_image, stream_image}
use Rattle.pef_model.specs.declared.state.Tag.{Tag}
use Rattle.pef_model.specs.MoveLaw.{SealedPagesFill}

-- a tag is four doublewords of eight bytes
pub length-tag_bytes : (tag : Tag) → length (tag_bytes tag) ≡ 32
unfolding tag_bytes
length-tag_bytes tag = refl

-- and fits into a page
pub tag_fits : (shift : ℕ) → 8 ≤ shift → 32 ≤ 2 ^ shift
tag_fits shift least =
    let size : 2 ^ 8 ≤ 2 ^ shift = pow-le-pow_right (omega arith) least in
    omega arith

-- a tag and zeros fill a page that has room for the tag
length-vault_image : (size : ℕ) (tag : Tag) → 32 ≤ size → length (vault_image size tag) ≡ size
length-vault_image size tag room = simp (length-append, length-replicate) (omega (arith, length-tag_bytes tag))

-- the stream changes each byte, and no number of bytes
pub length-stream_image : (key : List ℕ) (tag : Tag) (plain : List ℕ) → length (stream_image key tag plain) ≡ length plain
length-stream_image key tag plain = length-map-range_with_len _ 0 (length plain)

-- by the configuration's seal
pub sealed_pages_fill : SealedPagesFill
sealed_pages_fill config tag plain range whole =
    elim config.vault as (λ (vault : Bool). length (if vault then vault_image (2 ^ config.shift) tag else stream_image config.key tag plain) ≡ 2 ^ config.shift) [
      | true ↦ length-vault_image (2 ^ config.shift) tag (tag_fits config.shift range.shift.0)
      | false ↦ length-stream_image config.key tag plain ∙ whole
    ]
