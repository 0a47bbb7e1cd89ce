-- The bytes of a tag tell its fields.
use Rattle.std.proofs.Common.{◌≡◌, ℕ, ◌^◌, ◌<◌, List, ◌++◌, drop, arith, ap, sym, ◌∙◌}
use Rattle.byteorder.specs.Endian.{big_number, big_bytes}
use Rattle.byteorder.specs.Numbers.{big_number-reads_back}
use Rattle.pef_model.specs.Seal.{tag_bytes, vault_image}
use Rattle.pef_model.specs.declared.state.Tag.{Tag}
use Rattle.pef_seal.specs.SealLaw.{VaultTellsTags}

-- lists that begin with the bytes of two doublewords tell them apart
same_doubleword : (a b : ℕ) (xs ys : List ℕ) → a < 2 ^ 64 → b < 2 ^ 64 → big_bytes 8 a ++ xs ≡ big_bytes 8 b ++ ys → a ≡ b
same_doubleword a b xs ys small also_small e =
    sym (big_number-reads_back 8 a xs small) ∙ ap (big_number 8) e ∙ big_number-reads_back 8 b ys also_small

-- tags with the same fields are the same
same_tag : (tag other : Tag) → tag.lpid ≡ other.lpid → tag.generation ≡ other.generation → tag.gfn ≡ other.gfn → tag.version ≡ other.version → tag ≡ other
same_tag tag other lpid generation gfn version = λ i. record { lpid = lpid i; generation = generation i; gfn = gfn i; version = version i }

-- each of the four doublewords is read where it was written
pub tags_are_told : VaultTellsTags
unfolding tag_bytes
tags_are_told size tag other fits also_fits e =
    let image = vault_image size tag in
    let other_image = vault_image size other in
    same_tag tag other
    (same_doubleword tag.lpid other.lpid (drop 8 image) (drop 8 other_image) (omega (arith, fits.lpid)) (omega (arith, also_fits.lpid)) e)
    (same_doubleword tag.generation other.generation (drop 16 image) (drop 16 other_image) fits.generation also_fits.generation (ap (drop 8) e))
    (same_doubleword tag.gfn other.gfn (drop 24 image) (drop 24 other_image) (omega (arith, fits.gfn)) (omega (arith, also_fits.gfn)) (ap (drop 16) e))
    (same_doubleword tag.version other.version (drop 32 image) (drop 32 other_image) fits.version also_fits.version (ap (drop 24) e))
