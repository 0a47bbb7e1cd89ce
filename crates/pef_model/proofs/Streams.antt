-- The stream seal undoes itself, and so tells pages apart.
use Rattle.std.proofs.Common.{◌≡◌, ℕ, ◌<◌, List, length, slice_index, bit_xor, arith, ap, sym, ◌∙◌}
use Rattle.std.specs.Int.Bits.{xor_assoc, xor_self, xor_zero_r}
use Rattle.std.proofs.lemmas.List.FromFn.{get_or-map-range_with_len, fill_by_all}
use Rattle.pef_model.specs.Seal.{keystream, stream_image}
use Rattle.pef_model.specs.declared.state.Tag.{Tag}
use Rattle.pef_model.proofs.Filled.{length-stream_image}

-- the exclusive-or with a number is undone by itself
xor_twice : (a b : ℕ) → bit_xor (bit_xor a b) b ≡ a
xor_twice a b = xor_assoc a b b ∙ ap (bit_xor a) (xor_self b) ∙ xor_zero_r a

-- byte i of a sealed page
pub stream_image-byte : (key : List ℕ) (tag : Tag) (plain : List ℕ) (i : ℕ) → i < length plain →
    slice_index (stream_image key tag plain) i ≡ bit_xor (slice_index plain i) (keystream key tag i)
stream_image-byte key tag plain i within =
    get_or-map-range_with_len (λ (k : ℕ). bit_xor (slice_index plain k) (keystream key tag k)) 0 (length plain) i i 0 within (omega arith)

-- sealing a sealed page gives the page
pub stream_image-twice : (key : List ℕ) (tag : Tag) (plain : List ℕ) → stream_image key tag (stream_image key tag plain) ≡ plain
stream_image-twice key tag plain =
    let sealed = stream_image key tag plain in
    let long = length-stream_image key tag plain in
    sym (fill_by_all (λ (k : ℕ). bit_xor (slice_index sealed k) (keystream key tag k)) plain (length sealed) 0 (sym long)
    (λ k within.
    sym (ap (λ (b : ℕ). bit_xor b (keystream key tag k)) (stream_image-byte key tag plain k (omega arith)) ∙ xor_twice (slice_index plain k) (keystream key tag k))))

-- pages with one sealed page under a tag are one
pub stream_image-tells : (key : List ℕ) (tag : Tag) (one other : List ℕ) → stream_image key tag one ≡ stream_image key tag other → one ≡ other
stream_image-tells key tag one other same = sym (stream_image-twice key tag one) ∙ ap (stream_image key tag) same ∙ stream_image-twice key tag other
