-- The exclusive-or with a keystream, its mask, block by block.
use Rattle.std.proofs.Common.{◌≡◌, ℕ, ◌+◌, ◌-◌, ◌*◌, ◌/◌, ◌%◌, ◌<◌, ◌≤◌, List, ◌++◌, length, take, drop, slice_index, bit_xor, arith, ap, ◌∙◌, length-take, inl, inr}
use Rattle.std.proofs.lemmas.List.FromFn.{fill_by_all}
use Rattle.std.proofs.lemmas.Bool.{cases_lt}
use Rattle.std.proofs.lemmas.List.{get_or_append_left, get_or-append_right, get_or-take, get_or-drop}
use borrow.Rule.Slice.PartMut.{put_mid}
use Rattle.pef_model.specs.Seal.{keystream, keystream_block, stream_image}
use Rattle.pef_model.specs.declared.state.Tag.{Tag}
use Rattle.pef_model.proofs.Streams.{stream_image-twice}

-- byte i of block n of the keystream
keystream-late : (key : List ℕ) (tag : Tag) (n i : ℕ) → 32 * n ≤ i → i < 32 * n + 32 → slice_index (keystream_block key tag n) (i - 32 * n) ≡ keystream key tag i
keystream-late key tag n i late below =
    let block : n ≡ i / 32 = omega arith in
    let place : i - 32 * n ≡ i % 32 = omega arith in
    ap (λ (k : ℕ). slice_index (keystream_block key tag n) k) place ∙ ap (λ (m : ℕ). slice_index (keystream_block key tag m) (i % 32)) block

-- the bytes before a place are masked, and the others are as they were
pub record IsMasked (key : List ℕ) (tag : Tag) (bytes out : List ℕ) (end : ℕ) : Type 0 where
  pub before : (i : ℕ) → i < end → slice_index out i ≡ bit_xor (slice_index bytes i) (keystream key tag i)
  pub after : (i : ℕ) → end ≤ i → slice_index out i ≡ slice_index bytes i

-- one more block is masked
pub masked-more : (key : List ℕ) (tag : Tag) (bytes out written : List ℕ) (n size : ℕ) → 32 * n + 32 ≤ length out → size ≡ 32 → length written ≡ 32 →
    ((i : ℕ) → i < 32 → slice_index written i ≡ bit_xor (slice_index (take size (drop (32 * n) out)) i) (slice_index (keystream_block key tag n) i)) →
    IsMasked key tag bytes out (32 * n) → IsMasked key tag bytes (put_mid (32 * n) size out written) (32 * (n + 1))
masked-more key tag bytes out written n size room whole long masked so_far =
    let front : length (take (32 * n) out) ≡ 32 * n = omega (arith, length-take (32 * n) out) in
    let rest = drop size (drop (32 * n) out) in
    record {
      before = λ i below. elim (cases_lt i (32 * n)) [
        | inl early ↦
            get_or_append_left (take (32 * n) out) (written ++ rest) 0 i (omega arith) ∙ get_or-take (32 * n) out i 0 early ∙ so_far.before i early
        | inr late ↦
            let k = i - 32 * n in
            let inside : k < 32 = omega arith in
            get_or-append_right (take (32 * n) out) (written ++ rest) (32 * n) i 0 front late
            ∙ get_or_append_left written rest 0 k (omega arith)
            ∙ masked k inside
            ∙ ap (λ (b : ℕ). bit_xor b (slice_index (keystream_block key tag n) k))
            (get_or-take size (drop (32 * n) out) k 0 (omega arith) ∙ get_or-drop (32 * n) out k 0 ∙ so_far.after (32 * n + k) (omega arith) ∙ ap (slice_index bytes) (omega arith))
            ∙ ap (bit_xor (slice_index bytes i)) (keystream-late key tag n i late (omega arith))
      ];
      after = λ i late.
          get_or-append_right (take (32 * n) out) (written ++ rest) (32 * n) i 0 front (omega arith)
          ∙ get_or-append_right written rest 32 (i - 32 * n) 0 long (omega arith)
          ∙ get_or-drop size (drop (32 * n) out) (i - 32 * n - 32) 0
          ∙ get_or-drop (32 * n) out (size + (i - 32 * n - 32)) 0
          ∙ ap (slice_index out) (omega arith)
          ∙ so_far.after i (omega arith);
    }

-- masked to its end it is the sealed page
pub masked-all : (key : List ℕ) (tag : Tag) (bytes out : List ℕ) (end : ℕ) → length out ≡ length bytes → length bytes ≤ end → IsMasked key tag bytes out end → out ≡ stream_image key tag bytes
masked-all key tag bytes out end long whole masked =
    fill_by_all (λ (i : ℕ). bit_xor (slice_index bytes i) (keystream key tag i)) out (length bytes) 0 long (λ i below. masked.before i (omega arith))

pub ruleset twice = stream_image-twice
