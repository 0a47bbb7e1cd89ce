use Rattle.std.proofs.Common.{◌≡◌, ◌<◌, ◌≤◌, ℕ, slice_index, bit_xor}
use Rattle.pef_seal.proofs.stream.apply_block.Given as goal

abbrev pub invariant-loop-i : goal.invariant-loop-i
invariant-loop-i l = record {
  before : (k : ℕ) → k < l.i → slice_index l.bytes k ≡ bit_xor (slice_index l.initial.bytes k) (slice_index l.block k);
  after : (k : ℕ) → l.i ≤ k → slice_index l.bytes k ≡ slice_index l.initial.bytes k;
}
