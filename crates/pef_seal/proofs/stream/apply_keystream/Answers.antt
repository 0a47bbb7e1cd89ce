use Rattle.std.proofs.Common.{◌+◌, ◌-◌, ◌*◌, ℕ, List, take, drop, slice_index, bit_xor, arith, ap, ◌∙◌}
use Rattle.pef_seal.proofs.Masks.{masked-more, masked-all}
use Rattle.pef_seal.proofs.stream.apply_keystream.Goals as goal

-- each turn masks the bytes of one block
pub loop-number-preserved : goal.loop-number-preserved
loop-number-preserved c =
    let key = c.args.key.now in
    let tag = c.args.tag in
    let bytes = c.loop-number.bytes in
    let n = c.loop-number.number in
    let block = c.block.ensures key tag c.build-keystream.ensures in
    masked-more key tag c.args.bytes.now bytes c.apply_block.new.bytes n (32 * n + 32 - 32 * n) (omega arith) (omega arith) (omega arith)
    (λ i within. c.apply_block.ensures i within ∙ ap (λ (xs : List ℕ). bit_xor (slice_index (take (32 * n + 32 - 32 * n) (drop (32 * n) bytes)) i) (slice_index xs i)) block)
    c.loop-number.invariant

-- the blocks are all of the page
pub returns : goal.returns
returns c = masked-all c.args.key.now c.args.tag c.args.bytes.now c.loop-number.bytes (32 * c.loop-number.number) (omega arith) (omega arith) c.loop-number.invariant
