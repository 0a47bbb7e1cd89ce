-- The message of a block: the key and the tag, and then the number of the block.
use Rattle.std.proofs.Common.{◌≡◌, ℕ, List, ◌++◌, ap, append_assoc}
use Rattle.byteorder.specs.Endian.{big_bytes}
use Rattle.sha2.specs.Sha256.{sha256}
use Rattle.pef_model.specs.Seal.{keystream_block, tag_bytes}
use Rattle.pef_model.specs.declared.state.Tag.{Tag}

-- block n of the keystream is the digest of its message
pub digest_of_message : (key : List ℕ) (tag : Tag) (n : ℕ) → sha256 (key ++ tag_bytes tag ++ big_bytes 8 n) ≡ keystream_block key tag n
unfolding keystream_block
digest_of_message key tag n = ap sha256 (append_assoc key (tag_bytes tag) (big_bytes 8 n))
