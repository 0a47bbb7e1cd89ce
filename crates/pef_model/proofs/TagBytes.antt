-- The bytes of a tag tell it, and where the bytes of a keystream stand.
use Rattle.std.proofs.Common.{◌≡◌, ℕ, ◌+◌, ◌*◌, ◌/◌, ◌%◌, ◌-◌, ◌^◌, List, [], ◌++◌, append-nil, drop, replicate, Bool, if◌then◌else◌, ap, sym, subst, ◌∙◌, arith, length, take, slice_index}
use Rattle.byteorder.specs.Endian.{big_number, big_bytes}
use Rattle.byteorder.specs.Numbers.{big_number-reads_back}
use Rattle.pef_model.specs.declared.state.Tag.{Tag}
use Rattle.pef_model.specs.Doubleword.{doubleword}
use Rattle.pef_model.specs.Seal.{tag_bytes, vault_image, stream_image, keystream_block, image}
use Rattle.pef_model.specs.TagLaw.{HasDoublewords, TagShowsNumbers, TagBytesTell, VaultImagesDiffer, VaultShowsTagAlone, KeystreamHasBlocks, StreamSealsEachByte}
use Rattle.pef_model.proofs.Filled.{length-tag_bytes, length-stream_image}
use Rattle.pef_model.proofs.Streams.{stream_image-byte}

-- the numbers of a tag stand in its bytes, whatever follows them
record Reads (tag : Tag) (bytes : List ℕ) : Type 0 where
  lpid : big_number 8 bytes ≡ tag.lpid
  generation : big_number 8 (drop 8 bytes) ≡ tag.generation
  gfn : big_number 8 (drop 16 bytes) ≡ tag.gfn
  version : big_number 8 (drop 24 bytes) ≡ tag.version

tag_reads : (tag : Tag) (rest : List ℕ) → HasDoublewords tag → Reads tag (tag_bytes tag ++ rest)
unfolding tag_bytes
tag_reads tag rest has = record {
  lpid = big_number-reads_back 8 tag.lpid (big_bytes 8 tag.generation ++ (big_bytes 8 tag.gfn ++ (big_bytes 8 tag.version ++ rest))) has.lpid;
  generation = big_number-reads_back 8 tag.generation (big_bytes 8 tag.gfn ++ (big_bytes 8 tag.version ++ rest)) has.generation;
  gfn = big_number-reads_back 8 tag.gfn (big_bytes 8 tag.version ++ rest) has.gfn;
  version = big_number-reads_back 8 tag.version rest has.version;
}

-- so each of them is the doubleword at its place
pub tag_shows_numbers : TagShowsNumbers
unfolding doubleword
tag_shows_numbers tag has = record {
  length_ = length-tag_bytes tag;
  lpid = reads.lpid;
  generation = reads.generation;
  gfn = reads.gfn;
  version = reads.version;
} where
  reads : Reads tag (tag_bytes tag)
  reads = subst (Reads tag) (append-nil (tag_bytes tag)) (tag_reads tag [] has)

-- so two tags with the same bytes, and the same after them, are one
same_tag : (one other : Tag) (rest : List ℕ) → HasDoublewords one → HasDoublewords other → (tag_bytes one ++ rest) ≡ (tag_bytes other ++ rest) → one ≡ other
same_tag one other rest has has_too same = (λ i. record {
  lpid = (sym left.lpid ∙ ap (big_number 8) same ∙ right.lpid) i;
  generation = (sym left.generation ∙ ap (λ (bytes : List ℕ). big_number 8 (drop 8 bytes)) same ∙ right.generation) i;
  gfn = (sym left.gfn ∙ ap (λ (bytes : List ℕ). big_number 8 (drop 16 bytes)) same ∙ right.gfn) i;
  version = (sym left.version ∙ ap (λ (bytes : List ℕ). big_number 8 (drop 24 bytes)) same ∙ right.version) i;
}) where
  left : Reads one (tag_bytes one ++ rest)
  left = tag_reads one rest has

  right : Reads other (tag_bytes other ++ rest)
  right = tag_reads other rest has_too

pub tag_bytes_tell : TagBytesTell
tag_bytes_tell one other has has_too same = same_tag one other [] has has_too (ap (λ (bytes : List ℕ). bytes ++ []) same)

-- the sealed page of a vault begins with its tag
pub vault_images_differ : VaultImagesDiffer
vault_images_differ config one other plain other_plain vault has has_too same =
    same_tag one other (replicate (2 ^ config.shift - 32) 0) has has_too (sym (shut one plain) ∙ same ∙ shut other other_plain) where
      shut : (tag : Tag) (page : List ℕ) → image config tag page ≡ vault_image (2 ^ config.shift) tag
      shut tag page = ap (λ (b : Bool). if b then vault_image (2 ^ config.shift) tag else stream_image config.key tag page) vault

-- and there are zeros behind it
pub vault_shows_tag_alone : VaultShowsTagAlone
unfolding tag_bytes
vault_shows_tag_alone config tag plain vault = record {
  begins = ap (take {A = ℕ} 32) shut;
  behind = ap (drop {A = ℕ} 32) shut;
} where
  shut : image config tag plain ≡ vault_image (2 ^ config.shift) tag
  shut = ap (λ (b : Bool). if b then vault_image (2 ^ config.shift) tag else stream_image config.key tag plain) vault

-- the blocks of a keystream have 32 bytes
pub keystream_has_blocks : KeystreamHasBlocks
unfolding keystream_block
keystream_has_blocks key tag j k small =
    let block : (32 * j + k) / 32 ≡ j = omega arith in
    let byte : (32 * j + k) % 32 ≡ k = omega arith in
    ap (λ (n : ℕ). slice_index (keystream_block key tag n) ((32 * j + k) % 32)) block ∙ ap (slice_index (keystream_block key tag j)) byte

-- a sealed page of the stream is the exclusive-or
pub stream_seals_each_byte : StreamSealsEachByte
stream_seals_each_byte config tag plain stream = record {
  length_ = ap (length {A = ℕ}) open_ ∙ length-stream_image config.key tag plain;
  byte = λ i within. ap (λ (page : List ℕ). slice_index page i) open_ ∙ stream_image-byte config.key tag plain i within;
} where
  open_ : image config tag plain ≡ stream_image config.key tag plain
  open_ = ap (λ (b : Bool). if b then vault_image (2 ^ config.shift) tag else stream_image config.key tag plain) stream
