-- Laws of tags: which bytes they have, and that these tell them apart; which bytes a vault's sealed pages have, and which the keystream of a tag.
use Rattle.std.specs.Prelude.{◌≡◌, ℕ, ◌+◌, ◌-◌, ◌*◌, ◌^◌, ◌<◌, true, false, List, ◌++◌, length, take, drop, replicate, slice_index, bit_xor}
use Rattle.byteorder.specs.Endian.{big_bytes}
use Rattle.sha2.specs.Sha256.{sha256}
use Rattle.pef_model.specs.declared.config.Config.{Config}
use Rattle.pef_model.specs.declared.state.Tag.{Tag}
use Rattle.pef_model.specs.Doubleword.{doubleword}
use Rattle.pef_model.specs.Seal.{tag_bytes, keystream, image}

-- each number of a tag is a doubleword
pub record HasDoublewords (tag : Tag) : Type 0 where
  pub lpid : tag.lpid < 2 ^ 64
  pub generation : tag.generation < 2 ^ 64
  pub gfn : tag.gfn < 2 ^ 64
  pub version : tag.version < 2 ^ 64

-- a tag's 32 bytes are its numbers, each the doubleword at its place
pub record ShowsNumbers (tag : Tag) : Type 0 where
  pub length_ : length (tag_bytes tag) ≡ 32
  pub lpid : doubleword (tag_bytes tag) 0 ≡ tag.lpid
  pub generation : doubleword (tag_bytes tag) 8 ≡ tag.generation
  pub gfn : doubleword (tag_bytes tag) 16 ≡ tag.gfn
  pub version : doubleword (tag_bytes tag) 24 ≡ tag.version

abbrev pub TagShowsNumbers : Type 0
TagShowsNumbers = (tag : Tag) → HasDoublewords tag → ShowsNumbers tag

-- tags with the same bytes are one
abbrev pub TagBytesTell : Type 0
TagBytesTell = (one other : Tag) → HasDoublewords one → HasDoublewords other → tag_bytes one ≡ tag_bytes other → one ≡ other

-- and so are those of the same sealed pages of a vault, whatever the pages hold
abbrev pub VaultImagesDiffer : Type 0
VaultImagesDiffer =
    (config : Config) (one other : Tag) (plain other_plain : List ℕ) → config.vault ≡ true → HasDoublewords one → HasDoublewords other →
    image config one plain ≡ image config other other_plain → one ≡ other

-- a vault's sealed page begins with its tag, and has zeros alone behind it
pub record ShowsTagAlone (config : Config) (tag : Tag) (plain : List ℕ) : Type 0 where
  pub begins : take 32 (image config tag plain) ≡ tag_bytes tag
  pub behind : drop 32 (image config tag plain) ≡ replicate (2 ^ config.shift - 32) 0

abbrev pub VaultShowsTagAlone : Type 0
VaultShowsTagAlone = (config : Config) (tag : Tag) (plain : List ℕ) → config.vault ≡ true → ShowsTagAlone config tag plain

-- each byte of a keystream: byte k of the SHA-256 of the key, the tag's bytes and the block's number as a doubleword
abbrev pub KeystreamHasBlocks : Type 0
KeystreamHasBlocks = (key : List ℕ) (tag : Tag) (j k : ℕ) → k < 32 → keystream key tag (32 * j + k) ≡ slice_index (sha256 (key ++ (tag_bytes tag ++ big_bytes 8 j))) k

-- a sealed page of the stream is as long as the page, and each byte of it is the page's with the keystream's by exclusive-or
pub record SealsEachByte (config : Config) (tag : Tag) (plain : List ℕ) : Type 0 where
  pub length_ : length (image config tag plain) ≡ length plain
  pub byte : (i : ℕ) → i < length plain → slice_index (image config tag plain) i ≡ bit_xor (slice_index plain i) (keystream config.key tag i)

abbrev pub StreamSealsEachByte : Type 0
StreamSealsEachByte = (config : Config) (tag : Tag) (plain : List ℕ) → config.vault ≡ false → SealsEachByte config tag plain
