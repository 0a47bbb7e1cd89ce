-- Sealed pages: what a page looks like in normal memory.
use Rattle.std.specs.Prelude.{ℕ, ◌/◌, ◌%◌, ◌-◌, ◌^◌, if◌then◌else◌, List, [], ◌∷◌, ◌++◌, length, map, replicate, slice_index, bit_xor}
use Rattle.std.specs.List.{flat_map, range_with_len}
use Rattle.byteorder.specs.Endian.{big_bytes}
use Rattle.sha2.specs.Sha256.{sha256}
use Rattle.pef_model.specs.declared.config.Config.{Config}
use Rattle.pef_model.specs.declared.state.Tag.{Tag}

-- numbers as big-endian doublewords
abbrev pub doublewords : List ℕ → List ℕ
doublewords values = flat_map (big_bytes 8) values

-- a tag as its four doublewords
unfoldable pub tag_bytes : Tag → List ℕ
tag_bytes tag = doublewords (tag.lpid ∷ tag.generation ∷ tag.gfn ∷ tag.version ∷ [])

-- block j of the keystream of a key and tag: the SHA-256 of the key, the tag and j
unfoldable pub keystream_block : List ℕ → Tag → ℕ → List ℕ
keystream_block key tag j = sha256 (key ++ (tag_bytes tag ++ big_bytes 8 j))

-- byte i of the keystream: its blocks have 32 bytes
abbrev pub keystream : List ℕ → Tag → ℕ → ℕ
keystream key tag i = slice_index (keystream_block key tag (i / 32)) (i % 32)

-- the stream seal: each byte's exclusive-or with the byte of the keystream at its place
abbrev pub stream_image : List ℕ → Tag → List ℕ → List ℕ
stream_image key tag plain = map (λ i. bit_xor (slice_index plain i) (keystream key tag i)) (range_with_len 0 (length plain))

-- the vault seal: the tag and then zeros, whatever the page holds
abbrev pub vault_image : ℕ → Tag → List ℕ
vault_image size tag = tag_bytes tag ++ replicate (size - 32) 0

-- the sealed page of a plain one, by the configuration's seal
abbrev pub image : Config → Tag → List ℕ → List ℕ
image config tag plain = if config.vault then vault_image (2 ^ config.shift) tag else stream_image config.key tag plain
