-- Doublewords in lists of bytes, the highest byte first.
use Rattle.std.specs.Prelude.{ℕ, List, ◌++◌, take, drop}
use Rattle.byteorder.specs.Endian.{big_number, big_bytes}

-- the number in the eight bytes from an offset
unfoldable pub doubleword : List ℕ → ℕ → ℕ
doubleword bytes offset = big_number 8 (drop offset bytes)

-- the bytes with a doubleword at an offset
unfoldable pub with_doubleword : List ℕ → ℕ → ℕ → List ℕ
with_doubleword bytes offset value = take offset bytes ++ (big_bytes 8 value ++ drop 8 (drop offset bytes))
