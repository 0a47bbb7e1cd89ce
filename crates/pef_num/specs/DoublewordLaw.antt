-- Laws of a doubleword that is put into bytes.
use Rattle.std.specs.Prelude.{◌≡◌, ℕ, ◌+◌, ◌-◌, ◌/◌, ◌%◌, ◌^◌, ◌<◌, ◌≤◌, ◌⊎◌, List, length, slice_index}
use Rattle.pef_model.specs.Doubleword.{doubleword, with_doubleword}

-- the doubleword that is read is the one that was put
abbrev pub PutIsRead : Type 0
PutIsRead = (bytes : List ℕ) (offset value : ℕ) → offset + 8 ≤ length bytes → value < 2 ^ 64 → doubleword (with_doubleword bytes offset value) offset ≡ value

-- a doubleword that lies before, or past, the one that is put stays
abbrev pub PutLeavesDoublewords : Type 0
PutLeavesDoublewords =
    (bytes : List ℕ) (offset other value : ℕ) → offset + 8 ≤ length bytes → (other + 8 ≤ offset) ⊎ (offset + 8 ≤ other) →
    doubleword (with_doubleword bytes offset value) other ≡ doubleword bytes other

-- a byte that lies before, or past, the doubleword that is put stays
abbrev pub PutLeavesBytes : Type 0
PutLeavesBytes =
    (bytes : List ℕ) (offset i value : ℕ) → offset + 8 ≤ length bytes → (i < offset) ⊎ (offset + 8 ≤ i) →
    slice_index (with_doubleword bytes offset value) i ≡ slice_index bytes i

-- the bytes that are put are those of the value, the highest first
abbrev pub PutsHighestFirst : Type 0
PutsHighestFirst =
    (bytes : List ℕ) (offset i value : ℕ) → offset + 8 ≤ length bytes → i < 8 →
    slice_index (with_doubleword bytes offset value) (offset + i) ≡ value / 256 ^ (7 - i) % 256

-- there are as many bytes as before
abbrev pub PutLeavesLength : Type 0
PutLeavesLength = (bytes : List ℕ) (offset value : ℕ) → offset + 8 ≤ length bytes → length (with_doubleword bytes offset value) ≡ length bytes

-- each number of a list is that of a byte
abbrev pub AreBytes : List ℕ → Type 0
AreBytes bytes = (i : ℕ) → slice_index bytes i < 256

-- bytes with a doubleword among them are bytes
abbrev pub PutGivesBytes : Type 0
PutGivesBytes = (bytes : List ℕ) (offset value : ℕ) → offset + 8 ≤ length bytes → AreBytes bytes → AreBytes (with_doubleword bytes offset value)

-- the doubleword in bytes has 64 bits
abbrev pub DoublewordFits : Type 0
DoublewordFits = (bytes : List ℕ) (offset : ℕ) → AreBytes bytes → doubleword bytes offset < 2 ^ 64
