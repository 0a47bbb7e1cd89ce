-- The form of a value in a text.
use Rattle.std.specs.Prelude.{ℕ, List, ◌++◌, codes, false}
use Rattle.std.specs.Borrow.{Bor}
use Rattle.std.specs.List.{flat_map}
use Rattle.std.specs.Fmt.{digits}

-- `0x` and the hexadecimal digits in lower case, with no leading zeros
abbrev pub value_text : ℕ → List ℕ
value_text value = codes "0x" ++ digits 16 false value

-- pieces of a text, one after another
abbrev pub joined : List (Bor (List ℕ)) → List ℕ
joined pieces = flat_map (λ piece. piece.now) pieces
