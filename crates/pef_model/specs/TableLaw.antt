-- Laws of the rows of a table.
use Rattle.std.specs.Prelude.{◌≡◌, ◌↔◌, ℕ, List, Some, None}
use Rattle.std.specs.List.{Contains}
use Rattle.pef_model.specs.declared.hypercall.Row.{Row}
use Rattle.pef_model.specs.Hypercalls.{IsTable, row_of}

-- a number's row is the one row of the table that has the number
abbrev pub NumbersHaveTheirRows : Type 0
NumbersHaveTheirRows =
    (rows : List Row) (row : Row) (number : ℕ) → IsTable rows → (row_of rows number ≡ Some row) ↔ (Contains rows row × (row.number ≡ number))

-- a number has no row exactly where no row of the table has the number
abbrev pub OtherNumbersHaveNone : Type 0
OtherNumbersHaveNone =
    (rows : List Row) (number : ℕ) → (row_of rows number ≡ None) ↔ ((row : Row) → Contains rows row → ¬ (row.number ≡ number))
