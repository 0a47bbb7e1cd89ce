-- How far some rows are a table.
use Rattle.std.proofs.Common.{◌≡◌, ℕ, ◌+◌, ◌-◌, ◌<◌, ◌≤◌, List, [], ◌∷◌, length, map, get_or, refl, sym, arith, zero, suc, add-one, Bool, true, subst}
use Rattle.std.specs.Prelude.{nat_le, ◌==◌, ◌&&◌}
use Rattle.std.specs.List.{Contains}
use Rattle.std.proofs.lemmas.List.{get_or-map, length-map}
use Rattle.std.proofs.lemmas.Bool.Decides.{nat_tests}
use Rattle.std.proofs.lemmas.Grind.{common_steps}
use Rattle.pef_model.specs.declared.hypercall.Row.{Row}
use Rattle.pef_model.specs.declared.hypercall.RowKind.TheVariants.{Local}
use Rattle.pef_model.specs.Hypercalls.{IsRow, IsTable}

-- the first n rows are rows of a table, in order
pub record IsTableTo (rows : List Row) (n : ℕ) : Type 0 where
  pub each : (k : ℕ) (d : Row) → k < n → IsRow (get_or rows k d)
  pub rises : (k : ℕ) (d : Row) → k + 1 < n → (get_or rows k d).number < (get_or rows (k + 1) d).number

-- no rows are a table so far
IsTableTo-none : (rows : List Row) → IsTableTo rows 0
IsTableTo-none rows = record { each = λ k d h. absurd (omega (arith, h)); rises = λ k d h. absurd (omega (arith, h)) }

-- a row to read where there is none
a_row : Row
a_row = record { number = 0; first = 4; inputs = 0; outputs = 0; kind = Local }

-- a number in the list of the numbers
pub number_at : (rows : List Row) (k : ℕ) (d : Row) → k < length rows → get_or (map (λ (row : Row). row.number) rows) k 0 ≡ (get_or rows k d).number
number_at rows k d h = get_or-map (λ (row : Row). row.number) rows k d 0 h

-- rows that are a table to their end are one
pub IsTable-whole : (rows : List Row) (n : ℕ) → length rows ≡ n → IsTableTo rows n → IsTable rows
IsTable-whole rows n len to = record {
  rises = λ k h.
      let next : k + 1 < length rows = subst (λ l. k + 1 < l) (length-map rows (λ (row : Row). row.number)) h in
      let now : k < length rows = omega (arith, next) in
      let more : k + 1 < n = omega (arith, next, len) in
      grind (arith, number_at rows k a_row now, number_at rows (k + 1) a_row next, to.rises k a_row more);
  each = λ k d h. to.each k d (omega (arith, len, h));
}

-- each number is below the next
IsTable-rises : (rows : List Row) → IsTable rows → (k : ℕ) (d : Row) → k + 1 < length rows → (get_or rows k d).number < (get_or rows (k + 1) d).number
IsTable-rises rows table k d h =
    let next : k + 1 < length (map (λ (row : Row). row.number) rows) = subst (λ l. k + 1 < l) (sym (length-map rows (λ (row : Row). row.number))) h in
    let now : k < length rows = omega (arith, h) in
    grind (arith, number_at rows k d now, number_at rows (k + 1) d h, table.rises k next)

-- each row of a table is a whole one
pub IsRow-within : (rows : List Row) (row : Row) → IsTable rows → Contains rows row → IsRow row
IsRow-within rows row table within = subst IsRow within.2 (table.each within.0 row within.1)

-- the same, of the successor
IsTable-rises-suc : (rows : List Row) → IsTable rows → (k : ℕ) (d : Row) → suc k < length rows → (get_or rows k d).number < (get_or rows (suc k) d).number
IsTable-rises-suc rows table k d h =
    let rises : (get_or rows k d).number < (get_or rows (k + 1) d).number = IsTable-rises rows table k d (omega (arith, h)) in
    rw add-one at rises

-- no table has a number that isn't above the one before it
pub IsTable-falls : (rows : List Row) → IsTable rows → (i : ℕ) (d : Row) → 0 < i → i < length rows → (get_or rows i d).number ≤ (get_or rows (i - 1) d).number → ⊥
IsTable-falls rows table zero d some within falls = omega (arith, some)
IsTable-falls rows table (suc k) d some within falls =
    let before : suc k - 1 ≡ k = omega arith in
    let same : (get_or rows (suc k) d).number ≤ (get_or rows k d).number = rw before at falls in
    omega (arith, same, IsTable-rises-suc rows table k d within)

-- one row before a table whose numbers are all above its own
IsTable-cons : (row : Row) (rows : List Row) → IsRow row → ((d : Row) → 0 < length rows → row.number < (get_or rows 0 d).number) → IsTable rows → IsTable (row ∷ rows)
IsTable-cons row rows whole above table = IsTable-whole (row ∷ rows) (length (row ∷ rows)) refl (record { each = each_of; rises = rises_of }) where
  each_of : (k : ℕ) (d : Row) → k < length (row ∷ rows) → IsRow (get_or (row ∷ rows) k d)
  each_of zero d h = whole
  each_of (suc k) d h = table.each k d (omega (arith, h))

  rises_of : (k : ℕ) (d : Row) → k + 1 < length (row ∷ rows) → (get_or (row ∷ rows) k d).number < (get_or (row ∷ rows) (k + 1) d).number
  rises_of zero d h = above d (omega (arith, h))
  rises_of (suc k) d h = rw add-one (IsTable-rises-suc rows table k d (omega (arith, h)))

-- a test of whole rows
abbrev pub is_whole : Row → Bool
is_whole row = (row.first == 4) && (nat_le row.inputs 9 && nat_le row.outputs 9)

-- a row that passes is whole
IsRow-from_test : (row : Row) → is_whole row ≡ true → IsRow row
IsRow-from_test row is = record { first = grind (arith, nat_tests, is); inputs = grind (arith, nat_tests, is); outputs = grind (arith, nat_tests, is) }

-- a test of tables: each row is whole, and each number is at least the least that is left
abbrev pub is_table_from : ℕ → List Row → Bool
is_table_from least [] = true
is_table_from least (row ∷ rows) = (nat_le least row.number && is_whole row) && is_table_from (suc row.number) rows

-- of rows that pass the first number is at least the least
above_test : (least : ℕ) (rows : List Row) → is_table_from least rows ≡ true → (d : Row) → 0 < length rows → least ≤ (get_or rows 0 d).number
above_test least [] is d h = absurd (omega (arith, h))
above_test least (row ∷ rows) is d h = grind (arith, nat_tests, is)

-- rows that pass are a table
pub IsTable-from_test : (least : ℕ) (rows : List Row) → is_table_from least rows ≡ true → IsTable rows
IsTable-from_test least [] is = IsTable-whole [] 0 refl (IsTableTo-none [])
IsTable-from_test least (row ∷ rows) is =
    let whole : is_whole row ≡ true = grind (arith, common_steps, is) in
    let more : is_table_from (suc row.number) rows ≡ true = grind (arith, common_steps, is) in
    IsTable-cons row rows (IsRow-from_test row whole) (above_test (suc row.number) rows more) (IsTable-from_test (suc row.number) rows more)
