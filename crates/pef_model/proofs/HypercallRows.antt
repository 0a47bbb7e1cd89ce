-- Which row of a table a number has.
use Rattle.std.proofs.Common.{◌≡◌, ℕ, ◌<◌, List, [], ◌∷◌, length, map, get_or, refl, sym, ap, ◌∙◌, arith, Bool, true, false, inl, inr, suc, zero, subst}
use Rattle.std.specs.Prelude.{◌==◌, Option, Some, None, IfSome, ◌⊎◌}
use Rattle.std.specs.List.{Contains}
use Rattle.std.proofs.lemmas.Bool.{cases_order}
use Rattle.std.proofs.lemmas.Bool.Decides.{nat_tests}
use Rattle.std.proofs.lemmas.List.{get_or_default, length-map}
use Rattle.std.proofs.lemmas.List.Kept.{AllPairs-from_increasing}
use Rattle.pef_model.specs.declared.hypercall.Row.{Row}
use Rattle.pef_model.specs.Hypercalls.{IsRow, IsTable, row_of}
use Rattle.pef_model.specs.TableLaw.{NumbersHaveTheirRows, OtherNumbersHaveNone}
use Rattle.pef_model.specs.declared.hypercall.TheConstants.{HCALLS}
use Rattle.pef_model.proofs.HypercallTables.{IsRow-within, IsTable-from_test, number_at}

-- what stands behind the first row stands in all
Contains-behind : (x : Row) (rows : List Row) (row : Row) → Contains rows row → Contains (x ∷ rows) row
Contains-behind x rows row within = (suc within.0, omega (arith, within.1), within.2)

-- what is found is a row of the table, and has the number
pub row_of-found : (rows : List Row) (number : ℕ) (row : Row) → row_of rows number ≡ Some row → Contains rows row × (row.number ≡ number)
row_of-found [] number row is = cc
row_of-found (x ∷ rows) number row is = by_test (row_of-found rows number row) (x.number == number) refl where
  by_test : (row_of rows number ≡ Some row → Contains rows row × (row.number ≡ number)) → (b : Bool) → (x.number == number) ≡ b →
      Contains (x ∷ rows) row × (row.number ≡ number)
  by_test again true same =
      let here : x ≡ row = let e : Some x ≡ Some row = rw same at is in cc in
      let numbered : x.number ≡ number = grind (arith, nat_tests, same) in
      ((0, omega arith, here), sym (ap (λ (r : Row). r.number) here) ∙ numbered)
  by_test again false other =
      let rest : Contains rows row × (row.number ≡ number) = again (rw other at is) in
      (Contains-behind x rows row rest.0, rest.1)

-- where nothing is found no row has the number
row_of-none : (rows : List Row) (number : ℕ) → row_of rows number ≡ None → (row : Row) → Contains rows row → ¬ (row.number ≡ number)
row_of-none [] number is row within = absurd (omega (arith, within.1))
row_of-none (x ∷ rows) number is row within = by_test (row_of-none rows number) (x.number == number) refl within where
  by_test : (row_of rows number ≡ None → (row : Row) → Contains rows row → ¬ (row.number ≡ number)) → (b : Bool) → (x.number == number) ≡ b →
      Contains (x ∷ rows) row → ¬ (row.number ≡ number)
  by_test again true same place = absurd (let e : Some x ≡ None = rw same at is in cc)
  by_test again false other (zero, below, here) =
      let apart : ¬ (x.number ≡ number) = grind (arith, nat_tests, other) in
      λ same. apart (ap (λ (r : Row). r.number) here ∙ same)
  by_test again false other (suc k, below, here) = again (rw other at is) row (k, omega (arith, below), here)

-- what is found is whole
pub row_whole : (rows : List Row) (number : ℕ) (o : Option Row) → IsTable rows → o ≡ row_of rows number → IfSome o IsRow
row_whole rows number None table is = tt
row_whole rows number (Some row) table is = IsRow-within rows row table (row_of-found rows number row (sym is)).0

-- the row of a hypercall's number is whole
pub row_is_whole : (n : ℕ) (row : Row) → row_of HCALLS n ≡ Some row → IsRow row
row_is_whole n row is = row_whole HCALLS n (Some row) (IsTable-from_test 0 HCALLS refl) (sym is)

-- two rows of a table that have one number are one
same_row : (rows : List Row) (row other : Row) → IsTable rows → Contains rows row → Contains rows other → row.number ≡ other.number → row ≡ other
same_row rows row other table within there same = by_order (cases_order within.0 there.0) where
  numbers : List ℕ
  numbers = map (λ (r : Row). r.number) rows

  later : (i j : ℕ) (d e : Row) → i < j → j < length rows → (get_or rows i d).number < (get_or rows j e).number
  later i j d e before below =
      let long : j < length numbers = subst (λ l. j < l) (sym (length-map rows (λ (r : Row). r.number))) below in
      let lower : i < length rows = omega (arith, before, below) in
      grind (arith, number_at rows i d lower, number_at rows j e below, AllPairs-from_increasing numbers table.rises i j 0 before long)

  number_of : {x y : Row} → x ≡ y → x.number ≡ y.number
  number_of e = ap (λ (r : Row). r.number) e

  by_order : (within.0 ≡ there.0) ⊎ ((within.0 < there.0) ⊎ (there.0 < within.0)) → row ≡ other
  by_order (inl one) = sym within.2 ∙ get_or_default rows within.0 row other within.1 ∙ ap (λ i. get_or rows i other) one ∙ there.2
  by_order (inr (inl before)) = absurd (omega (arith, later within.0 there.0 row other before there.1, number_of within.2, number_of there.2, same))
  by_order (inr (inr behind)) = absurd (omega (arith, later there.0 within.0 other row behind within.1, number_of within.2, number_of there.2, same))

pub numbers_have_their_rows : NumbersHaveTheirRows
numbers_have_their_rows rows row number table = (row_of-found rows number row, λ there. by_option there (row_of rows number) refl) where
  by_option : Contains rows row × (row.number ≡ number) → (o : Option Row) → row_of rows number ≡ o → row_of rows number ≡ Some row
  by_option there None is = absurd (row_of-none rows number is row there.0 there.1)
  by_option there (Some other) is =
      let found : Contains rows other × (other.number ≡ number) = row_of-found rows number other is in
      is ∙ ap Some (same_row rows other row table found.0 there.0 (found.1 ∙ sym there.1))

pub other_numbers_have_none : OtherNumbersHaveNone
other_numbers_have_none rows number = (row_of-none rows number, λ none. by_option none (row_of rows number) refl) where
  by_option : ((row : Row) → Contains rows row → ¬ (row.number ≡ number)) → (o : Option Row) → row_of rows number ≡ o → row_of rows number ≡ None
  by_option none None is = is
  by_option none (Some row) is = let found : Contains rows row × (row.number ≡ number) = row_of-found rows number row is in absurd (none row found.0 found.1)
