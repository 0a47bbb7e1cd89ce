-- The row that a name finds in the code's table is the command that it finds in the definitions.
use Rattle.std.proofs.Common.{◌≡◌, ℕ, Bool, true, false, cond, List, [], ◌∷◌, map, refl, ap, sym, ◌∙◌, Option, option_map, Bor}
use Rattle.std.specs.Prelude.{Some, None}
use Rattle.std.specs.List.{find}
use Rattle.std.specs.Str.{bytes_eq}
use Rattle.pef_script.specs.declared.table.Row.{Row}
use Rattle.pef_script.specs.Table.{Shape, shape, shape_in, words, word_named}

found : {A B : Type 0} (f : A → B) (b : Bool) (x : A) (o : Option A) (u : Option B) → option_map f o ≡ u → option_map f (cond b (Some x) o) ≡ cond b (Some (f x)) u
found f true x o u e = refl
found f false x o u e = e

-- what is found by what is seen of it, is seen as what is found among what is seen
pub find-map : {A B : Type 0} (f : A → B) (p : B → Bool) (xs : List A) → option_map f (find (λ x. p (f x)) xs) ≡ find p (map f xs)
find-map f p [] = refl
find-map f p (x ∷ xs) = found f (p (f x)) x (find (λ x. p (f x)) xs) (find p (map f xs)) (find-map f p xs)

-- in any table that has the same commands
pub row_found : (rows : List Row) (name : List ℕ) (row : Option (Bor Row)) → map shape_in rows ≡ map shape words → option_map (λ (r : Bor Row). r.now) row ≡ find (λ (r : Row). bytes_eq r.name.now name) rows →
    option_map (λ (r : Bor Row). shape_in r.now) row ≡ option_map shape (word_named name)
unfolding word_named
row_found rows name row same e =
    twice row ∙ ap (option_map shape_in) e ∙ find-map shape_in (λ (s : Shape). bytes_eq s.name name) rows
    ∙ ap (find (λ (s : Shape). bytes_eq s.name name)) same ∙ sym (find-map shape (λ (s : Shape). bytes_eq s.name name) words)
  where
    twice : (row : Option (Bor Row)) → option_map (λ (r : Bor Row). shape_in r.now) row ≡ option_map shape_in (option_map (λ (r : Bor Row). r.now) row)
    twice None = refl
    twice (Some r) = refl
