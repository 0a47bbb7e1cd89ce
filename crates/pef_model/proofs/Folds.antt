-- What a filter keeps, and a fold over the entries that touch an object.
use Rattle.std.proofs.Common.{◌≡◌, ℕ, List, [], ◌∷◌, Bool, true, false, refl, ap, sym, ◌∙◌, ◌==◌, if◌then◌else◌, arith}
use Rattle.std.proofs.lemmas.Bool.Decides.{nat_tests}
use Rattle.std.specs.List.{filter}
use Rattle.pef_model.specs.Event.{Event, value_after}

pub same_test : (n : ℕ) → (n == n) ≡ true
same_test n = grind (arith, nat_tests)

pub test_same : (m n : ℕ) → (m == n) ≡ true → m ≡ n
test_same m n h = grind (arith, nat_tests)

-- a test between a value and itself makes no difference
pub either_same : {A : Type 0} (b : Bool) (x : A) → (if b then x else x) ≡ x
either_same true x = refl
either_same false x = refl

pub keeps : {A : Type 0} (p : A → Bool) (x : A) (xs : List A) → p x ≡ true → filter p (x ∷ xs) ≡ x ∷ filter p xs
keeps p x xs h = rw h refl

pub leaves : {A : Type 0} (p : A → Bool) (x : A) (xs : List A) → p x ≡ false → filter p (x ∷ xs) ≡ filter p xs
leaves p x xs h = rw h refl

pub counts : {S : Type 0} (touches : Event → Bool) (next : S → Event → S) (start : S) (x : Event) (xs : List Event) → touches x ≡ true →
    value_after touches next start (x ∷ xs) ≡ next (value_after touches next start xs) x
counts touches next start x xs t = rw t refl

pub skips : {S : Type 0} (touches : Event → Bool) (next : S → Event → S) (start : S) (x : Event) (xs : List Event) → touches x ≡ false →
    value_after touches next start (x ∷ xs) ≡ value_after touches next start xs
skips touches next start x xs t = rw t refl

-- an object's value after a history is that after the entries that touch it
pub value_after-filter : {S : Type 0} (touches : Event → Bool) (next : S → Event → S) (start : S) (xs : List Event) →
    value_after touches next start (filter touches xs) ≡ value_after touches next start xs
value_after-filter touches next start [] = refl
value_after-filter {S = S} touches next start (x ∷ xs) = by_test (value_after-filter touches next start xs) (touches x) refl where
  by_test : value_after touches next start (filter touches xs) ≡ value_after touches next start xs → (b : Bool) → touches x ≡ b →
      value_after touches next start (filter touches (x ∷ xs)) ≡ value_after touches next start (x ∷ xs)
  by_test ih true t =
      ap (value_after touches next start) (keeps touches x xs t) ∙ counts touches next start x (filter touches xs) t
      ∙ ap (λ (s : S). next s x) ih ∙ sym (counts touches next start x xs t)
  by_test ih false t = ap (value_after touches next start) (leaves touches x xs t) ∙ ih ∙ sym (skips touches next start x xs t)
