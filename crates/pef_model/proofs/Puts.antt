-- A function with another value at one place, and at one of two.
use Rattle.std.proofs.Common.{◌≡◌, ◌≢◌, arith, ℕ, Bool, true, false, refl, ap, sym, ◌∙◌, ◌==◌, if◌then◌else◌, ◌⊎◌, inl, inr}
use Rattle.std.proofs.lemmas.Bool.{cases_eq, ne_eqb}
use Rattle.std.proofs.lemmas.Bool.Decides.{nat_tests}
use Rattle.pef_model.specs.GuestPart.{put}
use Rattle.pef_model.proofs.Folds.{same_test, test_same}

-- numbers that a function takes apart don't pass the test
pub apart_by : (f : ℕ → ℕ) (m n : ℕ) → (f m == f n) ≡ false → (m == n) ≡ false
apart_by f m n apart = by_test (m == n) refl where
  by_test : (b : Bool) → (m == n) ≡ b → (m == n) ≡ false
  by_test false t = t
  by_test true t = let same : (f m == f n) ≡ true = ap (λ (x : ℕ). f m == f x) (sym (test_same m n t)) ∙ same_test (f m) in cc

-- which number stands first makes no difference
pub not_swapped : (m n : ℕ) → (m == n) ≡ true → (n == m) ≡ false → ⊥
not_swapped m n h k = grind (arith, nat_tests)

-- at its place it has the new value
pub put-here : {X : Type 0} (f : ℕ → X) (at : ℕ) (x : X) → put f at x at ≡ x
put-here f at x = ap (λ (b : Bool). if b then x else f at) (same_test at)

-- and at every other the old
pub put-other : {X : Type 0} (f : ℕ → X) (at : ℕ) (x : X) (n : ℕ) → n ≢ at → put f at x n ≡ f n
put-other f at x n other = ap (λ (b : Bool). if b then x else f n) (ne_eqb n at other)

-- the value that is there already changes nothing
pub put-same : {X : Type 0} (f : ℕ → X) (at n : ℕ) → put f at (f at) n ≡ f n
put-same f at n = by_test (n == at) refl where
  by_test : (b : Bool) → (n == at) ≡ b → (if b then f at else f n) ≡ f n
  by_test true t = ap f (sym (test_same n at t))
  by_test false t = refl

-- with another value at one of two places
abbrev pub put_in : {X : Type 0} → (ℕ → ℕ → X) → ℕ → ℕ → X → ℕ → ℕ → X
put_in f l g x = put f l (put (f l) g x)

-- a place that isn't this one
abbrev pub IsElsewhere : ℕ → ℕ → ℕ → ℕ → Type 0
IsElsewhere l g m n = m ≡ l → n ≡ g → ⊥

-- every place is this one or another
pub here_or_elsewhere : (l g m n : ℕ) → ((m ≡ l) × (n ≡ g)) ⊎ IsElsewhere l g m n
here_or_elsewhere l g m n = elim (cases_eq m l) [
  | inl first ↦ elim (cases_eq n g) [
    | inl second ↦ inl (first, second)
    | inr other ↦ inr (λ p q. other q)
  ]
  | inr other ↦ inr (λ p q. other p)
]

-- at this place stands the new value
pub put_in-here : {X : Type 0} (f : ℕ → ℕ → X) (l g : ℕ) (x : X) → put_in f l g x l g ≡ x
put_in-here {X = X} f l g x = ap (λ (h : ℕ → X). h g) (put-here f l (put (f l) g x)) ∙ put-here (f l) g x

-- and at every other the old one
pub put_in-elsewhere : {X : Type 0} (f : ℕ → ℕ → X) (l g : ℕ) (x : X) (m n : ℕ) → IsElsewhere l g m n → put_in f l g x m n ≡ f m n
put_in-elsewhere {X = X} f l g x m n elsewhere = by_first (m == l) refl where
  by_second : m ≡ l → (b : Bool) → (n == g) ≡ b → (if b then x else f l n) ≡ f m n
  by_second first true t = absurd (elsewhere first (test_same n g t))
  by_second first false t = ap (λ (k : ℕ). f k n) (sym first)

  by_first : (b : Bool) → (m == l) ≡ b → (if b then put (f l) g x else f m) n ≡ f m n
  by_first true t = by_second (test_same m l t) (n == g) refl
  by_first false t = refl

-- a function of the values changes at the same place
pub put-ap : {X Y : Type 0} (h : X → Y) (f : ℕ → X) (at : ℕ) (x : X) (n : ℕ) → h (put f at x n) ≡ put (λ k. h (f k)) at (h x) n
put-ap {X = X} {Y = Y} h f at x n = by_test (n == at) where
  by_test : (b : Bool) → h (if b then x else f n) ≡ (if b then h x else h (f n))
  by_test true = refl
  by_test false = refl
