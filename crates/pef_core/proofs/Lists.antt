-- What holds of each element of a list after one is put in or added.
use Rattle.std.proofs.Common.{◌≡◌, ◌≢◌, ℕ, zero, suc, pred, ◌<◌, List, [], ◌∷◌, ◌++◌, length, Some, refl, ap, subst, ◌∙◌, arith}
use Rattle.std.specs.Prelude.{slice_get, slice_set}
use Rattle.pef_core.specs.State.{Each}

some_is : {X : Type 0} (P : X → Type 0) (x y : X) → Some x ≡ Some y → P x → P y
some_is P x y same h = subst P (let is : x ≡ y = cc in is) h

-- one more element at the end
pub each_push : {X : Type 0} (P : ℕ → X → Type 0) (xs : List X) (y : X) → Each P xs → P (length xs) y → Each P (xs ++ y ∷ [])
each_push P [] y h k zero x is = some_is (P 0) y x is k
each_push P [] y h k (suc n) x is = cc
each_push P (a ∷ xs) y h k zero x is = h zero x is
each_push P (a ∷ xs) y h k (suc n) x is = each_push (λ m. P (suc m)) xs y (λ m. h (suc m)) k n x is

-- another element at one place, and what held of the others still does
pub each_set : {X : Type 0} (P Q : ℕ → X → Type 0) (xs : List X) (i : ℕ) (y : X) → Each P xs → Q i y → ((n : ℕ) (x : X) → n ≢ i → P n x → Q n x) → Each Q (slice_set xs i y)
each_set P Q [] i y h k keep n x is = cc
each_set P Q (a ∷ xs) zero y h k keep zero x is = some_is (Q 0) y x is k
each_set P Q (a ∷ xs) zero y h k keep (suc n) x is = keep (suc n) x (λ same. cc) (h (suc n) x is)
each_set P Q (a ∷ xs) (suc i) y h k keep zero x is = keep zero x (λ same. cc) (h zero x is)
each_set P Q (a ∷ xs) (suc i) y h k keep (suc n) x is =
    each_set (λ m. P (suc m)) (λ m. Q (suc m)) xs i y (λ m. h (suc m)) k (λ m z other. keep (suc m) z (λ same. other (ap pred same))) n x is

-- what holds of each element, said weaker
pub each_map : {X : Type 0} (P Q : ℕ → X → Type 0) (xs : List X) → Each P xs → ((n : ℕ) (x : X) → P n x → Q n x) → Each Q xs
each_map P Q xs h k n x is = k n x (h n x is)

-- the first element, and the rest, where the place doesn't count
pub each_first : {X : Type 0} (P : X → Type 0) (xs rest : List X) (x : X) → Each (λ n. P) xs → xs ≡ x ∷ rest → P x
each_first P xs rest x h is = h 0 x (ap (λ ys. slice_get ys 0) is)

pub each_rest : {X : Type 0} (P : X → Type 0) (xs rest : List X) (x : X) → Each (λ n. P) xs → xs ≡ x ∷ rest → Each (λ n. P) rest
each_rest P xs rest x h is n y there = h (suc n) y (ap (λ ys. slice_get ys (suc n)) is ∙ there)

-- the element that was there, put in again
pub set_same : {X : Type 0} (xs : List X) (i : ℕ) (x : X) → slice_get xs i ≡ Some x → slice_set xs i x ≡ xs
set_same [] i x is = cc
set_same (a ∷ xs) zero x is = ap (λ y. y ∷ xs) (let same : x ≡ a = cc in same)
set_same (a ∷ xs) (suc i) x is = ap (λ ys. a ∷ ys) (set_same xs i x is)

-- a place below the length has an element
pub element_at : {X : Type 0} (xs : List X) (n : ℕ) → n < length xs → (x : X) × (slice_get xs n ≡ Some x)
element_at [] n below = absurd (omega arith)
element_at (a ∷ xs) zero below = (a, refl)
element_at (a ∷ xs) (suc n) below = element_at xs n (omega arith)
