-- What lies in the places of a list after one was set.
use Rattle.std.proofs.Common.{◌≡◌, ◌≢◌, ℕ, zero, suc, ◌<◌, List, [], ◌∷◌, length, slice_get, slice_set, Some, arith, refl, ap}

-- what was set lies in its place
pub slice_get-here : {A : Type 0} (xs : List A) (i : ℕ) (x : A) → i < length xs → slice_get (slice_set xs i x) i ≡ Some x
slice_get-here [] i x within = absurd (omega arith)
slice_get-here (y ∷ ys) zero x within = refl
slice_get-here (y ∷ ys) (suc i) x within = slice_get-here ys i x (omega arith)

-- every other place holds what it held
pub slice_get-elsewhere : {A : Type 0} (xs : List A) (i j : ℕ) (x : A) → j ≢ i → slice_get (slice_set xs i x) j ≡ slice_get xs j
slice_get-elsewhere [] i j x other = refl
slice_get-elsewhere (y ∷ ys) zero zero x other = absurd (other refl)
slice_get-elsewhere (y ∷ ys) zero (suc j) x other = refl
slice_get-elsewhere (y ∷ ys) (suc i) zero x other = refl
slice_get-elsewhere (y ∷ ys) (suc i) (suc j) x other = slice_get-elsewhere ys i j x (λ e. other (ap suc e))

pub ruleset kept = (slice_get-here, slice_get-elsewhere)
