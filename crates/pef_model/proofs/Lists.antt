-- What holds of each element of a list.
use Rattle.std.proofs.Common.{List, [], ◌∷◌, ◌++◌, Bool, true, false, cond}
use Rattle.std.specs.List.{filter, AllByRecursion}

-- what holds of each element and gives another fact
pub all_give : {A : Type 0} (P Q : A → Type 0) (xs : List A) → ((x : A) → P x → Q x) → AllByRecursion P xs → AllByRecursion Q xs
all_give P Q [] gives all = tt
all_give P Q (x ∷ xs) gives all = (gives x all.0, all_give P Q xs gives all.1)

-- and two facts
pub both_give : {A : Type 0} (P Q R : A → Type 0) (xs : List A) → ((x : A) → P x → Q x → R x) → AllByRecursion P xs → AllByRecursion Q xs → AllByRecursion R xs
both_give P Q R [] gives all others = tt
both_give P Q R (x ∷ xs) gives all others = (gives x all.0 others.0, both_give P Q R xs gives all.1 others.1)

-- what holds of each element holds of those that a filter keeps
pub all_kept : {A : Type 0} (P : A → Type 0) (p : A → Bool) (xs : List A) → AllByRecursion P xs → AllByRecursion P (filter p xs)
all_kept P p [] all = tt
all_kept {A} P p (x ∷ xs) all = by_test (p x) (all_kept P p xs all.1) where
  by_test : (b : Bool) → AllByRecursion P (filter p xs) → AllByRecursion P (cond b (x ∷ filter p xs) (filter p xs))
  by_test true rest = (all.0, rest)
  by_test false rest = rest

-- what holds of each element of two lists holds of each of both
pub all_append : {A : Type 0} (P : A → Type 0) (xs ys : List A) → AllByRecursion P xs → AllByRecursion P ys → AllByRecursion P (xs ++ ys)
all_append P [] ys h k = k
all_append P (x ∷ xs) ys h k = (h.0, all_append P xs ys h.1 k)
