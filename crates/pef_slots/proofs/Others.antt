-- Entries of different keys go into an empty map one by one.
use Rattle.std.proofs.Common.{◌≡◌, ℕ, ◌<◌, ◌==◌, nat_eq, Bool, true, false, cond, List, [], ◌∷◌, ◌++◌, length, filter, Some, None, refl, sym, ap, subst, ◌∙◌, arith, length-append}
use Rattle.std.specs.List.{IsDistinct, AllByRecursion}
use Rattle.std.specs.Map.{keys_of, lookup}
use Rattle.std.proofs.lemmas.Bool.Decides.{nat_tests}
use Rattle.std.proofs.lemmas.List.{append_assoc}
use Rattle.std.proofs.lemmas.List.Sums.{length-filter, count_by-le-length}
use Rattle.std.proofs.lemmas.Map.Keys.{IsDistinct-head, IsDistinct-tail}
use Rattle.std.proofs.lemmas.Map.Made.{IsDistinct-keys_filter}

module _ {X : Type 0} (k : ℕ) (v : X) (more : List (ℕ × X)) where
  -- what holds of each key holds of one
  among : (P : ℕ → Type 0) (es : List (ℕ × X)) → AllByRecursion P (keys_of (es ++ (k, v) ∷ more)) → P k
  among P [] all = all.0
  among P (e ∷ es) all = among P es all.1

  -- a key isn't among the ones before it
  absent : (es : List (ℕ × X)) → IsDistinct nat_eq (keys_of (es ++ (k, v) ∷ more)) → lookup (nat_eq k) es ≡ None
  absent [] distinct = refl
  absent (e ∷ es) distinct =
      let differs : (e.0 == k) ≡ false = among (λ key. (e.0 == key) ≡ false) es (IsDistinct-head nat_eq e.0 (keys_of (es ++ (k, v) ∷ more)) distinct) in
      let other : (k == e.0) ≡ false = grind (arith, nat_tests, differs) in
      ap (λ b. cond b (Some e.1) (lookup (nat_eq k) es)) other ∙ absent es (IsDistinct-tail nat_eq e.0 (keys_of (es ++ (k, v) ∷ more)) distinct)

  -- where a key is the next of those that are left, and passes, it is the next of those that pass
  pub next-passes : (test : ℕ × X → Bool) (from to left : List (ℕ × X)) → left ≡ (k, v) ∷ more → test (k, v) ≡ true → to ++ filter test left ≡ filter test from → to ++ (k, v) ∷ filter test more ≡ filter test from
  next-passes test from to left next passes split =
      let here : filter test ((k, v) ∷ more) ≡ (k, v) ∷ filter test more = ap (λ b. cond b ((k, v) ∷ filter test more) (filter test more)) passes in
      ap (λ rest. to ++ rest) (sym here ∙ ap (filter test) (sym next)) ∙ split

  -- and then it is in
  pub next-in : (test : ℕ × X → Bool) (from to to' : List (ℕ × X)) → to' ≡ to ++ (k, v) ∷ [] → to ++ (k, v) ∷ filter test more ≡ filter test from → to' ++ filter test more ≡ filter test from
  next-in test from to to' put split = ap (λ es. es ++ filter test more) put ∙ append_assoc to ((k, v) ∷ []) (filter test more) ∙ split

module _ {X : Type 0} (k : ℕ) (v : X) (more : List (ℕ × X)) where
  module _ (test : ℕ × X → Bool) (from to : List (ℕ × X)) (split : to ++ (k, v) ∷ more ≡ filter test from) where
    -- the next key of those that pass isn't among the ones that are in
    pub next-absent : IsDistinct nat_eq (keys_of from) → lookup (nat_eq k) to ≡ None
    next-absent distinct = absent k v more to (subst (λ es. IsDistinct nat_eq (keys_of es)) (sym split) (IsDistinct-keys_filter nat_eq test from distinct))

    -- while one is left, fewer are in than there are in all
    pub next-room : length to < length from
    next-room = omega (arith, length-append to ((k, v) ∷ more), ap length split, length-filter test from, count_by-le-length test from)
