-- Lists of numbers, and how often a number is there.
use Rattle.std.proofs.Common.{◌≡◌, ℕ, ◌+◌, ◌<◌, ◌≤◌, List, [], ◌∷◌, ◌++◌, Bool, true, false, cond, refl, ap, sym, ◌∙◌, ◌==◌, arith}
use Rattle.std.specs.List.{count_by, filter}
use Rattle.std.proofs.lemmas.List.Sums.{sum_by-append, sum_by-cons}
use Rattle.pef_model.proofs.Folds.{same_test, test_same, keeps, leaves}

-- how often a number is in a list
abbrev pub times : ℕ → List ℕ → ℕ
times n xs = count_by (λ m. m == n) xs

-- the first number counts where it is this one
times-cons : (n x : ℕ) (xs : List ℕ) → times n (x ∷ xs) ≡ cond (x == n) 1 0 + times n xs
times-cons n x xs = sum_by-cons (λ (m : ℕ). cond (m == n) 1 0) x xs

-- which adds one
times-here : (n : ℕ) (xs : List ℕ) → times n (n ∷ xs) ≡ 1 + times n xs
times-here n xs = times-cons n n xs ∙ ap (λ (b : Bool). cond b 1 0 + times n xs) (same_test n)

-- and adds none where it is another
times-other : (n x : ℕ) (xs : List ℕ) → (x == n) ≡ false → times n (x ∷ xs) ≡ times n xs
times-other n x xs other = times-cons n x xs ∙ ap (λ (b : Bool). cond b 1 0 + times n xs) other ∙ omega arith

-- what comes in front takes none away
times-more : (n x : ℕ) (xs : List ℕ) → times n xs ≤ times n (x ∷ xs)
times-more n x xs = let e = times-cons n x xs in omega arith

-- the last number counts likewise
pub times-append : (n x : ℕ) (xs : List ℕ) → times n (xs ++ x ∷ []) ≡ times n xs + (0 + cond (x == n) 1 0)
times-append n x xs = sum_by-append (λ (m : ℕ). cond (m == n) 1 0) xs (x ∷ [])

-- a filter leaves a number as often as it is there, where it passes it
pub times_passed : (p : ℕ → Bool) (n : ℕ) (xs : List ℕ) → p n ≡ true → times n (filter p xs) ≡ times n xs
times_passed p n [] h = refl
times_passed p n (x ∷ xs) h = by_test (times_passed p n xs h) (p x) (x == n) refl refl where
  by_test : times n (filter p xs) ≡ times n xs → (a b : Bool) → p x ≡ a → (x == n) ≡ b → times n (filter p (x ∷ xs)) ≡ times n (x ∷ xs)
  by_test ih true b t s = ap (times n) (keeps p x xs t) ∙ times-cons n x (filter p xs) ∙ ap (λ (k : ℕ). cond (x == n) 1 0 + k) ih ∙ sym (times-cons n x xs)
  by_test ih false true t s = let passes : p x ≡ true = ap p (test_same x n s) ∙ h in cc
  by_test ih false false t s = ap (times n) (leaves p x xs t) ∙ ih ∙ sym (times-other n x xs s)

-- and leaves none, where it doesn't
pub times_stopped : (p : ℕ → Bool) (n : ℕ) (xs : List ℕ) → p n ≡ false → times n (filter p xs) ≡ 0
times_stopped p n [] h = refl
times_stopped p n (x ∷ xs) h = by_test (times_stopped p n xs h) (p x) (x == n) refl refl where
  by_test : times n (filter p xs) ≡ 0 → (a b : Bool) → p x ≡ a → (x == n) ≡ b → times n (filter p (x ∷ xs)) ≡ 0
  by_test ih true true t s = let stops : p x ≡ false = ap p (test_same x n s) ∙ h in cc
  by_test ih true false t s = ap (times n) (keeps p x xs t) ∙ times-other n x (filter p xs) s ∙ ih
  by_test ih false b t s = ap (times n) (leaves p x xs t) ∙ ih

-- two filters that agree on the numbers that are there leave the same
pub same_filter : (p q : ℕ → Bool) (xs : List ℕ) → ((n : ℕ) → 0 < times n xs → p n ≡ q n) → filter p xs ≡ filter q xs
same_filter p q [] h = refl
same_filter p q (x ∷ xs) h =
    by_test (same_filter p q xs (λ n some. h n (let more = times-more n x xs in omega arith))) (h x (let here = times-here x xs in omega arith)) (q x) refl where
      by_test : filter p xs ≡ filter q xs → p x ≡ q x → (b : Bool) → q x ≡ b → filter p (x ∷ xs) ≡ filter q (x ∷ xs)
      by_test ih same true t = keeps p x xs (same ∙ t) ∙ ap (λ (ys : List ℕ). x ∷ ys) ih ∙ sym (keeps q x xs t)
      by_test ih same false t = leaves p x xs (same ∙ t) ∙ ih ∙ sym (leaves q x xs t)

-- a filter that passes everything leaves the list
filter_true : (xs : List ℕ) → filter (λ n. true) xs ≡ xs
filter_true [] = refl
filter_true (x ∷ xs) = ap (λ (ys : List ℕ). x ∷ ys) (filter_true xs)

-- a filter that passes all that is there leaves the list
pub filter_all : (p : ℕ → Bool) (xs : List ℕ) → ((n : ℕ) → 0 < times n xs → p n ≡ true) → filter p xs ≡ xs
filter_all p xs h = same_filter p (λ n. true) xs h ∙ filter_true xs
