-- Lemmas on a text that is cut at one byte.
use Rattle.std.proofs.Common.{◌≡◌, ◌≤◌, ℕ, ◌+◌, Bool, true, false, cond, not, List, [], ◌∷◌, length, take, drop, refl, arith, suc}
use Rattle.std.specs.Prelude.{Some, None, nat_lt, position}
use Rattle.std.specs.List.{slice_split, onto_first, position_or_len}
use Rattle.std.proofs.lemmas.Bool.{ltb-true, ltb-false}
use Rattle.std.proofs.lemmas.Option.{cond_some}
use Rattle.std.proofs.lemmas.List.Splits.{slice_split_first}

whole_more : (b : Bool) (x : ℕ) (xs : List ℕ) (parts : List (List ℕ)) (n : ℕ) → (length xs ≤ n → parts ≡ xs ∷ []) → suc (length xs) ≤ cond (not b) (1 + n) 0 → cond b ([] ∷ parts) (onto_first x parts) ≡ (x ∷ xs) ∷ []
whole_more true x xs parts n more h = absurd (omega arith)
whole_more false x xs parts n more h = rw (more (omega arith)) refl

-- where no byte passes, the text is one part
whole : (p : ℕ → Bool) (xs : List ℕ) → length xs ≤ position_or_len p xs → slice_split p xs ≡ xs ∷ []
whole p [] h = refl
whole p (x ∷ xs) h = whole_more (p x) x xs (slice_split p xs) (position_or_len p xs) (whole p xs) h

none_from_test : (b : Bool) (n : ℕ) → cond b (Some n) None ≡ None → b ≡ false
none_from_test true n e = absurd (cc)
none_from_test false n e = refl

-- no place: the text is one part
pub parts_without : (p : ℕ → Bool) (xs : List ℕ) → position p xs ≡ None → slice_split p xs ≡ xs ∷ []
parts_without p xs e = whole p xs (ltb-false _ _ (none_from_test _ _ e))

-- a place: the first part stands before it, and the others are those of what stands after it
pub parts_at : (p : ℕ → Bool) (xs : List ℕ) (place : ℕ) → position p xs ≡ Some place → slice_split p xs ≡ take place xs ∷ slice_split p (drop (place + 1) xs)
parts_at p xs place e =
    let found = cond_some (nat_lt (position_or_len p xs) (length xs)) (position_or_len p xs) place e in
    rw (← found.1) (slice_split_first p xs 0 (ltb-true _ _ found.0))
