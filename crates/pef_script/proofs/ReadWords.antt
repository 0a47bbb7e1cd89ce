-- Words that are read have small numbers.
use Rattle.std.proofs.Common.{◌≡◌, ◌<◌, ℕ, ◌^◌, Bool, true, false, cond, ◌&&◌, List, [], ◌∷◌, length, drop, Option, Some, None, refl, subst, arith}
use Rattle.std.specs.Prelude.{◌==◌, nat_eq, nat_lt, nat_le, codes}
use Rattle.std.specs.Char.{is_digit}
use Rattle.std.specs.List.{list_all, starts_with, slice_split}
use Rattle.std.specs.Str.Parse.{digits_value}
use Rattle.std.proofs.lemmas.Bool.{and_parts, ltb-true}
use Rattle.std.proofs.lemmas.Option.{cond_some}
use Rattle.pef_model.specs.Words.{numeral_in, number_in, register_at, register_in}
use Rattle.pef_script.specs.declared.token.Pair.{Pair}
use Rattle.pef_script.specs.Token.{both, pair_of, pair_in}
use Rattle.pef_script.proofs.Results.{option_map_some}

-- what holds of what is found, if anything is
abbrev pub Holds : {A : Type 0} → (A → Type 0) → Option A → Type 0
Holds {A} P found = (a : A) → found ≡ Some a → P a

-- where nothing is found it holds
none_holds : {A : Type 0} (P : A → Type 0) → Holds P None
none_holds {A} P a e = absurd (cc)

-- what holds of two holds of the one that a test chooses
either_holds : {A : Type 0} (P : A → Type 0) (test : Bool) (a b : Option A) → Holds P a → Holds P b → Holds P (cond test a b)
either_holds {A} P true a b h k = h
either_holds {A} P false a b h k = k

-- a value is in the limit if there is one
abbrev pub AllBelow : ℕ → Option ℕ → Type 0
AllBelow limit found = Holds (λ n. n < limit) found

numeral_below : (radix most : ℕ) (ds : List ℕ) → AllBelow (2 ^ 64) (numeral_in radix most ds)
numeral_below radix most ds n e =
    let few = nat_le (length ds) most in
    let digits = list_all (λ c. is_digit c radix) ds in
    let small = nat_lt (digits_value radix ds) (2 ^ 64) in
    let found = cond_some (nat_lt 0 (length ds) && (few && (digits && small))) (digits_value radix ds) n e in
    let fits : small ≡ true = (and_parts digits small (and_parts few (digits && small) (and_parts (nat_lt 0 (length ds)) (few && (digits && small)) found.0).1).1).1 in
    let below : digits_value radix ds < 2 ^ 64 = ltb-true _ _ fits in
    omega (arith, found.1, below)

-- a number that is read is below 2^64
pub number_fits : (word : List ℕ) → AllBelow (2 ^ 64) (number_in word)
number_fits word = either_holds (λ n. n < 2 ^ 64) (starts_with nat_eq word (codes "0x")) _ _ (numeral_below 16 16 (drop 2 word)) (numeral_below 10 20 word)

register_at_below : (found : Option ℕ) → AllBelow 32 (register_at found)
register_at_below None r e = absurd (cc)
register_at_below (Some n) r e =
    let found = cond_some (nat_lt n 32) n r e in
    let below : n < 32 = ltb-true n 32 found.0 in
    omega (arith, found.1, below)

-- and a register is one
pub register_below : (word : List ℕ) → AllBelow 32 (register_in word)
register_below word = either_holds (λ n. n < 32) _ _ None (register_at_below (numeral_in 10 2 (drop 1 word))) (none_holds (λ n. n < 32))

-- a pair of numbers below 2^64
abbrev pub PairFits : Pair → Type 0
PairFits p = (p.left < 2 ^ 64) × (p.right < 2 ^ 64)

both_fit : (left right : Option ℕ) → AllBelow (2 ^ 64) left → AllBelow (2 ^ 64) right → Holds PairFits (both left right)
both_fit (Some l) (Some r) one two p e =
    let same : record { left = l; right = r } ≡ p = cc in
    subst PairFits same (one l refl, two r refl)
both_fit (Some l) None one two p e = absurd (cc)
both_fit None right one two p e = absurd (cc)

pair_of_fits : (parts : List (List ℕ)) → Holds PairFits (pair_of parts)
pair_of_fits [] p e = absurd (cc)
pair_of_fits (number ∷ []) p e = option_map_some (λ (n : ℕ). record { left = n; right = n }) (number_in number) p e (λ n is same. subst PairFits same (number_fits number n is, number_fits number n is))
pair_of_fits (left ∷ right ∷ []) p e = both_fit (number_in left) (number_in right) (number_fits left) (number_fits right) p e
pair_of_fits (left ∷ middle ∷ right ∷ more) p e = absurd (cc)

-- a pair that is read has numbers below 2^64
pub pair_fits : (token : List ℕ) → Holds PairFits (pair_in token)
pair_fits token = pair_of_fits (slice_split (λ b. b == 124) token)
