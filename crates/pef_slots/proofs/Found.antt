-- What a search for an id finds.
use Rattle.std.proofs.Common.{◌≡◌, ℕ, ◌<◌, ◌≤◌, ◌^◌, ◌==◌, Bool, true, false, cond, List, [], ◌∷◌, All, Option, Some, None, is_some, refl, sym, ap, ◌∙◌, arith, get_or, length, ◌||◌, true≢false}
use Rattle.std.specs.List.{find, list_any}
use Rattle.std.specs.Option.{option_map}
use Rattle.std.proofs.lemmas.List.Folds.{list_any_at, list_any_none}
use Rattle.std.proofs.lemmas.Bool.Decides.{nat_tests}
use Rattle.pef_model.specs.declared.state.Slot.{Slot}
use Rattle.pef_model.specs.Slots.{has, has_slot}
use Rattle.pef_slots.specs.Slots.{slot_at}

-- one of two, and it is the one that passes or comes from the rest
pick : {X : Type 0} (test : X → Bool) (b : Bool) (x y : X) (rest : Option X) → test x ≡ b → (rest ≡ Some y → test y ≡ true) → cond b (Some x) rest ≡ Some y → test y ≡ true
pick test true x y rest passes later found = ap test (sym (same x y found)) ∙ passes
  where
    same : {X : Type 0} (x y : X) → ◌≡◌ {A = Option X} (Some x) (Some y) → x ≡ y
    same x y h = search h
pick test false x y rest passes later found = later found

-- what is found passes
pub passes : {X : Type 0} (test : X → Bool) (xs : List X) (x : X) → find test xs ≡ Some x → test x ≡ true
passes test [] x found = search found
passes test (y ∷ xs) x found = pick test (test y) y x (find test xs) refl (passes test xs x) found

-- the first of some, or of what is there else
first : {X : Type 0} (b rest : Bool) (x : X) (o : Option X) → is_some o ≡ rest → is_some (cond b (Some x) o) ≡ (b || rest)
first true rest x o same = refl
first false rest x o same = same

-- one is found exactly where one passes
pub is_some-found : {X : Type 0} (test : X → Bool) (xs : List X) → is_some (find test xs) ≡ list_any test xs
is_some-found test [] = refl
is_some-found test (x ∷ xs) = first (test x) (list_any test xs) x (find test xs) (is_some-found test xs)

-- what is found may be made into something else
mapped : {X Y : Type 0} (f : X → Y) (o : Option X) → is_some (option_map f o) ≡ is_some o
mapped f None = refl
mapped f (Some x) = refl

-- a slot's id is found exactly where one of the slots has the page
pub is_some_slot_at : (slots : List Slot) (gfn : ℕ) → is_some (slot_at slots gfn) ≡ has_slot slots gfn
is_some_slot_at slots gfn = mapped (λ slot. slot.id) (find (λ slot. has slot gfn) slots) ∙ is_some-found (λ slot. has slot gfn) slots

nothing : {X : Type 0} (o : Option X) → is_some o ≡ false → o ≡ None
nothing None nobody = refl
nothing (Some x) nobody = absurd (true≢false nobody)

-- so where none passes none is found
pub none_found : {X : Type 0} (test : X → Bool) (xs : List X) → list_any test xs ≡ false → find test xs ≡ None
none_found test xs nobody = nothing (find test xs) (is_some-found test xs ∙ nobody)

pub all_fail : {X : Type 0} (test : X → Bool) (xs : List X) → All (λ x. test x ≡ false) xs → find test xs ≡ None
all_fail test xs fail = none_found test xs (list_any_none test xs fail)

-- where none passes a test, each fails it
pub none_at : {X : Type 0} (test : X → Bool) (xs : List X) (k : ℕ) (d : X) → list_any test xs ≡ false → k < length xs → test (get_or xs k d) ≡ false
none_at test xs k d nobody below = by (test (get_or xs k d)) refl
  where
    by : (b : Bool) → test (get_or xs k d) ≡ b → test (get_or xs k d) ≡ false
    by true passes = absurd (true≢false (sym (list_any_at test xs k d below passes) ∙ nobody))
    by false fails = fails

-- and where none is found each fails it
pub each_fails : {X : Type 0} (test : X → Bool) (xs : List X) (k : ℕ) (d : X) → find test xs ≡ None → k < length xs → test (get_or xs k d) ≡ false
each_fails test xs k d nobody below = none_at test xs k d (sym (is_some-found test xs) ∙ ap is_some nobody) below

-- no slot has an id of more than 16 bits
pub above : (slots : List Slot) (id : ℕ) → All (λ slot. slot.id < 2 ^ 16) slots → 2 ^ 16 ≤ id → find (λ slot. id == slot.id) slots ≡ None
above slots id ids large = all_fail (λ slot. id == slot.id) slots (λ k d below. grind (arith, nat_tests, ids k d below, large))

-- the slot with an id has it
pub its_id : (slots : List Slot) (id : ℕ) (slot : Slot) → find (λ slot. id == slot.id) slots ≡ Some slot → slot.id ≡ id
its_id slots id slot found =
    let is : (id == slot.id) ≡ true = passes (λ slot. id == slot.id) slots slot found in
    grind (arith, nat_tests, is)
