-- The pool has room for a frame that a page has, since each frame is in one place.
use Rattle.std.proofs.Common.{◌≡◌, ◌≢◌, ℕ, zero, suc, ◌+◌, ◌<◌, ◌≤◌, ◌==◌, nat_lt, cond, if◌then◌else◌, Bool, true, false, List, [], ◌∷◌, ◌++◌, length, filter_map, Option, Some, None, refl, ap, sym, subst, ◌∙◌, ◌⊎◌, inl, inr, arith}
use Rattle.std.specs.Prelude.{slice_get, slice_index_or}
use Rattle.std.specs.List.{count_by, flat_map, cons_option}
use Rattle.std.proofs.lemmas.Bool.{cases_eq}
use Rattle.std.proofs.lemmas.Bool.Decides.{nat_tests}
use Rattle.std.proofs.lemmas.List.Sums.{sum_by-append, sum_by-cons}
use Rattle.pef_frames.specs.Frame.{FrameState, numbers_of}
use Rattle.pef_frames.specs.PoolLaw.{times_free}
use Rattle.pef_pages.specs.declared.page.Page.{Page}
use Rattle.pef_pages.specs.Cells.{frame_in}
use Rattle.pef_pages.specs.Pages.{invalid_page, frame_at, held}
use Rattle.pef_guest.specs.declared.guest.Guest.{Guest}
use Rattle.pef_guest.specs.Keeps.{times_held}
use Rattle.pef_core.specs.State.{State, FramesOnce, secure_frames}
use Rattle.pef_core.proofs.WholeAfter.{count_numbers}

-- how often a number stands in a list
abbrev times_in : List ℕ → ℕ → ℕ
times_in xs n = count_by (λ m. m == n) xs

times-cons : (n x : ℕ) (xs : List ℕ) → times_in (x ∷ xs) n ≡ (if x == n then 1 else 0) + times_in xs n
times-cons n x xs = sum_by-cons (λ (m : ℕ). if m == n then 1 else 0) x xs

-- a list without the elements that are a number
abbrev without : ℕ → List ℕ → List ℕ
without k [] = []
without k (x ∷ xs) = if x == k then without k xs else x ∷ without k xs

length-without : (k : ℕ) (xs : List ℕ) → length xs ≡ length (without k xs) + times_in xs k
length-without k [] = refl
length-without k (x ∷ xs) = by_test (length-without k xs) (x == k) refl where
  by_test : length xs ≡ length (without k xs) + times_in xs k → (b : Bool) → (x == k) ≡ b → length (x ∷ xs) ≡ length (if b then without k xs else x ∷ without k xs) + times_in (x ∷ xs) k
  by_test rest true t = (let more = times-cons k x xs in grind (arith, nat_tests))
  by_test rest false t = (let more = times-cons k x xs in grind (arith, nat_tests))

times-without : (k n : ℕ) (xs : List ℕ) → times_in (without k xs) n ≤ (if n == k then 0 else times_in xs n)
times-without k n [] = by_test (n == k) where
  by_test : (b : Bool) → 0 ≤ (if b then 0 else 0)
  by_test true = omega arith
  by_test false = omega arith
times-without k n (x ∷ xs) = by_test (times-without k n xs) (x == k) refl where
  by_test : times_in (without k xs) n ≤ (if n == k then 0 else times_in xs n) → (b : Bool) → (x == k) ≡ b → times_in (if b then without k xs else x ∷ without k xs) n ≤ (if n == k then 0 else times_in (x ∷ xs) n)
  by_test rest true t = grind (arith, nat_tests, times-cons n x xs)
  by_test rest false t = grind (arith, nat_tests, times-cons n x xs, times-cons n x (without k xs))

-- a list that has each number below a bound at most once, and no other, has no more than so many
few : (k : ℕ) (xs : List ℕ) → ((n : ℕ) → times_in xs n ≤ (if nat_lt n k then 1 else 0)) → length xs ≤ k
few zero [] h = omega arith
few zero (x ∷ xs) h = grind (arith, nat_tests, h x, times-cons x x xs)
few (suc k) xs h =
    let rest : length (without k xs) ≤ k = few k (without k xs) bound in
    let one : times_in xs k ≤ 1 = grind (arith, nat_tests, h k) in
    let all = length-without k xs in
    omega arith where
      bound : (n : ℕ) → times_in (without k xs) n ≤ (if nat_lt n k then 1 else 0)
      bound n = grind (arith, nat_tests, h n, times-without k n xs)

-- a page's frame is one of those that are held
module _ (number : ℕ) where
  times-before : (frame : Option FrameState) (frames : List FrameState) →
      count_by (λ (f : FrameState). f.number == number) frames ≤ count_by (λ (f : FrameState). f.number == number) (cons_option frame frames)
  times-before None frames = omega arith
  times-before (Some frame) frames = (let more = sum_by-cons (λ (f : FrameState). if f.number == number then 1 else 0) frame frames in omega arith)

  times-here : (frame : FrameState) (frames : List FrameState) → frame.number ≡ number → 1 ≤ count_by (λ (f : FrameState). f.number == number) (frame ∷ frames)
  times-here frame frames same = (let more = sum_by-cons (λ (f : FrameState). if f.number == number then 1 else 0) frame frames in grind (arith, nat_tests))

  held-has : (pages : List (Page FrameState)) (gfn : ℕ) (frame : FrameState) → frame_in (slice_index_or pages gfn invalid_page).cell ≡ Some frame → frame.number ≡ number →
      1 ≤ count_by (λ (f : FrameState). f.number == number) (filter_map (λ (page : Page FrameState). frame_in page.cell) pages)
  held-has [] gfn frame is same = cc
  held-has (page ∷ pages) zero frame is same =
      subst (λ (o : Option FrameState). 1 ≤ count_by (λ (f : FrameState). f.number == number) (cons_option o (filter_map (λ (p : Page FrameState). frame_in p.cell) pages))) (sym is)
      (times-here frame (filter_map (λ (p : Page FrameState). frame_in p.cell) pages) same)
  held-has (page ∷ pages) (suc gfn) frame is same =
      let here = held-has pages gfn frame is same in
      let more = times-before (frame_in page.cell) (filter_map (λ (p : Page FrameState). frame_in p.cell) pages) in
      omega arith

  module _ {S : Type 0} where
    held-within : (guests : List (Guest S)) (i : ℕ) (g : Guest S) → slice_get guests i ≡ Some g → times_held g number ≤ times_in (flat_map (λ guest. numbers_of (held guest.pages)) guests) number
    held-within [] i g is = cc
    held-within (a ∷ guests) zero g is =
        let same : a ≡ g = cc in
        let rest : List ℕ = flat_map (λ guest. numbers_of (held guest.pages)) guests in
        let all : times_in (numbers_of (held a.pages) ++ rest) number ≡ times_in (numbers_of (held a.pages)) number + times_in rest number =
        sum_by-append (λ (n : ℕ). cond (n == number) 1 0) (numbers_of (held a.pages)) rest in
        let here : times_in (numbers_of (held a.pages)) number ≡ times_held g number = count_numbers number (held a.pages) ∙ ap (λ (x : Guest S). times_held x number) same in
        omega arith
    held-within (a ∷ guests) (suc i) g is =
        let rest : List ℕ = flat_map (λ guest. numbers_of (held guest.pages)) guests in
        let all : times_in (numbers_of (held a.pages) ++ rest) number ≡ times_in (numbers_of (held a.pages)) number + times_in rest number =
        sum_by-append (λ (n : ℕ). cond (n == number) 1 0) (numbers_of (held a.pages)) rest in
        let there = held-within guests i g is in
        omega arith

-- a guest's frame is once among all
module _ {S : Type 0} (m : State S) (once : FramesOnce m) (i : ℕ) (guest : Guest S) (here : slice_get m.guests i ≡ Some guest) (gfn : ℕ) (frame : FrameState) (has : frame_at guest.pages gfn ≡ Some frame) where
  -- how often a number is free, and how often it is held
  both : (number : ℕ) → times_free m.pool number + times_in (flat_map (λ guest. numbers_of (held guest.pages)) m.guests) number ≡ (if nat_lt number m.pool.count then 1 else 0)
  both number = sym (sum_by-append (λ (n : ℕ). cond (n == number) 1 0) m.pool.free (flat_map (λ guest. numbers_of (held guest.pages)) m.guests)) ∙ once number

  pub is_once : frame.number < m.pool.count → count_by (λ n. n == frame.number) (secure_frames m) ≡ 1
  is_once below = once frame.number ∙ (let test : nat_lt frame.number m.pool.count ≡ true = grind (arith, nat_tests) in ap (λ (b : Bool). if b then 1 else 0) test)

  held_once : (number : ℕ) → frame.number ≡ number → 1 ≤ times_in (flat_map (λ guest. numbers_of (held guest.pages)) m.guests) number
  held_once number same =
      let one : 1 ≤ times_held guest number = held-has number guest.pages.pages gfn frame has same in
      let within = held-within number m.guests i guest here in
      omega arith

  -- a frame that a page has leaves room in the pool
  pub room : length m.pool.free < m.pool.count
  room = few m.pool.count (frame.number ∷ m.pool.free) bound where
    bound : (n : ℕ) → times_in (frame.number ∷ m.pool.free) n ≤ (if nat_lt n m.pool.count then 1 else 0)
    bound n = by_place (cases_eq frame.number n) where
      by_place : (frame.number ≡ n) ⊎ (frame.number ≢ n) → times_in (frame.number ∷ m.pool.free) n ≤ (if nat_lt n m.pool.count then 1 else 0)
      by_place (inl same) = (let b = both n in let h = held_once n same in let c = times-cons n frame.number m.pool.free in grind (arith, nat_tests))
      by_place (inr other) = (let b = both n in let c = times-cons n frame.number m.pool.free in grind (arith, nat_tests))
