-- Entropy words by guests: they are the same words, each guest's together, and the guests rise.
use Rattle.std.proofs.Common.{◌≡◌, ◌≤◌, ◌<◌, ℕ, ◌+◌, ◌^◌, ◌==◌, Bool, true, false, cond, List, [], ◌∷◌, length, map, refl, ap, ◌∙◌, arith, suc}
use Rattle.std.specs.List.{flat_map, AllByRecursion}
use Rattle.std.specs.List.Sorted.{IsNonDecreasing}
use Rattle.std.proofs.lemmas.Bool.Decides.{nat_tests}
use Rattle.std.proofs.lemmas.List.Sums.{sum_by-cons}
use Rattle.pef_model.specs.declared.config.EntropyWord.{EntropyWord}
use Rattle.pef_model.specs.Plan.{IsWithin}
use Rattle.pef_model.proofs.Folds.{same_test}
use Rattle.pef_model.proofs.Lists.{all_give}
use Rattle.pef_script.proofs.Ranges.{guest, count_of}
use Rattle.pef_script.specs.Written.{GuestWords, onto_guests, by_guest}

-- the words of guests in a row
abbrev pub words_of : List GuestWords → List EntropyWord
words_of gs = flat_map (λ (g : GuestWords). g.words) gs

onto_words : (word : EntropyWord) (gs : List GuestWords) → words_of (onto_guests word gs) ≡ word ∷ words_of gs
onto_words word [] = refl
onto_words word (g ∷ more) = by_test (g.lpid == word.lpid) where
  by_test : (b : Bool) → words_of (cond b (record { lpid = g.lpid; words = word ∷ g.words } ∷ more) (record { lpid = word.lpid; words = word ∷ [] } ∷ g ∷ more)) ≡ word ∷ words_of (g ∷ more)
  by_test true = refl
  by_test false = refl

-- they are the same words
pub words_stay : (words : List EntropyWord) → words_of (by_guest words) ≡ words
words_stay [] = refl
words_stay (word ∷ words) = onto_words word (by_guest words) ∙ ap (λ (ws : List EntropyWord). word ∷ ws) (words_stay words)

-- words of guests from a least one on, which don't fall
abbrev NonFalling : ℕ → List EntropyWord → Type 0
NonFalling least [] = Unit {0}
NonFalling least (word ∷ words) = (least ≤ word.lpid) × NonFalling word.lpid words

-- guests from a least one on, which rise
abbrev pub RiseFrom : ℕ → List GuestWords → Type 0
RiseFrom least [] = Unit {0}
RiseFrom least (g ∷ more) = (least ≤ g.lpid) × RiseFrom (g.lpid + 1) more

onto_rise : (least : ℕ) (word : EntropyWord) (gs : List GuestWords) → least ≤ word.lpid → RiseFrom word.lpid gs → RiseFrom least (onto_guests word gs)
onto_rise least word [] le rise = (le, tt)
onto_rise least word (g ∷ more) le rise = by_test (g.lpid == word.lpid) refl where
  by_test : (b : Bool) → (g.lpid == word.lpid) ≡ b → RiseFrom least (cond b (record { lpid = g.lpid; words = word ∷ g.words } ∷ more) (record { lpid = word.lpid; words = word ∷ [] } ∷ g ∷ more))
  by_test true e = (omega (arith, le, rise.0), rise.1)
  by_test false e =
      let first : word.lpid ≤ g.lpid = rise.0 in
      let above : word.lpid + 1 ≤ g.lpid = grind (arith, nat_tests, first, e) in
      (le, (above, rise.1))

guests_rise : (least : ℕ) (words : List EntropyWord) → NonFalling least words → RiseFrom least (by_guest words)
guests_rise least [] h = tt
guests_rise least (word ∷ words) h = onto_rise least word (by_guest words) h.0 (guests_rise word.lpid words h.1)

non_falling : (least : ℕ) (words : List EntropyWord) → IsNonDecreasing (least ∷ map guest words) → NonFalling least words
non_falling least [] sorted = tt
non_falling least (word ∷ words) sorted =
    (sorted 0 1 0 (omega arith) (omega arith), non_falling word.lpid words (λ i j d first within. sorted (suc i) (suc j) d (omega (arith, first)) (omega (arith, within))))

-- so do those of words that are sorted, from 1 on
pub guests_rise_from : (words : List EntropyWord) → AllByRecursion (λ (word : EntropyWord). 1 ≤ word.lpid) words → IsNonDecreasing (map guest words) → RiseFrom 1 (by_guest words)
guests_rise_from [] some sorted = tt
guests_rise_from (word ∷ words) some sorted = guests_rise 1 (word ∷ words) (some.0, non_falling word.lpid words sorted)

-- a word is a guest's, and its numbers can be written
abbrev pub IsOwn : ℕ → EntropyWord → Type 0
IsOwn lpid word = (word.lpid ≡ lpid) × (word.left < 2 ^ 64) × (word.right < 2 ^ 64)

-- a guest's words among all
pub record AreGuests (guests : ℕ) (all : List EntropyWord) (g : GuestWords) : Type 0 where
  pub within : IsWithin 1 guests g.lpid
  pub some : 0 < length g.words
  pub few : length g.words ≤ count_of g.lpid all
  pub own : AllByRecursion (IsOwn g.lpid) g.words

-- a word of one of the guests, whose numbers can be written
abbrev pub IsWordOf : ℕ → EntropyWord → Type 0
IsWordOf guests word = IsWithin 1 guests word.lpid × (word.left < 2 ^ 64) × (word.right < 2 ^ 64)

count-cons : (lpid : ℕ) (word : EntropyWord) (words : List EntropyWord) → count_of lpid (word ∷ words) ≡ cond (word.lpid == lpid) 1 0 + count_of lpid words
count-cons lpid word words = sum_by-cons (λ (w : EntropyWord). cond (w.lpid == lpid) 1 0) word words

-- one more word
among_more : (guests : ℕ) (word : EntropyWord) (all : List EntropyWord) (g : GuestWords) → AreGuests guests all g → AreGuests guests (word ∷ all) g
among_more guests word all g are = record { within = are.within; some = are.some; few = omega (arith, are.few, count-cons g.lpid word all); own = are.own }

alone : (guests : ℕ) (word : EntropyWord) (all : List EntropyWord) → IsWordOf guests word → AreGuests guests (word ∷ all) (record { lpid = word.lpid; words = word ∷ [] })
alone guests word all h = record {
  within = h.0;
  some = omega arith;
  few = omega (arith, count-cons word.lpid word all, ap (λ (b : Bool). cond {A = ℕ} b 1 0) (same_test word.lpid));
  own = ((refl, h.1, h.2), tt);
}

onto_are : (guests : ℕ) (word : EntropyWord) (all : List EntropyWord) (gs : List GuestWords) → IsWordOf guests word → AllByRecursion (AreGuests guests all) gs →
    AllByRecursion (AreGuests guests (word ∷ all)) (onto_guests word gs)
onto_are guests word all [] h are = (alone guests word all h, tt)
onto_are guests word all (g ∷ more) h are = by_test (g.lpid == word.lpid) refl where
  rest : AllByRecursion (AreGuests guests (word ∷ all)) more
  rest = all_give (AreGuests guests all) (AreGuests guests (word ∷ all)) more (λ other others. among_more guests word all other others) are.1

  by_test : (b : Bool) → (g.lpid == word.lpid) ≡ b →
      AllByRecursion (AreGuests guests (word ∷ all)) (cond b (record { lpid = g.lpid; words = word ∷ g.words } ∷ more) (record { lpid = word.lpid; words = word ∷ [] } ∷ g ∷ more))
  by_test true e =
      let same : word.lpid ≡ g.lpid = grind (arith, nat_tests, e) in
      let counted : cond {A = ℕ} (word.lpid == g.lpid) 1 0 ≡ 1 = ap (λ (n : ℕ). cond {A = ℕ} (n == g.lpid) 1 0) same ∙ ap (λ (b : Bool). cond {A = ℕ} b 1 0) (same_test g.lpid) in
      (record { within = are.0.within; some = omega arith; few = omega (arith, are.0.few, count-cons g.lpid word all, counted); own = ((same, h.1, h.2), are.0.own) }, rest)
  by_test false e = (alone guests word all h, (among_more guests word all g are.0, rest))

-- each guest's words are its own, and no more than it has
pub are_guests : (guests : ℕ) (words : List EntropyWord) → AllByRecursion (IsWordOf guests) words → AllByRecursion (AreGuests guests words) (by_guest words)
are_guests guests [] h = tt
are_guests guests (word ∷ words) h = onto_are guests word words (by_guest words) h.0 (are_guests guests words h.1)
