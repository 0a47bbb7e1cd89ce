-- The part of a history before its first clash.
use Rattle.std.proofs.Common.{◌≡◌, ℕ, suc, ◌-◌, ◌≤◌, nat_lt, List, [], ◌∷◌, drop, length, Bool, true, false, if◌then◌else◌, refl, ap, sym, ◌∙◌, arith}
use Rattle.std.proofs.lemmas.Bool.Decides.{nat_tests}
use Rattle.pef_model.specs.Plan.{Plan}
use Rattle.pef_model.specs.Event.{Event, first}
use Rattle.pef_model.specs.History.{IsLegal}
use Rattle.pef_model.specs.Sound.{is_clean, sound}
use Rattle.pef_model.specs.FreshLaw.{EachSoundPart}

-- the first part of a history's own length is the history
first_whole : (past : List Event) → first (length past) past ≡ past
first_whole past =
    let none : length past - length past ≡ 0 = omega arith in
    ap (λ (n : ℕ). drop n past) none

-- a first part that isn't longer than the history before an entry is one of that
first_before : (k : ℕ) (e : Event) (past : List Event) → k ≤ length past → first k (e ∷ past) ≡ first k past
first_before k e past few =
    let more : suc (length past) - k ≡ suc (length past - k) = omega (arith, few) in
    ap (λ (n : ℕ). drop n (e ∷ past)) more

-- what the law says of a part of a history, and that it isn't longer than the history
record IsPart (plan : Plan) (past part : List Event) : Type 0 where
  short : length part ≤ length past
  is : part ≡ first (length part) past
  clean : is_clean plan part ≡ true
  longest : (k : ℕ) → k ≤ length past → is_clean plan (first k past) ≡ true → k ≤ length part
  whole : is_clean plan past ≡ true → part ≡ past
  legal : IsLegal plan past → IsLegal plan part

-- a history without a clash is its own
clean_part : (plan : Plan) (past : List Event) → is_clean plan past ≡ true → IsPart plan past past
clean_part plan past clean = record {
  short = omega arith;
  is = sym (first_whole past);
  clean = clean;
  longest = λ k few h. few;
  whole = λ h. refl;
  legal = λ h. h;
}

-- with an entry more that makes a clash it stays as it was
same_part : (plan : Plan) (e : Event) (past part : List Event) → is_clean plan (e ∷ past) ≡ false → IsPart plan past part → IsPart plan (e ∷ past) part
same_part plan e past part clash before = record {
  short = omega (arith, before.short);
  is = before.is ∙ sym (first_before (length part) e past before.short);
  clean = before.clean;
  longest = λ k few h. by_length k few h (nat_lt (length past) k) refl;
  whole = λ h. absurd (let both : true ≡ false = sym h ∙ clash in cc);
  legal = λ h. before.legal h.1;
} where
  by_length : (k : ℕ) → k ≤ suc (length past) → is_clean plan (first k (e ∷ past)) ≡ true → (b : Bool) → nat_lt (length past) k ≡ b → k ≤ length part
  by_length k few h true t =
      let all : k ≡ suc (length past) = grind (arith, nat_tests) in
      let is : first k (e ∷ past) ≡ e ∷ past = ap (λ (n : ℕ). first n (e ∷ past)) all ∙ first_whole (e ∷ past) in
      absurd (let both : true ≡ false = sym h ∙ ap (is_clean plan) is ∙ clash in cc)
  by_length k few h false t =
      let fewer : k ≤ length past = grind (arith, nat_tests) in
      before.longest k fewer (ap (is_clean plan) (sym (first_before k e past fewer)) ∙ h)

-- so it is for each history, by induction
each_part : (plan : Plan) (past : List Event) → IsPart plan past (sound plan past)
each_part plan [] = clean_part plan [] refl
each_part plan (e ∷ past) = by_test (each_part plan past) (is_clean plan (e ∷ past)) refl where
  by_test : IsPart plan past (sound plan past) → (b : Bool) → is_clean plan (e ∷ past) ≡ b → IsPart plan (e ∷ past) (if b then e ∷ past else sound plan past)
  by_test before true t = clean_part plan (e ∷ past) t
  by_test before false t = same_part plan e past (sound plan past) t before

pub each_sound_part : EachSoundPart
each_sound_part plan past =
    let part : IsPart plan past (sound plan past) = each_part plan past in
    record { part = part.is; clean = part.clean; longest = part.longest; whole = part.whole; legal = part.legal }
