-- What a guest keeps over a history.
use Rattle.std.proofs.Common.{◌≡◌, ℕ, List, [], ◌∷◌, Bool, true, false, not, ◌&&◌, if◌then◌else◌, refl, ap, sym, ◌∙◌}
use Rattle.std.proofs.lemmas.Bool.{and_parts}
use Rattle.pef_model.specs.Plan.{Plan}
use Rattle.pef_model.specs.Event.{Event}
use Rattle.pef_model.specs.Target.{Target, Alone, AtGuest, AtFrame, is_guest, target_of, touches_guest}
use Rattle.pef_model.specs.Guest.{Guest, start_guest, next_guest}
use Rattle.pef_model.specs.History.{guest_after, part_after}
use Rattle.pef_model.proofs.Folds.{same_test, test_same, skips, counts, value_after-filter}
use Rattle.std.specs.List.{filter}
use Rattle.pef_model.specs.Clash.{clashes}
use Rattle.pef_model.specs.Sound.{clashes_at, is_clash, is_clean}
use Rattle.pef_model.specs.GuestLaw.{CleanIsEachGuests}
use Rattle.pef_model.proofs.Folds.{keeps, leaves}

-- a target that is a guest's
is_at : (lpid : ℕ) (t : Target) → is_guest lpid t ≡ true → t ≡ AtGuest lpid
is_at lpid Alone h = cc
is_at lpid (AtFrame n) h = cc
is_at lpid (AtGuest l) h = ap AtGuest (test_same l lpid h)

-- a guest has met a clash where the entries that touch it have one
own_clean : (plan : Plan) (past : List Event) (lpid : ℕ) → (guest_after plan lpid past).clean ≡ is_clean plan (filter (touches_guest plan lpid) past)
own_clean plan [] lpid = refl
own_clean plan (e ∷ past) lpid = by_test (touches_guest plan lpid e) refl (own_clean plan past lpid) where
  own : List Event
  own = filter (touches_guest plan lpid) past

  by_test : (b : Bool) → touches_guest plan lpid e ≡ b → (guest_after plan lpid past).clean ≡ is_clean plan own → (guest_after plan lpid (e ∷ past)).clean ≡ is_clean plan (filter (touches_guest plan lpid) (e ∷ past))
  by_test false t before =
      ap (λ (g : Guest). g.clean) (skips (touches_guest plan lpid) (next_guest plan) (start_guest plan lpid) e past t)
      ∙ before ∙ sym (ap (is_clean plan) (leaves (touches_guest plan lpid) e past t))
  by_test true t before =
      ap (λ (g : Guest). g.clean) (counts (touches_guest plan lpid) (next_guest plan) (start_guest plan lpid) e past t)
      ∙ ap (λ (b : Bool). b && not (clashes (part_after plan past lpid) e)) before
      ∙ ap (λ (g : Guest). is_clean plan own && not (clashes g.part e)) (sym (value_after-filter (touches_guest plan lpid) (next_guest plan) (start_guest plan lpid) past))
      ∙ ap (λ (t : Target). is_clean plan own && not (clashes_at (part_after plan own) e t)) (sym (is_at lpid (target_of plan e) t))
      ∙ sym (ap (is_clean plan) (keeps (touches_guest plan lpid) e past t))

-- each guest has met none
abbrev EachIsClean : Plan → List Event → Type 0
EachIsClean plan past = (lpid : ℕ) → (guest_after plan lpid past).clean ≡ true

-- a guest is clean after an entry where it was and the entry is no clash of its own
clean_after : (plan : Plan) (past : List Event) (e : Event) (lpid : ℕ) →
    (guest_after plan lpid (e ∷ past)).clean ≡ (if touches_guest plan lpid e then (guest_after plan lpid past).clean && not (clashes (part_after plan past lpid) e) else (guest_after plan lpid past).clean)
clean_after plan past e lpid = by_test (touches_guest plan lpid e) where
  by_test : (b : Bool) → (if b then next_guest plan (guest_after plan lpid past) e else guest_after plan lpid past).clean
      ≡ (if b then (guest_after plan lpid past).clean && not (clashes (part_after plan past lpid) e) else (guest_after plan lpid past).clean)
  by_test true = refl
  by_test false = refl

-- where the history is clean each guest is
each_clean : (plan : Plan) (past : List Event) → is_clean plan past ≡ true → EachIsClean plan past
each_clean plan [] h lpid = refl
each_clean plan (e ∷ past) h lpid =
    let both = and_parts (is_clean plan past) (not (is_clash plan past e)) h in
    clean_after plan past e lpid ∙ by_test (touches_guest plan lpid e) refl (each_clean plan past both.0 lpid) both.1 where
      by_test : (b : Bool) → touches_guest plan lpid e ≡ b → (guest_after plan lpid past).clean ≡ true → not (is_clash plan past e) ≡ true →
          (if b then (guest_after plan lpid past).clean && not (clashes (part_after plan past lpid) e) else (guest_after plan lpid past).clean) ≡ true
      by_test true t before none =
          ap (λ (b : Bool). b && not (clashes (part_after plan past lpid) e)) before
          ∙ ap (λ (t : Target). not (clashes_at (part_after plan past) e t)) (sym (is_at lpid (target_of plan e) t)) ∙ none
      by_test false t before none = before

-- and where each guest is the history is
all_clean : (plan : Plan) (past : List Event) → EachIsClean plan past → is_clean plan past ≡ true
all_clean plan [] h = refl
all_clean plan (e ∷ past) h =
    ap (λ (b : Bool). b && not (is_clash plan past e)) (all_clean plan past before) ∙ by_target (target_of plan e) refl where
      by_test : (lpid : ℕ) (b : Bool) → (if b then (guest_after plan lpid past).clean && not (clashes (part_after plan past lpid) e) else (guest_after plan lpid past).clean) ≡ true →
          (guest_after plan lpid past).clean ≡ true
      by_test lpid true k = (and_parts (guest_after plan lpid past).clean (not (clashes (part_after plan past lpid) e)) k).0
      by_test lpid false k = k

      before : EachIsClean plan past
      before lpid = by_test lpid (touches_guest plan lpid e) (sym (clean_after plan past e lpid) ∙ h lpid)

      by_target : (t : Target) → target_of plan e ≡ t → not (is_clash plan past e) ≡ true
      by_target Alone is = ap (λ (t : Target). not (clashes_at (part_after plan past) e t)) is
      by_target (AtFrame n) is = ap (λ (t : Target). not (clashes_at (part_after plan past) e t)) is
      by_target (AtGuest lpid) is =
          ap (λ (t : Target). not (clashes_at (part_after plan past) e t)) is
          ∙ (and_parts (guest_after plan lpid past).clean (not (clashes (part_after plan past lpid) e))
          (ap (λ (b : Bool). if b then (guest_after plan lpid past).clean && not (clashes (part_after plan past lpid) e) else (guest_after plan lpid past).clean) (sym (ap (is_guest lpid) is ∙ same_test lpid))
          ∙ sym (clean_after plan past e lpid) ∙ h lpid)).1

pub clean_is_each_guests : CleanIsEachGuests
clean_is_each_guests plan past = record { whole = (each_clean plan past, all_clean plan past); own = own_clean plan past }
