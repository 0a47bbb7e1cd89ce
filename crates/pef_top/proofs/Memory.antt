-- A source in memory gives what was left in its order.
use Rattle.std.proofs.Common.{◌≡◌, ◌<◌, inl, inr, ℕ, List, [], ◌++◌, length, Some, option_map, ap, sym, subst, ◌∙◌, arith, append_assoc, append-nil, length-append}
use Rattle.std.proofs.lemmas.List.{append_cancel_left}
use Rattle.std.proofs.lemmas.Bool.{cases_lt}
use Rattle.std.proofs.lemmas.Bool.Decides.{nat_tests}
use Rattle.pef_top.specs.declared.outcome.TheConstants.{SCRIPT_LIMIT}
use Rattle.pef_top.specs.declared.outcome.RunOutcome.{RunOutcome}
use Rattle.pef_top.specs.declared.limits.Limit.TheVariants as limit
use Rattle.pef_top.specs.Input.{Took, TookAll}
use Rattle.pef_top.specs.Limits.{limit_in}
use Rattle.pef_top.specs.Outcome.{limit_passed}
use Rattle.pef_top.specs.Top.{IsReported, IsBegun, IsNoScript, IsPast, due}
use Rattle.pef_top.specs.InMemory.{MemoryIsTakenInOrder}
use Rattle.pef_top.proofs.Outcomes.{due_passes}

-- what was left before is what was taken and what is left after
front : (before left after left_after text : List ℕ) → after ++ left_after ≡ before ++ left → after ≡ before ++ text → left ≡ text ++ left_after
front before left after left_after text whole taken =
    append_cancel_left before left (text ++ left_after)
    (sym whole ∙ ap (λ (bytes : List ℕ). bytes ++ left_after) taken ∙ append_assoc before text left_after)

-- and where nothing is left after, it's what was taken
all : (before left after left_after text : List ℕ) → after ++ left_after ≡ before ++ left → TookAll (left_after ≡ []) before after text → text ≡ left
all before left after left_after text whole took =
    sym (front before left after left_after text whole took.taken ∙ ap (λ (bytes : List ℕ). text ++ bytes) took.end ∙ append-nil text)

-- a text that is longer than limit 1 passes it, whatever follows
too_long : (text more : List ℕ) → SCRIPT_LIMIT < length text → limit_in (text ++ more) ≡ Some limit.Script
too_long text more long = grind (arith, nat_tests, long, length-append text more)

-- a text that was taken is all that was left, or both are longer than limit 1
data Comparison (text left : List ℕ) : Type 0 where
  same : text ≡ left → Comparison text left
  long : limit_in text ≡ Some limit.Script → limit_in left ≡ Some limit.Script → Comparison text left

compared : (before left after left_after text : List ℕ) → after ++ left_after ≡ before ++ left → Took (left_after ≡ []) before after text → Comparison text left
compared before left after left_after text whole took = elim (cases_lt SCRIPT_LIMIT (length text)) [
  | inl more ↦
      Comparison.long (ap limit_in (sym (append-nil text)) ∙ too_long text [] more)
      (ap limit_in (front before left after left_after text whole took.taken) ∙ too_long text left_after more)
  | inr short ↦ Comparison.same (all before left after left_after text whole (record { taken = took.taken; end = took.end short }))
]

past_left : (text left : List ℕ) (outcome : RunOutcome) → Comparison text left → IsPast text outcome → IsPast left outcome
past_left text left outcome (same is) past = subst (λ (bytes : List ℕ). IsPast bytes outcome) is past
past_left text left outcome (long one other) past = ap (option_map limit_passed) (other ∙ sym one) ∙ past

due_left : (text left : List ℕ) (outcome : RunOutcome) → Comparison text left → outcome ≡ due text → outcome ≡ due left
due_left text left outcome (same is) past = past ∙ ap due is
due_left text left outcome (long one other) past =
    past ∙ due_passes text (limit_passed limit.Script) (ap (option_map limit_passed) one) ∙ sym (due_passes left (limit_passed limit.Script) (ap (option_map limit_passed) other))

pub memory_is_taken_in_order : MemoryIsTakenInOrder
memory_is_taken_in_order before left after left_after whole = record {
  reports = λ old new at. subst (λ (bytes : List ℕ). IsReported bytes old new) (all before left after left_after at.text whole at.took) at.reported;
  begins = λ old new at. subst (λ (bytes : List ℕ). IsBegun bytes old new) (all before left after left_after at.text whole at.took) at.begun;
  no_script = λ outcome at. subst (λ (bytes : List ℕ). IsNoScript bytes outcome) (all before left after left_after at.text whole at.took) at.none;
  passes = λ outcome at. past_left at.text left outcome (compared before left after left_after at.text whole at.took) at.past;
  answers = λ outcome at. due_left at.text left outcome (compared before left after left_after at.text whole at.took) at.due;
}
