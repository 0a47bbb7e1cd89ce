-- Two runs of a script are the same: only one entry can come next.
use Rattle.std.proofs.Common.{◌≡◌, ℕ, ◌+◌, ◌≤◌, List, [], ◌∷◌, length, reverse, Bool, true, false, refl, ap, sym, subst, ◌∙◌, arith}
use Rattle.std.specs.Prelude.{Some, None}
use Rattle.std.specs.List.{AllByRecursion}
use Rattle.pef_model.specs.Plan.{Plan}
use Rattle.pef_model.specs.Event.{Event, Mark, mark_of}
use Rattle.pef_model.specs.Target.{touches_cpu}
use Rattle.pef_model.specs.History.{Extends, IsLegal, next_entry}
use Rattle.pef_model.specs.Script.{Script}
use Rattle.pef_model.specs.Run.{entries_of, NextStep, step_of, next_of, IsNext, IsPart, NeverFall, IsStamped}
use Rattle.pef_model.proofs.Folds.{test_same}
use Rattle.pef_model.proofs.NextSteps.{OnCpus, some_same, step_is_own, next_stays}
use Rattle.std.proofs.lemmas.List.{reverse-reverse}
use mathlib.Core.List.{reverse_aux}

-- a history that can be a part of a run
pub record IsRunPart (plan : Plan) (script : Script) (past : List Event) : Type 0 where
  pub legal : IsLegal plan past
  pub part : IsPart script past
  pub order : NeverFall past
  pub stamped : IsStamped past

-- no CPU has a next step
abbrev HasEnded : Script → List Event → Type 0
HasEnded script past = (n : ℕ) → next_of script past n ≡ None

ended_gives : (script : Script) (past : List Event) → HasEnded script past → (n : ℕ) (s : NextStep) → next_of script past n ≡ Some s → ⊥
ended_gives script past ended n s is = let none : None ≡ Some s = sym (ended n) ∙ is in absurd (cc)

-- an entry follows a history in a run: it is the next of its CPU, and no CPU has a step of an earlier line
record Follows (plan : Plan) (script : Script) (past : List Event) (e : Event) : Type 0 where
  extends : Extends plan past e
  next : IsNext script past e
  stamp : e.trace.stamp ≡ length past + 1
  least : (n : ℕ) (s : NextStep) → next_of script past n ≡ Some s → e.trace.line ≤ s.line

-- only one does
one_follows : (cpu_of : ℕ → ℕ) (plan : Plan) (script : Script) → OnCpus cpu_of script.lines → (past : List Event) (e f : Event) → Follows plan script past e → Follows plan script past f → e ≡ f
one_follows cpu_of plan script on past e f one other =
    let less : e.trace.line ≤ f.trace.line = one.least f.trace.cpu (step_of f) other.next.step in
    let more : f.trace.line ≤ e.trace.line = other.least e.trace.cpu (step_of e) one.next.step in
    let line : e.trace.line ≡ f.trace.line = omega (arith, less, more) in
    let cpu : e.trace.cpu ≡ f.trace.cpu = sym (step_is_own cpu_of script past e.trace.cpu (step_of e) on one.next.step)
    ∙ ap cpu_of line ∙ step_is_own cpu_of script past f.trace.cpu (step_of f) on other.next.step in
    let step : step_of e ≡ step_of f = some_same (sym one.next.step ∙ ap (next_of script past) cpu ∙ other.next.step) in
    let place : e.trace.place ≡ f.trace.place = one.next.place ∙ ap (λ (n : ℕ). entries_of n past) cpu ∙ sym other.next.place in
    let stamp : e.trace.stamp ≡ f.trace.stamp = one.stamp ∙ sym other.stamp in
    let mark : mark_of e ≡ mark_of f = (λ i. record { line = line i; cpu = cpu i; place = place i; stamp = stamp i }) in
    one.extends.is ∙ ap (λ (m : Mark). next_entry plan past m e.trace.cmd) mark ∙ ap (λ (s : NextStep). next_entry plan past (mark_of f) s.cmd) step ∙ sym other.extends.is

-- entries, the oldest first, follow a history up to its end
abbrev GoOn : Plan → Script → List Event → List Event → Type 0
GoOn plan script past [] = HasEnded script past
GoOn plan script past (e ∷ later) = Follows plan script past e × GoOn plan script (e ∷ past) later

-- and no others do
go_on_same : (cpu_of : ℕ → ℕ) (plan : Plan) (script : Script) → OnCpus cpu_of script.lines → (past xs ys : List Event) → GoOn plan script past xs → GoOn plan script past ys → xs ≡ ys
go_on_same cpu_of plan script on past [] [] one two = refl
go_on_same cpu_of plan script on past [] (f ∷ ys) one two = absurd (ended_gives script past one f.trace.cpu (step_of f) two.0.next.step)
go_on_same cpu_of plan script on past (e ∷ xs) [] one two = absurd (ended_gives script past two e.trace.cpu (step_of e) one.0.next.step)
go_on_same cpu_of plan script on past (e ∷ xs) (f ∷ ys) one two =
    let same : e ≡ f = one_follows cpu_of plan script on past e f one.0 two.0 in
    let later = go_on_same cpu_of plan script on (f ∷ past) xs ys (subst (λ (x : Event). GoOn plan script (x ∷ past) xs) same one.1) two.1 in
    ap (λ (x : Event). x ∷ xs) same ∙ ap (λ (es : List Event). f ∷ es) later

-- no CPU has a step of a line before one that a history has begun
abbrev NoneIsBehind : Script → List Event → Type 0
NoneIsBehind script past = (n : ℕ) (s : NextStep) → next_of script past n ≡ Some s → AllByRecursion (λ (e : Event). e.trace.line ≤ s.line) past

-- where the lines never fall, none was before the newest entry
none_was_behind : (script : Script) (past : List Event) (e : Event) → IsNext script past e → NeverFall (e ∷ past) → NoneIsBehind script (e ∷ past) →
    (n : ℕ) (s : NextStep) → next_of script past n ≡ Some s → AllByRecursion (λ (x : Event). x.trace.line ≤ s.line) (e ∷ past)
none_was_behind script past e next order none n s is = by_test (touches_cpu n e) refl where
  by_test : (b : Bool) → touches_cpu n e ≡ b → AllByRecursion (λ (x : Event). x.trace.line ≤ s.line) (e ∷ past)
  by_test true own =
      let step : step_of e ≡ s = some_same (sym next.step ∙ ap (next_of script past) (test_same e.trace.cpu n own) ∙ is) in
      subst (λ (t : NextStep). AllByRecursion (λ (x : Event). x.trace.line ≤ t.line) (e ∷ past)) step (omega arith, order.0)
  by_test false other = none n s (next_stays script past e n other ∙ is)

part_goes_on : (plan : Plan) (script : Script) (past later : List Event) → IsRunPart plan script past → NoneIsBehind script past → GoOn plan script past later → GoOn plan script [] (reverse_aux past later)
part_goes_on plan script [] later run none on = on
part_goes_on plan script (e ∷ past) later run none on =
    let before = none_was_behind script past e run.part.0 run.order none in
    let next : Follows plan script past e = record { extends = run.legal.0; next = run.part.0; stamp = run.stamped.0; least = λ n s is. (before n s is).0 } in
    part_goes_on plan script past (e ∷ later) (record { legal = run.legal.1; part = run.part.1; order = run.order.1; stamped = run.stamped.1 }) (λ n s is. (before n s is).1) (next, on)

-- two histories that can be parts of a run, and have ended, are the same
pub ended_same : (cpu_of : ℕ → ℕ) (plan : Plan) (script : Script) (past other : List Event) → OnCpus cpu_of script.lines → IsRunPart plan script past → IsRunPart plan script other → HasEnded script past →
    HasEnded script other → past ≡ other
ended_same cpu_of plan script past other on one two ended ended_too =
    let whole = part_goes_on plan script past [] one (λ n s is. absurd (ended_gives script past ended n s is)) ended in
    let other_whole = part_goes_on plan script other [] two (λ n s is. absurd (ended_gives script other ended_too n s is)) ended_too in
    sym (reverse-reverse past) ∙ ap reverse (go_on_same cpu_of plan script on [] (reverse past) (reverse other) whole other_whole) ∙ reverse-reverse other
