-- The lines of a script, and the step that they give a CPU next.
use Rattle.std.proofs.Common.{◌≡◌, ℕ, List, [], ◌∷◌, Bool, true, false, cond, refl, ap, sym, ◌∙◌, ◌<◌, ◌+◌, ◌==◌, get_or, map, reverse, suc, subst, arith}
use Rattle.std.specs.Prelude.{Option, Some, None, slice_get, option_map, unwrap_or}
use Rattle.std.specs.List.{filter, filter_map, cons_option, AllByRecursion}
use Rattle.pef_model.specs.declared.command.Cmd.{Cmd}
use Rattle.pef_model.specs.Event.{Event}
use Rattle.pef_model.specs.Target.{touches_cpu}
use Rattle.pef_model.specs.Script.{Line, Script}
use Rattle.pef_model.specs.Run.{is_line_of, NextStep, command_at, step_at, next_of}
use Rattle.pef_model.proofs.Folds.{same_test, test_same, keeps, leaves}
use mathlib.Core.List.{reverse_aux}
use Rattle.std.specs.List.Sorted.{IsStrictlyIncreasing}
use Rattle.std.proofs.lemmas.Bool.{ne_eqb}
use Rattle.pef_model.proofs.Lists.{all_give, both_give}

-- each of the lines has a number below this one
abbrev pub AreBelow : ℕ → List Line → Type 0
AreBelow n lines = AllByRecursion (λ (line : Line). line.number < n) lines

-- the numbers of lines fall strictly
abbrev pub Fall : List Line → Type 0
Fall [] = Unit {0}
Fall (line ∷ earlier) = AreBelow line.number earlier × Fall earlier

tail_rises : (n : ℕ) (ns : List ℕ) → IsStrictlyIncreasing (n ∷ ns) → IsStrictlyIncreasing ns
tail_rises n ns rises k h =
    let next : suc k + 1 ≡ suc (k + 1) = omega arith in
    subst (λ (m : ℕ). get_or (n ∷ ns) (suc k) 0 < get_or (n ∷ ns) m 0) next (rises (suc k) (omega (arith, h)))

fall_onto : (line : Line) (later earlier : List Line) → IsStrictlyIncreasing (map (λ (l : Line). l.number) (line ∷ later)) → AreBelow line.number earlier → Fall earlier →
    Fall (reverse_aux later (line ∷ earlier))
fall_onto line [] earlier rises below fall = (below, fall)
fall_onto line (next ∷ later) earlier rises below fall =
    let less : line.number < next.number = rises 0 (omega arith) in
    fall_onto next later (line ∷ earlier) (tail_rises line.number (map (λ (l : Line). l.number) (next ∷ later)) rises) (less, all_give (λ (l : Line). l.number < line.number) (λ (l : Line). l.number < next.number) earlier (λ l h. omega (arith, h, less)) below) (below, fall)

-- lines whose numbers rise strictly fall from the last one on
pub reverse_falls : (lines : List Line) → IsStrictlyIncreasing (map (λ (l : Line). l.number) lines) → Fall (reverse lines)
reverse_falls [] rises = tt
reverse_falls (line ∷ later) rises = fall_onto line later [] rises tt tt

-- what holds of each line of a list holds of each of both parts, of which the first stands the other way round
pub all_back : (P : Line → Type 0) (xs ys : List Line) → AllByRecursion P (reverse_aux xs ys) → AllByRecursion P xs × AllByRecursion P ys
all_back P [] ys all = (tt, all)
all_back P (x ∷ xs) ys all =
    let others = all_back P xs (x ∷ ys) all in
    ((others.1.0, others.0), others.1.1)

-- each of the lines is one of the CPU that a function gives for its number
abbrev pub OnCpus : (ℕ → ℕ) → List Line → Type 0
OnCpus cpu_of lines = AllByRecursion (λ (line : Line). cpu_of line.number ≡ line.cpu) lines

-- the CPU of the line of a number
abbrev pub cpu_at : List Line → ℕ → ℕ
cpu_at [] number = 0
cpu_at (line ∷ earlier) number = cond (line.number == number) line.cpu (cpu_at earlier number)

pub cpus_are_own : (lines : List Line) → Fall lines → OnCpus (cpu_at lines) lines
cpus_are_own [] fall = tt
cpus_are_own (line ∷ earlier) fall = (
  ap (λ (b : Bool). cond b line.cpu (cpu_at earlier line.number)) (same_test line.number),
  both_give (λ (l : Line). l.number < line.number) (λ (l : Line). cpu_at earlier l.number ≡ l.cpu) (λ (l : Line). cpu_at (line ∷ earlier) l.number ≡ l.cpu) earlier
      (λ l less own. ap (λ (b : Bool). cond b line.cpu (cpu_at earlier l.number)) (ne_eqb line.number l.number (λ same. absurd (omega (arith, same, less)))) ∙ own) fall.0 (cpus_are_own earlier fall.1),
)

-- the entries of a CPU
abbrev pub own_past : ℕ → List Event → List Event
own_past n past = filter (touches_cpu n) past

-- the steps that the lines of a CPU give after its entries
abbrev steps_of : List Event → ℕ → List Line → List NextStep
steps_of own n lines = filter_map (step_at own) (filter (is_line_of n) lines)

pub some_same : {s t : NextStep} → Some s ≡ Some t → s ≡ t
some_same {s} same = ap (λ (given : Option NextStep). unwrap_or given s) same

first_is_own : (cpu_of : ℕ → ℕ) (own : List Event) (n : ℕ) (s : NextStep) (lines : List Line) → OnCpus cpu_of lines → slice_get (steps_of own n lines) 0 ≡ Some s → cpu_of s.line ≡ n
first_is_own cpu_of own n s [] on first = absurd (let none : None ≡ Some s = first in cc)
first_is_own cpu_of own n s (line ∷ more) on first = by_test (first_is_own cpu_of own n s more on.1) (is_line_of n line) refl first where
  by_step : (slice_get (steps_of own n more) 0 ≡ Some s → cpu_of s.line ≡ n) → line.cpu ≡ n → (given : Option Cmd) →
      slice_get (cons_option (option_map (λ (cmd : Cmd). record { line = line.number; cmd = cmd }) given) (steps_of own n more)) 0 ≡ Some s → cpu_of s.line ≡ n
  by_step later is (Some cmd) first = ap (λ (t : NextStep). cpu_of t.line) (sym (some_same first)) ∙ on.0 ∙ is
  by_step later is None first = later first

  by_test : (slice_get (steps_of own n more) 0 ≡ Some s → cpu_of s.line ≡ n) → (b : Bool) → is_line_of n line ≡ b →
      slice_get (filter_map (step_at own) (cond b (line ∷ filter (is_line_of n) more) (filter (is_line_of n) more))) 0 ≡ Some s → cpu_of s.line ≡ n
  by_test later true is first = by_step later (test_same line.cpu n is) (command_at own line) first
  by_test later false is first = later first

-- the next step of a CPU is one of a line of it
pub step_is_own : (cpu_of : ℕ → ℕ) (script : Script) (past : List Event) (n : ℕ) (s : NextStep) → OnCpus cpu_of script.lines → next_of script past n ≡ Some s → cpu_of s.line ≡ n
step_is_own cpu_of script past n s on first = first_is_own cpu_of (own_past n past) n s script.lines on first

-- an entry of another CPU changes nothing
pub next_stays : (script : Script) (past : List Event) (e : Event) (n : ℕ) → touches_cpu n e ≡ false → next_of script (e ∷ past) n ≡ next_of script past n
next_stays script past e n other = ap (λ (own : List Event). slice_get (steps_of own n script.lines) 0) (leaves (touches_cpu n) e past other)

-- each of the lines is done: it gives nothing more
abbrev pub AreDone : List Event → List Line → Type 0
AreDone past lines = AllByRecursion (λ (line : Line). command_at (own_past line.cpu past) line ≡ None) lines

-- a CPU's steps are those of the lines behind the lines that are done
steps_behind : (past : List Event) (n : ℕ) (earlier later : List Line) → AreDone past earlier → steps_of (own_past n past) n (reverse_aux earlier later) ≡ steps_of (own_past n past) n later
steps_behind past n [] later done = refl
steps_behind past n (line ∷ earlier) later done = steps_behind past n earlier (line ∷ later) done.1 ∙ by_test (is_line_of n line) refl where
  by_test : (b : Bool) → is_line_of n line ≡ b →
      filter_map (step_at (own_past n past)) (cond b (line ∷ filter (is_line_of n) later) (filter (is_line_of n) later)) ≡ steps_of (own_past n past) n later
  by_test true own = ap (λ (given : Option Cmd). cons_option (option_map (λ (cmd : Cmd). record { line = line.number; cmd = cmd }) given) (steps_of (own_past n past) n later))
      (ap (λ (cpu : ℕ). command_at (own_past cpu past) line) (sym (test_same line.cpu n own)) ∙ done.0)
  by_test false own = refl

-- where all are done there is none
pub none_is_next : (script : Script) (past : List Event) (lines : List Line) (n : ℕ) → script.lines ≡ reverse_aux lines [] → AreDone past lines → next_of script past n ≡ None
none_is_next script past lines n is done =
    ap (λ (ls : List Line). slice_get (steps_of (own_past n past) n ls) 0) is ∙ ap (λ (steps : List NextStep). slice_get steps 0) (steps_behind past n lines [] done)

-- else it is that of the first line that isn't
pub next_is : (script : Script) (past : List Event) (earlier : List Line) (line : Line) (later : List Line) (cmd : Cmd) → script.lines ≡ reverse_aux earlier (line ∷ later) → AreDone past earlier →
    command_at (own_past line.cpu past) line ≡ Some cmd → next_of script past line.cpu ≡ Some (record { line = line.number; cmd = cmd })
next_is script past earlier line later cmd is done gives =
    let own : List Event = own_past line.cpu past in
    ap (λ (lines : List Line). slice_get (steps_of own line.cpu lines) 0) is
    ∙ ap (λ (steps : List NextStep). slice_get steps 0) (steps_behind past line.cpu earlier (line ∷ later) done)
    ∙ ap (λ (lines : List Line). slice_get (filter_map (step_at own) lines) 0) (keeps (is_line_of line.cpu) line later (same_test line.cpu))
    ∙ ap (λ (given : Option Cmd). slice_get (cons_option (option_map (λ (c : Cmd). record { line = line.number; cmd = c }) given) (steps_of own line.cpu later)) 0) gives
