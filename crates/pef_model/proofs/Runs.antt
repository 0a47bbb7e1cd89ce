-- A script has exactly one run.
use Rattle.std.proofs.Common.{◌≡◌, ℕ, zero, suc, ◌+◌, ◌<◌, ◌≤◌, ◌==◌, List, [], ◌∷◌, ◌++◌, reverse, Bool, true, false, cond, refl, ap, sym, subst, ◌∙◌, arith, lt-ltb}
use Rattle.std.specs.Prelude.{Option, Some, None}
use Rattle.std.specs.List.{AllByRecursion}
use Rattle.pef_model.specs.declared.command.Cmd.{Cmd}
use Rattle.pef_model.specs.declared.command.Cmd.TheVariants.{Go}
use Rattle.pef_model.specs.declared.command.Directive.{Directive}
use Rattle.pef_model.specs.declared.command.Directive.TheVariants.{Once, GoAll}
use Rattle.pef_model.specs.Commands.{IsCommand}
use Rattle.pef_model.specs.Plan.{Plan, plan_of}
use Rattle.pef_model.specs.Event.{Event}
use Rattle.pef_model.specs.Target.{touches_cpu}
use Rattle.pef_model.specs.Script.{Line, Script, first_command}
use Rattle.pef_model.specs.Run.{command_after, command_at, entry_after, with_directive, run_after, run_of, next_of}
use Rattle.pef_model.proofs.Folds.{same_test, keeps}
use Rattle.pef_model.proofs.Lists.{all_give, both_give, all_kept}
use Rattle.std.proofs.lemmas.Bool.{ne_eqb, le-ltb}
use Rattle.std.proofs.lemmas.List.{reverse-reverse}
use mathlib.Core.List.{reverse_aux}
use Rattle.pef_model.specs.RunLaw.{OneRun}
use Rattle.pef_model.proofs.GoAll.{ctx_at, gos_left, gos, gos_block, gos_is, gos_go_on, further, last, most_gos_is}
use Rattle.pef_model.proofs.NextSteps.{AreBelow, Fall, reverse_falls, all_back, OnCpus, cpu_at, cpus_are_own, own_past, AreDone, none_is_next, next_is}
use Rattle.pef_model.proofs.OneNext.{IsRunPart, ended_same}

-- a history with the entries of a directive of a line begins with it
pub record IsDone (plan : Plan) (past : List Event) (line : Line) (directive : Directive) : Type 0 where
  pub block : List Event
  pub is : with_directive plan past line directive ≡ block ++ past

pub done : (plan : Plan) (past : List Event) (line : Line) (directive : Directive) → IsDone plan past line directive
done plan past line (Once cmd) = record { block = entry_after plan past line cmd ∷ []; is = refl }
done plan past line GoAll =
    let n : ℕ = suc (gos_left (ctx_at plan past line)) in
    record { block = gos_block plan n past line; is = most_gos_is plan past line ∙ gos_is plan n past line }

-- a history of some lines, of which the last one stands first, or a part of it
record IsRunOf (plan : Plan) (script : Script) (lines : List Line) (past : List Event) : Type 0 where
  part : IsRunPart plan script past
  below : (n : ℕ) → AreBelow n lines → AllByRecursion (λ (e : Event). e.trace.line < n) past
  done : AreDone past lines

-- where a script has a line: behind the earlier ones, which have lower numbers
record IsLineOf (plan : Plan) (script : Script) (line : Line) : Type 0 where
  earlier : List Line
  later : List Line
  is : script.lines ≡ reverse_aux earlier (line ∷ later)
  cpu : line.cpu < plan.cpus
  command : IsCommand (first_command line.directive)
  falls : AreBelow line.number earlier

-- a history of the earlier lines and entries of a line, which gives this command next
record IsAt {plan : Plan} {script : Script} {line : Line} (of : IsLineOf plan script line) (past : List Event) (given : Option Cmd) : Type 0 where
  part : IsRunPart plan script past
  upto : AllByRecursion (λ (e : Event). e.trace.line ≤ line.number) past
  done : AreDone past of.earlier
  gives : command_at (own_past line.cpu past) line ≡ given

-- a line that is done stays so
stays_done : (past : List Event) (e : Event) (l : Line) → l.number < e.trace.line → command_at (own_past l.cpu past) l ≡ None → command_at (own_past l.cpu (e ∷ past)) l ≡ None
stays_done past e l less none = by_test (touches_cpu l.cpu e) where
  by_test : (b : Bool) → command_at (cond b (e ∷ own_past l.cpu past) (own_past l.cpu past)) l ≡ None
  by_test true = rw (le-ltb e.trace.line l.number (omega (arith, less)), ne_eqb e.trace.line l.number (λ same. absurd (omega (arith, same, less)))) refl
  by_test false = none

-- after an entry of its own a line gives one more or none
gives_after : (past : List Event) (e : Event) (line : Line) → e.trace.line ≡ line.number → e.trace.cpu ≡ line.cpu → command_at (own_past line.cpu (e ∷ past)) line ≡ command_after line.directive e
gives_after past e line number cpu =
    ap (λ (own : List Event). command_at own line) (keeps (touches_cpu line.cpu) e past (ap (λ (n : ℕ). n == line.cpu) cpu ∙ same_test line.cpu))
    ∙ rw (le-ltb e.trace.line line.number (omega (arith, number)), number, same_test line.number) refl

-- the line's entry makes it longer
one_more : {plan : Plan} {script : Script} {line : Line} (of : IsLineOf plan script line) (past : List Event) (cmd : Cmd) → IsCommand cmd → IsAt of past (Some cmd) →
    IsAt of (entry_after plan past line cmd ∷ past) (command_after line.directive (entry_after plan past line cmd))
one_more {plan = plan} {script = script} {line = line} of past cmd command at =
    let e : Event = entry_after plan past line cmd in
    record {
      part = record {
        legal = (record { cpu = of.cpu; command = command; is = refl }, at.part.legal);
        part = (record { step = next_is script past of.earlier line of.later cmd of.is at.done at.gives; place = refl }, at.part.part);
        order = (at.upto, at.part.order);
        stamped = (refl, at.part.stamped);
      };
      upto = (omega arith, at.upto);
      done = both_give (λ (l : Line). l.number < line.number) (λ (l : Line). command_at (own_past l.cpu past) l ≡ None) (λ (l : Line). command_at (own_past l.cpu (e ∷ past)) l ≡ None) of.earlier
          (λ l less none. stays_done past e l less none) of.falls at.done;
      gives = gives_after past e line refl refl;
    }

-- so do those of `go` that are left
gos_more : {plan : Plan} {script : Script} {line : Line} (of : IsLineOf plan script line) (past : List Event) (n m : ℕ) → line.directive ≡ GoAll → gos_left (ctx_at plan past line) ≡ n + m →
    IsAt of past (Some Go) → IsAt of (gos plan n past line) (Some Go)
gos_more of past zero m all left at = at
gos_more {plan = plan} {line = line} of past (suc n) m all left at =
    let before : List Event = gos plan n past line in
    let next = further plan before line m (gos_go_on plan n (suc m) past line (omega (arith, left))).1 in
    subst (IsAt of (gos plan (suc n) past line)) (ap (λ (d : Directive). command_after d (entry_after plan before line Go)) all ∙ ap (λ (ends : Bool). cond ends None (Some Go)) next.0.goes_on)
    (one_more of before Go tt (gos_more of past n (suc m) all (omega (arith, left)) at))

-- and those of a directive, after which the line is done
directive_more : {plan : Plan} {script : Script} {line : Line} (of : IsLineOf plan script line) (past : List Event) (directive : Directive) → line.directive ≡ directive →
    IsAt of past (Some (first_command directive)) → IsAt of (with_directive plan past line directive) None
directive_more {plan = plan} {line = line} of past (Once cmd) is at =
    subst (IsAt of (entry_after plan past line cmd ∷ past)) (ap (λ (d : Directive). command_after d (entry_after plan past line cmd)) is)
    (one_more of past cmd (subst (λ (d : Directive). IsCommand (first_command d)) is of.command) at)
directive_more {plan = plan} {line = line} of past GoAll is at =
    let n : ℕ = gos_left (ctx_at plan past line) in
    let before : List Event = gos plan n past line in
    let ends = last plan before line (gos_go_on plan n 0 past line (omega arith)).1 in
    subst (λ (xs : List Event). IsAt of xs None) (sym (most_gos_is plan past line))
    (subst (IsAt of (gos plan (suc n) past line)) (ap (λ (d : Directive). command_after d (entry_after plan before line Go)) is ∙ ap (λ (b : Bool). cond b None (Some Go)) ends)
    (one_more of before Go tt (gos_more of past n 0 is (omega arith) at)))

-- a line gives its first command after entries of earlier lines
gives_first : (own : List Event) (line : Line) → AllByRecursion (λ (e : Event). e.trace.line < line.number) own → command_at own line ≡ Some (first_command line.directive)
gives_first [] line below = refl
gives_first (e ∷ earlier) line below = rw (lt-ltb e.trace.line line.number below.0) refl

run_is : (plan : Plan) (script : Script) (lines later : List Line) → script.lines ≡ reverse_aux lines later → AllByRecursion (λ (line : Line). line.cpu < plan.cpus) script.lines →
    AllByRecursion (λ (line : Line). IsCommand (first_command line.directive)) script.lines → Fall lines →
    IsRunOf plan script lines (run_after plan lines)
run_is plan script [] later is on commands fall = record { part = record { legal = tt; part = tt; order = tt; stamped = tt }; below = λ n lines. tt; done = tt }
run_is plan script (line ∷ earlier) later is on commands fall =
    let past : List Event = run_after plan earlier in
    let before : IsRunOf plan script earlier past = run_is plan script earlier (line ∷ later) is on commands fall.1 in
    let below = before.below line.number fall.0 in
    let cpu = (all_back (λ (l : Line). l.cpu < plan.cpus) earlier (line ∷ later) (subst (AllByRecursion (λ (l : Line). l.cpu < plan.cpus)) is on)).1.0 in
    let command = (all_back (λ (l : Line). IsCommand (first_command l.directive)) earlier (line ∷ later) (subst (AllByRecursion (λ (l : Line). IsCommand (first_command l.directive))) is commands)).1.0 in
    let of : IsLineOf plan script line = record { earlier = earlier; later = later; is = is; cpu = cpu; command = command; falls = fall.0 } in
    let after : IsAt of (with_directive plan past line line.directive) None = directive_more of past line.directive refl (record {
      part = before.part;
      upto = all_give (λ (e : Event). e.trace.line < line.number) (λ (e : Event). e.trace.line ≤ line.number) past (λ e less. omega (arith, less)) below;
      done = before.done;
      gives = gives_first (own_past line.cpu past) line (all_kept (λ (e : Event). e.trace.line < line.number) (touches_cpu line.cpu) past below);
    }) in
    record {
      part = after.part;
      below = λ n lines. all_give (λ (e : Event). e.trace.line ≤ line.number) (λ (e : Event). e.trace.line < n) (with_directive plan past line line.directive) (λ e less. omega (arith, less, lines.0)) after.upto;
      done = (after.gives, after.done);
    }

pub one_run : OneRun
one_run script is =
    let plan = plan_of script.config in
    let lines = reverse script.lines in
    let back : script.lines ≡ reverse_aux lines [] = sym (reverse-reverse script.lines) in
    let fall : Fall lines = reverse_falls script.lines is.rises in
    let on : OnCpus (cpu_at lines) script.lines = (all_back (λ (line : Line). cpu_at lines line.number ≡ line.cpu) script.lines [] (cpus_are_own lines fall)).0 in
    let run : IsRunOf plan script lines (run_of script) = run_is plan script lines [] back is.cpus is.commands fall in
    let ended : (n : ℕ) → next_of script (run_of script) n ≡ None = (λ n. none_is_next script (run_of script) lines n back run.done) in
    record {
      holds = record { legal = run.part.legal; serial = record { scheduled = record { part = run.part.part; ended = ended }; order = run.part.order; stamped = run.part.stamped } };
      only = λ other r. ended_same (cpu_at lines) plan script other (run_of script) on
          (record { legal = r.legal; part = r.serial.scheduled.part; order = r.serial.order; stamped = r.serial.stamped }) run.part r.serial.scheduled.ended ended;
    }
