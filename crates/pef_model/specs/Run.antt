-- Which histories a script can give, and the one that its serial run gives.
use Rattle.std.specs.Prelude.{◌≡◌, ℕ, zero, suc, ◌+◌, ◌≤◌, ◌==◌, nat_lt, Bool, true, false, not, ◌||◌, if◌then◌else◌, List, [], ◌∷◌, length, reverse, Option, Some, None, option_map, slice_get}
use Rattle.std.specs.List.{filter, filter_map, AllByRecursion}
use Rattle.pef_model.specs.declared.state.Ctx.{Ctx}
use Rattle.pef_model.specs.declared.state.Ctx.TheVariants as ctx
use Rattle.pef_model.specs.declared.command.Directive.{Directive}
use Rattle.pef_model.specs.declared.command.Directive.TheVariants.{Once, GoAll}
use Rattle.pef_model.specs.declared.command.Cmd.{Cmd}
use Rattle.pef_model.specs.declared.command.Cmd.TheVariants.{Go}
use Rattle.pef_model.specs.declared.entry.Answer.{Answer}
use Rattle.pef_model.specs.declared.entry.Answer.TheVariants as answer
use Rattle.pef_model.specs.Plan.{Plan, plan_of}
use Rattle.pef_model.specs.Event.{Event, Mark}
use Rattle.pef_model.specs.Target.{touches_cpu}
use Rattle.pef_model.specs.History.{IsLegal, next_entry}
use Rattle.pef_model.specs.Script.{Line, Script, first_command}

-- whether a line is one of a CPU
abbrev pub is_line_of : ℕ → Line → Bool
is_line_of n line = line.cpu == n

-- how many entries of a CPU a history has
abbrev pub entries_of : ℕ → List Event → ℕ
entries_of n past = length (filter (touches_cpu n) past)

-- whether a call is in progress
abbrev pub is_in_progress : Ctx → Bool
is_in_progress ctx.Hv = false
is_in_progress (ctx.Uv work) = true
is_in_progress (ctx.Guest run) = false

-- whether nothing can be done at present, or no step of the call is here yet
abbrev pub is_again : Answer → Bool
is_again answer.Again = true
is_again answer.Context = true
is_again a = false

-- whether go* ends with an entry: no call is in progress after it, or nothing can be done at present
abbrev pub ends_go : Event → Bool
ends_go e = not (is_in_progress e.saw.after) || is_again e.trace.answer

-- an entry of `go` with which go* doesn't end
pub record GoesOn (e : Event) : Type 0 where
  pub cmd : e.trace.cmd ≡ Go
  pub goes_on : ends_go e ≡ false

-- a step that a script gives: its line's number, and its command
pub record NextStep : Type 0 where
  pub line : ℕ
  pub cmd : Cmd

-- the step of an entry
abbrev pub step_of : Event → NextStep
step_of e = record { line = e.trace.line; cmd = e.trace.cmd }

-- the command that a directive gives after an entry of it; None where it is done
abbrev pub command_after : Directive → Event → Option Cmd
command_after (Once cmd) e = None
command_after GoAll e = if ends_go e then None else Some Go

-- the command that a line gives after its CPU's entries: its first after one of an earlier line, one more after one of its own; None where it is done
abbrev pub command_at : List Event → Line → Option Cmd
command_at [] line = Some (first_command line.directive)
command_at (e ∷ earlier) line =
    if nat_lt e.trace.line line.number then Some (first_command line.directive)
    else if e.trace.line == line.number then command_after line.directive e
    else None

-- the step that a line gives after its CPU's entries
abbrev pub step_at : List Event → Line → Option NextStep
step_at own line = option_map (λ (cmd : Cmd). record { line = line.number; cmd = cmd }) (command_at own line)

-- the step that a script gives a CPU after a history: the first that the CPU's lines give after its entries; None where all are done
abbrev pub next_of : Script → List Event → ℕ → Option NextStep
next_of script past n = slice_get (filter_map (step_at (filter (touches_cpu n) past)) (filter (is_line_of n) script.lines)) 0

-- an entry is the next of its CPU: the script gives its step, and its place is the number of its CPU's entries before it
pub record IsNext (script : Script) (past : List Event) (e : Event) : Type 0 where
  pub step : next_of script past e.trace.cpu ≡ Some (step_of e)
  pub place : e.trace.place ≡ entries_of e.trace.cpu past

-- a history is a part of a schedule: each entry is the next of its CPU
abbrev pub IsPart : Script → List Event → Type 0
IsPart script [] = Unit {0}
IsPart script (e ∷ past) = IsNext script past e × IsPart script past

-- the line numbers never fall from older to newer entries
abbrev pub NeverFall : List Event → Type 0
NeverFall [] = Unit {0}
NeverFall (e ∷ past) = AllByRecursion (λ (earlier : Event). earlier.trace.line ≤ e.trace.line) past × NeverFall past

-- each entry's stamp is its number from 1
abbrev pub IsStamped : List Event → Type 0
IsStamped [] = Unit {0}
IsStamped (e ∷ past) = (e.trace.stamp ≡ length past + 1) × IsStamped past

-- a history is a schedule: a part of one, after which no CPU has a next step
pub record IsScheduled (script : Script) (past : List Event) : Type 0 where
  pub part : IsPart script past
  pub ended : (n : ℕ) → next_of script past n ≡ None

-- a schedule that does the lines in their order
pub record IsSerial (script : Script) (past : List Event) : Type 0 where
  pub scheduled : IsScheduled script past
  pub order : NeverFall past
  pub stamped : IsStamped past

-- a history is a run of a script: each entry extends those before it, and the lines are done in their order
pub record IsRun (script : Script) (past : List Event) : Type 0 where
  pub legal : IsLegal (plan_of script.config) past
  pub serial : IsSerial script past

-- the mark of a line's entry that is made after a history
abbrev pub mark_after : List Event → Line → Mark
mark_after past line = record { line = line.number; cpu = line.cpu; place = entries_of line.cpu past; stamp = length past + 1 }

-- a line's entry of a command that is done after a history
abbrev pub entry_after : Plan → List Event → Line → Cmd → Event
entry_after plan past line cmd = next_entry plan past (mark_after past line) cmd

-- a history with a line's entries of `go`, up to the first with which go* ends, but at most so many
abbrev pub with_gos : Plan → ℕ → List Event → Line → List Event
with_gos plan zero past line = past
with_gos plan (suc most) past line =
    if ends_go (entry_after plan past line Go) then entry_after plan past line Go ∷ past else with_gos plan most (entry_after plan past line Go ∷ past) line

-- no go* makes more entries than this
abbrev pub most_gos : Plan → ℕ
most_gos plan = plan.pages + 4

-- a history with the entries of a directive of a line
abbrev pub with_directive : Plan → List Event → Line → Directive → List Event
with_directive plan past line (Once cmd) = entry_after plan past line cmd ∷ past
with_directive plan past line GoAll = with_gos plan (most_gos plan) past line

-- the history of lines, of which the last one stands first
abbrev pub run_after : Plan → List Line → List Event
run_after plan [] = []
run_after plan (line ∷ earlier) = with_directive plan (run_after plan earlier) line line.directive

-- the serial run of a script
abbrev pub run_of : Script → List Event
run_of script = run_after (plan_of script.config) (reverse script.lines)
