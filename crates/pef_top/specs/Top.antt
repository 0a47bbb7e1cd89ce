-- What a top call did, by the bytes that it took from its source and gave to its sink.
use Rattle.std.specs.Prelude.{◌≡◌, ◌≢◌, ℕ, ◌≤◌, List, length, Option, Some, None, option_map}
use Rattle.pef_model.specs.Script.{Script}
use Rattle.pef_script.specs.declared.fault.ScriptFault.{ScriptFault}
use Rattle.pef_script.specs.Script.{line_fault, script_of}
use Rattle.pef_top.specs.declared.limits.Limit.{Limit}
use Rattle.pef_top.specs.declared.outcome.TheConstants.{SCRIPT_LIMIT}
use Rattle.pef_top.specs.declared.outcome.RunOutcome.{RunOutcome}
use Rattle.pef_top.specs.Input.{Took, TookAll}
use Rattle.pef_top.specs.Limits.{limit_in}
use Rattle.pef_top.specs.Outcome.{plain, script_fault, limit_passed}
use Rattle.pef_top.specs.Text.{WroteReport, WroteReportPart}

-- the report of the script that a text is was written whole, or, where its run has a digest collision, at least the lines before the first
abbrev pub WritesReport : Option Script → List ℕ → List ℕ → Type 0
WritesReport None old new = ⊥
WritesReport (Some script) old new = WroteReport script old new

-- a text passes no limit, is a script, and its report was written in this sense
pub record IsReported (text old new : List ℕ) : Type 0 where
  pub limit : limit_in text ≡ None
  pub report : WritesReport (script_of text) old new

-- a call took a whole text, and that holds of it
pub record Reports (ended : Type 0) (before after old new : List ℕ) : Type 0 where
  pub text : List ℕ
  pub took : TookAll ended before after text
  pub reported : IsReported text old new

-- a first part of the report of the script that a text is was written, or, where its run has a digest collision, a first part of the lines before the first, or these and more
abbrev pub BeginsReport : Option Script → List ℕ → List ℕ → Type 0
BeginsReport None old new = ⊥
BeginsReport (Some script) old new = WroteReportPart script old new

-- a text passes no limit, is a script, and a first part of its report was written in this sense
pub record IsBegun (text old new : List ℕ) : Type 0 where
  pub limit : limit_in text ≡ None
  pub report : BeginsReport (script_of text) old new

-- a call took a whole text, and that holds of it
pub record Begins (ended : Type 0) (before after old new : List ℕ) : Type 0 where
  pub text : List ℕ
  pub took : TookAll ended before after text
  pub begun : IsBegun text old new

-- the outcome of a fault of a script
abbrev pub told_fault : ScriptFault → RunOutcome
told_fault f = script_fault f.line

-- a text within limit 1 is no script, and its first faulty line is the one that the outcome says
pub record IsNoScript (text : List ℕ) (outcome : RunOutcome) : Type 0 where
  pub limit : length text ≤ SCRIPT_LIMIT
  pub fault : option_map told_fault (line_fault text) ≡ Some outcome

-- a call took a whole text, and that holds of it
pub record TookNoScript (ended : Type 0) (before after : List ℕ) (outcome : RunOutcome) : Type 0 where
  pub text : List ℕ
  pub took : TookAll ended before after text
  pub none : IsNoScript text outcome

-- a device's bytes and its count of faults are as before
pub record IsUntouched (old new : List ℕ) (before now : ℕ) : Type 0 where
  pub bytes : new ≡ old
  pub faults : now ≡ before

-- a text passes a limit, and the first that it passes is the one that the outcome says
abbrev pub IsPast : List ℕ → RunOutcome → Type 0
IsPast text outcome = option_map limit_passed (limit_in text) ≡ Some outcome

-- a call took a text, and that holds of it
pub record Passes (ended : Type 0) (before after : List ℕ) (outcome : RunOutcome) : Type 0 where
  pub text : List ℕ
  pub took : Took ended before after text
  pub past : IsPast text outcome

-- the outcome of the first limit that an input passes, of its first faulty line where it passes none, and else of a script
abbrev pub outcome_by : Option Limit → Option ScriptFault → RunOutcome
outcome_by (Some passed) fault = limit_passed passed
outcome_by None (Some fault) = told_fault fault
outcome_by None None = plain 0

-- the outcome that is due for an input, unless memory is wanting or a device fails
abbrev pub due : List ℕ → RunOutcome
due text = outcome_by (limit_in text) (line_fault text)

-- a call took a text, and its outcome is the one that is due for it
pub record Answers (ended : Type 0) (before after : List ℕ) (outcome : RunOutcome) : Type 0 where
  pub text : List ℕ
  pub took : Took ended before after text
  pub due : outcome ≡ due text

-- that holds unless memory was wanting
abbrev pub AnswersAsDue : Type 0 → List ℕ → List ℕ → RunOutcome → Type 0
AnswersAsDue ended before after outcome = outcome.status ≢ 5 → Answers ended before after outcome
