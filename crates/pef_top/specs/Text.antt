-- The texts of a report.
use Rattle.std.specs.Prelude.{◌≡◌, ◌⊎◌, ℕ, Bool, true, false, List, ◌++◌, length, reverse}
use Rattle.std.specs.List.{flat_map}
use Rattle.pef_io.specs.Sink.{AppendsPrefix}
use Rattle.pef_model.specs.Event.{Event}
use Rattle.pef_model.specs.Plan.{Plan, plan_of}
use Rattle.pef_model.specs.Sound.{is_clean, sound}
use Rattle.pef_model.specs.Report.{entry_line, frames_below, report}
use Rattle.pef_model.specs.Run.{run_of}
use Rattle.pef_model.specs.Script.{Script}
use Rattle.pef_core.specs.Normal.{frame_at}

-- the lines of the entries of a history, the oldest first
abbrev pub text_of : List Event → List ℕ
text_of past = flat_map entry_line (reverse past)

-- the lines of the entries of a script's run before its first digest collision: of all where there is none
abbrev pub sound_text : Script → List ℕ
sound_text script = text_of (sound (plan_of script.config) (run_of script))

-- a text was appended, and perhaps more behind it
pub record AppendsMore (old new : List ℕ) (text : List ℕ) : Type 0 where
  pub more : List ℕ
  pub bytes : new ≡ old ++ (text ++ more)

-- the lines of a history were written, of a clean one exactly these, and of another at least those before its first digest collision
abbrev pub WroteBy : Bool → Plan → List ℕ → List ℕ → List Event → Type 0
WroteBy true plan start now past = now ≡ start ++ text_of past
WroteBy false plan start now past = AppendsMore start now (text_of (sound plan past))

abbrev pub Wrote : Plan → List ℕ → List ℕ → List Event → Type 0
Wrote plan start now past = WroteBy (is_clean plan past) plan start now past

-- a first part of the lines of a history was written, or, where it has a digest collision, perhaps more than those before the first
abbrev pub WrotePartBy : Bool → Plan → List ℕ → List ℕ → List Event → Type 0
WrotePartBy true plan start now past = AppendsPrefix start now (text_of past)
WrotePartBy false plan start now past = AppendsPrefix start now (text_of (sound plan past)) ⊎ AppendsMore start now (text_of (sound plan past))

abbrev pub WrotePart : Plan → List ℕ → List ℕ → List Event → Type 0
WrotePart plan start now past = WrotePartBy (is_clean plan past) plan start now past

-- where the lines of a history were written, those of a later one were
abbrev pub Writes : Plan → List ℕ → List ℕ → List Event → List Event → Type 0
Writes plan old new past later = (start : List ℕ) → Wrote plan start old past → Wrote plan start new later

-- where the lines of a history were written, a first part of those of a later one was
abbrev pub WritesPart : Plan → List ℕ → List ℕ → List Event → List Event → Type 0
WritesPart plan old new past later = (start : List ℕ) → Wrote plan start old past → WrotePart plan start new later

-- the lines of normal frames that hold these bytes, in order
abbrev pub frames_text : List (List ℕ) → List ℕ
frames_text frames = frames_below (length frames) (frame_at frames)

-- the report of a script's run
abbrev pub report_text : Script → List ℕ
report_text script = report (plan_of script.config) (run_of script)

-- the whole report of a script's run was written; where the run has a digest collision, at least the lines before the first
abbrev pub WroteReportBy : Bool → Script → List ℕ → List ℕ → Type 0
WroteReportBy true script old new = new ≡ old ++ report_text script
WroteReportBy false script old new = AppendsMore old new (sound_text script)

abbrev pub WroteReport : Script → List ℕ → List ℕ → Type 0
WroteReport script old new = WroteReportBy (is_clean (plan_of script.config) (run_of script)) script old new

-- a first part of it was written; where the run has a digest collision, a first part of the lines before the first, or those and more
abbrev pub WroteReportPartBy : Bool → Script → List ℕ → List ℕ → Type 0
WroteReportPartBy true script old new = AppendsPrefix old new (report_text script)
WroteReportPartBy false script old new = AppendsPrefix old new (sound_text script) ⊎ AppendsMore old new (sound_text script)

abbrev pub WroteReportPart : Script → List ℕ → List ℕ → Type 0
WroteReportPart script old new = WroteReportPartBy (is_clean (plan_of script.config) (run_of script)) script old new
