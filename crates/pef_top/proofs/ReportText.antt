-- The text of a whole report, up to the run's first digest collision.
use Rattle.std.proofs.Common.{◌≡◌, ℕ, Bool, true, false, List, ◌++◌, take, inr, refl, ap, sym, subst, ◌∙◌, append_assoc}
use Rattle.pef_io.specs.Sink.{AppendsPrefix}
use Rattle.pef_io.proofs.SinkLemmas.{AppendsPrefix-append, AppendsPrefix-after}
use Rattle.pef_model.specs.Event.{Event}
use Rattle.pef_model.specs.History.{pool_after}
use Rattle.pef_model.specs.Plan.{Plan, plan_of}
use Rattle.pef_model.specs.Report.{free_text}
use Rattle.pef_model.specs.Run.{run_of}
use Rattle.pef_model.specs.Script.{Script}
use Rattle.pef_model.specs.Sound.{is_clean}
use Rattle.pef_top.specs.Text.{text_of, Wrote, WrotePart, WroteReportBy, WroteReport, WroteReportPartBy, WroteReportPart}
use Rattle.pef_top.proofs.FramesText.{frames_after}
use Rattle.pef_top.proofs.Wrote.{wrote_is, part_is, wrote_more}

-- what a report has behind the lines of the entries
abbrev pub report_end : Plan → List Event → List ℕ
report_end plan past = frames_after plan past ++ free_text (pool_after plan past)

is_report : (script : Script) (old new : List ℕ) (b : Bool) → is_clean (plan_of script.config) (run_of script) ≡ b → WroteReportBy b script old new → WroteReport script old new
is_report script old new b is wrote = subst (λ (clean : Bool). WroteReportBy clean script old new) (sym is) wrote

is_report_part : (script : Script) (old new : List ℕ) (b : Bool) → is_clean (plan_of script.config) (run_of script) ≡ b → WroteReportPartBy b script old new → WroteReportPart script old new
is_report_part script old new b is part = subst (λ (clean : Bool). WroteReportPartBy clean script old new) (sym is) part

-- the lines of a run, and a text that is the report's end where the run is clean
pub wrote_report : (script : Script) (old middle new : List ℕ) (text : List ℕ) → Wrote (plan_of script.config) old middle (run_of script) → new ≡ middle ++ text →
    (is_clean (plan_of script.config) (run_of script) ≡ true → text ≡ report_end (plan_of script.config) (run_of script)) → WroteReport script old new
wrote_report script old middle new text wrote now own = by_clean (is_clean plan past) refl
  where
    plan : Plan
    plan = plan_of script.config

    past : List Event
    past = run_of script

    by_clean : (b : Bool) → is_clean plan past ≡ b → WroteReport script old new
    by_clean false unclean = is_report script old new false unclean (wrote_more plan old middle new past text wrote now)
    by_clean true clean =
        is_report script old new true clean
        (now ∙ ap (λ (bytes : List ℕ). bytes ++ text) (wrote_is plan old middle past true clean wrote) ∙ append_assoc old (text_of past) text
        ∙ ap (λ (end : List ℕ). old ++ (text_of past ++ end)) (own clean))

-- the lines of a run, and a first part of that text
pub wrote_report_part : (script : Script) (old middle new : List ℕ) (text : List ℕ) → Wrote (plan_of script.config) old middle (run_of script) → AppendsPrefix middle new text →
    (is_clean (plan_of script.config) (run_of script) ≡ true → text ≡ report_end (plan_of script.config) (run_of script)) → WroteReportPart script old new
wrote_report_part script old middle new text wrote part own = by_clean (is_clean plan past) refl
  where
    plan : Plan
    plan = plan_of script.config

    past : List Event
    past = run_of script

    by_clean : (b : Bool) → is_clean plan past ≡ b → WroteReportPart script old new
    by_clean false unclean = is_report_part script old new false unclean (inr (wrote_more plan old middle new past (take part.count text) wrote part.bytes))
    by_clean true clean =
        is_report_part script old new true clean
        (AppendsPrefix-after old middle new (text_of past) (report_end plan past) (wrote_is plan old middle past true clean wrote)
        (subst (λ (end : List ℕ). AppendsPrefix middle new end) (own clean) part))

-- a first part of the lines of a run is one of its report
pub lines_of_report : (script : Script) (old new : List ℕ) → WrotePart (plan_of script.config) old new (run_of script) → WroteReportPart script old new
lines_of_report script old new part = by_clean (is_clean plan past) refl
  where
    plan : Plan
    plan = plan_of script.config

    past : List Event
    past = run_of script

    by_clean : (b : Bool) → is_clean plan past ≡ b → WroteReportPart script old new
    by_clean false unclean = is_report_part script old new false unclean (part_is plan old new past false unclean part)
    by_clean true clean = is_report_part script old new true clean (AppendsPrefix-append old new (text_of past) (report_end plan past) (part_is plan old new past true clean part))
