-- Two runs that are alike have reports that agree in the hypervisor's lines.
use Rattle.std.specs.Prelude.{◌≡◌, ◌⊎◌, ℕ, List, map, IsTrue}
use Rattle.std.specs.List.{filter}
use Rattle.pef_model.specs.declared.config.Config.{Config}
use Rattle.pef_model.specs.Plan.{Plan, plan_of}
use Rattle.pef_model.specs.Event.{Event}
use Rattle.pef_model.specs.History.{IsLegal}
use Rattle.pef_model.specs.Script.{Line, Script}
use Rattle.pef_model.specs.Run.{run_of}
use Rattle.pef_model.specs.Report.{entry_line, report_end}
use Rattle.pef_model.specs.SecretLaw.{open_directive}
use Rattle.pef_model.specs.View.{is_seen}
use Rattle.pef_model.specs.Sound.{sound}
use Rattle.pef_model.specs.Alike.{AgreeButWords, begins_sealing, IsAlike}

-- two histories whose reports say the same where the hypervisor sees it
pub record ReportTheSame (plan other_plan : Plan) (past history : List Event) : Type 0 where
  -- the lines that it sees stand at the same places
  pub places : map is_seen past ≡ map is_seen history
  -- they agree
  pub lines : map entry_line (filter is_seen past) ≡ map entry_line (filter is_seen history)
  -- and so do the frames, what is free and the end
  pub rest : report_end plan past ≡ report_end other_plan history

-- two legal histories that are alike have reports that agree in the hypervisor's lines
abbrev pub AlikeReportTheSame : Type 0
AlikeReportTheSame =
    (one other : Config) (past history : List Event) → IsAlike one past other history → IsLegal (plan_of one) past → IsLegal (plan_of other) history →
    ReportTheSame (plan_of one) (plan_of other) past history

-- and so have their sound parts
abbrev pub AlikeSoundPartsReportTheSame : Type 0
AlikeSoundPartsReportTheSame =
    (one other : Config) (past history : List Event) → IsAlike one past other history → IsLegal (plan_of one) past → IsLegal (plan_of other) history →
    ReportTheSame (plan_of one) (plan_of other) (sound (plan_of one) past) (sound (plan_of other) history)

-- a line without the value that a guest alone knows
abbrev pub open_line : Line → Line
open_line line = record line { directive = open_directive line.directive }

-- two scripts differ in the values of g.li and in entropy words alone
pub record DifferInSecrets (one other : Script) : Type 0 where
  pub configs : AgreeButWords one.config other.config
  pub lines : map open_line one.lines ≡ map open_line other.lines

-- what the guests let out, entry by entry
abbrev pub all_let_out : List Event → List (List ℕ)
all_let_out past = map (λ (e : Event). e.saw.shown) past

-- the pages that the page-outs of a history sealed
abbrev pub all_sealed : List Event → List (List ℕ)
all_sealed past = map (λ (e : Event). e.bytes) (filter begins_sealing past)

-- the runs of two scripts that differ in secrets alone are alike, where the guests let out the same, and where the sealed pages are the same or lie in a vault
abbrev pub SecretsGiveAlikeRuns : Type 0
SecretsGiveAlikeRuns =
    (one other : Script) → DifferInSecrets one other → all_let_out (run_of one) ≡ all_let_out (run_of other) →
    (all_sealed (run_of one) ≡ all_sealed (run_of other)) ⊎ IsTrue one.config.vault →
    IsAlike one.config (run_of one) other.config (run_of other)
