-- What two calls wrote whose scripts have alike runs.
use Rattle.std.specs.Prelude.{ℕ, List}
use Rattle.pef_model.specs.Plan.{plan_of}
use Rattle.pef_model.specs.Run.{run_of}
use Rattle.pef_model.specs.Script.{Script}
use Rattle.pef_script.specs.Script.{Reads}
use Rattle.pef_model.specs.Sound.{sound}
use Rattle.pef_model.specs.Alike.{IsAlike, ClashTogether}
use Rattle.pef_model.specs.SeenReport.{ReportTheSame}
use Rattle.pef_top.specs.Text.{WroteReport}
use Rattle.pef_top.specs.Top.{IsReported}

-- what a call's sink had been given before it and after it
pub record Written : Type 0 where
  pub old : List ℕ
  pub new : List ℕ

-- a call wrote the report of a script's run, whole where the run has no digest collision
abbrev pub IsReportOf : Script → Written → Type 0
IsReportOf script w = WroteReport script w.old w.new

-- each of two calls wrote its script's report: the whole reports agree in the hypervisor's lines, and so do those of what comes before the first digest collision, which is at the same entry of both runs
pub record WroteTheSame (script other : Script) (w v : Written) : Type 0 where
  pub one : IsReportOf script w
  pub other_one : IsReportOf other v
  pub agree : ReportTheSame (plan_of script.config) (plan_of other.config) (run_of script) (run_of other)
  pub together : ClashTogether (plan_of script.config) (plan_of other.config) (run_of script) (run_of other)
  pub before :
      ReportTheSame (plan_of script.config) (plan_of other.config) (sound (plan_of script.config) (run_of script)) (sound (plan_of other.config) (run_of other))

-- two calls that answered 0, and took two texts as their clause says then, which are scripts whose runs are alike, wrote such reports
abbrev pub AlikeRunsWriteTheSame : Type 0
AlikeRunsWriteTheSame =
    (text other_text : List ℕ) (script other : Script) (w v : Written) →
    Reads text script → Reads other_text other → IsAlike script.config (run_of script) other.config (run_of other) →
    IsReported text w.old w.new → IsReported other_text v.old v.new →
    WroteTheSame script other w v
