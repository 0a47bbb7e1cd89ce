-- Two calls whose scripts have alike runs.
use Rattle.std.proofs.Common.{ℕ, List, Option, subst}
use Rattle.pef_model.specs.Plan.{plan_of}
use Rattle.pef_model.specs.History.{IsLegal}
use Rattle.pef_model.specs.Run.{run_of}
use Rattle.pef_model.specs.Script.{Script}
use Rattle.pef_script.specs.Script.{Reads}
use Rattle.pef_model.proofs.Runs.{one_run}
use Rattle.pef_model.proofs.SeenReports.{alike_report_the_same}
use Rattle.pef_model.proofs.AlikeClashes.{alike_clash_together}
use Rattle.pef_model.proofs.SoundReports.{alike_sound_parts_report_the_same}
use Rattle.pef_script.proofs.ReadScripts.{reads_scripts}
use Rattle.pef_top.specs.Top.{WritesReport, IsReported}
use Rattle.pef_top.specs.TwoRuns.{Written, IsReportOf, AlikeRunsWriteTheSame}

-- what was written is the report of the script that was read
wrote : (text : List ℕ) (script : Script) (w : Written) → Reads text script → IsReported text w.old w.new → IsReportOf script w
wrote text script w reads done = subst (λ (s : Option Script). WritesReport s w.old w.new) reads.is done.report

-- the run of a script that was read is legal
run_is_legal : (text : List ℕ) (script : Script) → Reads text script → IsLegal (plan_of script.config) (run_of script)
run_is_legal text script reads = (one_run script (reads_scripts text script reads)).holds.legal

pub alike_runs_write_the_same : AlikeRunsWriteTheSame
alike_runs_write_the_same text other_text script other w v reads other_reads alike done other_done = record {
  one = wrote text script w reads done;
  other_one = wrote other_text other v other_reads other_done;
  agree = alike_report_the_same script.config other.config (run_of script) (run_of other) alike (run_is_legal text script reads) (run_is_legal other_text other other_reads);
  together = alike_clash_together script.config other.config (run_of script) (run_of other) alike (run_is_legal text script reads) (run_is_legal other_text other other_reads);
  before = alike_sound_parts_report_the_same script.config other.config (run_of script) (run_of other) alike (run_is_legal text script reads) (run_is_legal other_text other other_reads);
}
