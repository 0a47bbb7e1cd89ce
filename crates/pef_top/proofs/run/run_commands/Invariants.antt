use Rattle.std.proofs.Common.{◌≡◌, ◌≤◌, ◌*◌, length, take}
use Rattle.pef_model.specs.Plan.{plan_of}
use Rattle.pef_script.specs.Script.{left_script}
use Rattle.pef_top.specs.Runs.{FitsIfClean}
use Rattle.pef_top.specs.Text.{Wrote}
use Rattle.pef_top.proofs.RunText.{run_of_lines}
use Rattle.pef_top.proofs.run.run_commands.Given as goal

abbrev pub invariant-loop-line : goal.invariant-loop-line
invariant-loop-line g l = record {
  fits : FitsIfClean g.S.Seal.stands g.S.Seal.image (plan_of l.script.config) l.machine (run_of_lines (plan_of l.script.config) (take l.line-index (left_script l.script).lines));
  cpus : length l.machine.cpus ≡ l.script.config.cpus;
  steps : l.machine.steps ≤ l.line-index * 1028;
  written : Wrote (plan_of l.script.config) (g.K.Sink.given l.fn.sink) (g.K.Sink.given l.sink) (run_of_lines (plan_of l.script.config) (take l.line-index (left_script l.script).lines));
  clean : g.K.Sink.faults l.sink ≡ g.K.Sink.faults l.fn.sink;
}
