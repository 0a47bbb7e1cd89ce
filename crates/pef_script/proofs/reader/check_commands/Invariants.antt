use Rattle.std.proofs.Common.{◌≡◌, ◌≤◌, ◌+◌, length}
use Rattle.pef_script.specs.Checked.{count_of}
use Rattle.pef_script.specs.Script.{lines_of, commands_in}
use Rattle.pef_script.proofs.ScriptLines.{with_count}
use Rattle.pef_script.proofs.reader.check_commands.Given as goal

-- those that are counted, and those that are left
abbrev pub invariant-loop-line : goal.invariant-loop-line
invariant-loop-line l = record {
  lines : count_of (commands_in l.cpus l.first (lines_of l.text)) ≡ with_count l.count (commands_in l.cpus l.number (lines_of l.rest));
  room : l.number + length l.rest ≤ l.first + length l.text;
  few : l.count + length l.rest ≤ length l.text;
}

abbrev pub decreases-loop-line : goal.decreases-loop-line
decreases-loop-line l = length l.rest
