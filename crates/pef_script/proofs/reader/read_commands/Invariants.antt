use Rattle.std.proofs.Common.{◌≡◌, ◌≤◌, ◌+◌, length}
use Rattle.pef_script.specs.Script.{lines_of, commands_in}
use Rattle.pef_script.proofs.ScriptLines.{with_front}
use Rattle.pef_script.proofs.reader.read_commands.Given as goal

abbrev pub invariant-loop-line : goal.invariant-loop-line
invariant-loop-line l = record {
  lines : commands_in l.cpus l.first (lines_of l.text) ≡ with_front l.found.items (commands_in l.cpus l.number (lines_of l.rest));
  room : l.number + length l.rest ≤ l.first + length l.text;
}

abbrev pub decreases-loop-line : goal.decreases-loop-line
decreases-loop-line l = length l.rest
