use Rattle.std.proofs.Common.{◌≡◌, ◌≤◌, ◌+◌, length, drop}
use Rattle.pef_script.specs.Table.{no_operands}
use Rattle.pef_script.specs.Token.{tokens_of}
use Rattle.pef_script.specs.Command.{operands_in}
use Rattle.pef_script.proofs.command.read_operands.Given as goal

abbrev pub invariant-loop-token : goal.invariant-loop-token
invariant-loop-token l = record {
  operands : operands_in 0 l.kinds no_operands (tokens_of l.text) ≡ operands_in l.place (drop l.place l.kinds) l.operands (tokens_of l.rest);
  few : l.place + length l.rest ≤ length l.text;
}

abbrev pub decreases-loop-token : goal.decreases-loop-token
decreases-loop-token l = length l.rest
