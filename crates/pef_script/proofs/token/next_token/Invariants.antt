use Rattle.std.proofs.Common.{◌≡◌, ◌≤◌, length}
use Rattle.pef_script.specs.Token.{tokens_of}
use Rattle.pef_script.proofs.token.next_token.Given as goal

abbrev pub invariant-loop-part : goal.invariant-loop-part
invariant-loop-part l = record {
  tokens : tokens_of l.text ≡ tokens_of l.rest;
  shorter : length l.rest ≤ length l.text;
}

abbrev pub decreases-loop-part : goal.decreases-loop-part
decreases-loop-part l = length l.rest
