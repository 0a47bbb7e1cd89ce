use Rattle.std.proofs.Common.{◌≡◌, ◌≤◌, ◌+◌, length}
use Rattle.pef_script.specs.Token.{tokens_of}
use Rattle.pef_script.proofs.token.count_tokens.Given as goal

abbrev pub invariant-loop-more : goal.invariant-loop-more
invariant-loop-more l = record {
  count : length (tokens_of l.text) ≡ l.count + length (tokens_of l.rest);
  few : l.count + length l.rest ≤ length l.text;
}

abbrev pub decreases-loop-more : goal.decreases-loop-more
decreases-loop-more l = length l.rest
