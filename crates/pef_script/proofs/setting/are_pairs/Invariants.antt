use Rattle.std.proofs.Common.{◌≡◌, length}
use Rattle.pef_script.specs.Token.{tokens_of}
use Rattle.pef_script.specs.Setting.{all_pairs}
use Rattle.pef_script.proofs.setting.are_pairs.Given as goal

abbrev pub invariant-loop-token : goal.invariant-loop-token
invariant-loop-token l = all_pairs (tokens_of l.text) ≡ all_pairs (tokens_of l.rest)

abbrev pub decreases-loop-token : goal.decreases-loop-token
decreases-loop-token l = length l.rest
