use Rattle.std.proofs.Common.{◌≡◌, length}
use Rattle.pef_script.specs.Token.{tokens_of}
use Rattle.pef_script.specs.Setting.{words_in}
use Rattle.pef_script.proofs.setting.read_words.Given as goal

abbrev pub invariant-loop-token : goal.invariant-loop-token
invariant-loop-token l = words_in l.fn.words l.lpid (tokens_of l.text) ≡ words_in l.words l.lpid (tokens_of l.rest)

abbrev pub decreases-loop-token : goal.decreases-loop-token
decreases-loop-token l = length l.rest
