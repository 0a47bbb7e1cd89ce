use Rattle.pef_num.proofs.PutBytes.{highest_first}
use Rattle.pef_num.proofs.laws.puts_highest_first.Goals as goal

pub returns : goal.returns
returns c = highest_first
