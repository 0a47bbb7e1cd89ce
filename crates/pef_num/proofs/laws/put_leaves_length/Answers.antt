use Rattle.pef_model.proofs.Doublewords.{length-with_doubleword}
use Rattle.pef_num.proofs.laws.put_leaves_length.Goals as goal

pub returns : goal.returns
returns c = length-with_doubleword
