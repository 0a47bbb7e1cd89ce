use Rattle.pef_model.proofs.Doublewords.{doubleword-other}
use Rattle.pef_num.proofs.laws.put_leaves_doublewords.Goals as goal

pub returns : goal.returns
returns c = doubleword-other
