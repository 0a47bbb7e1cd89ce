use Rattle.pef_model.proofs.Doublewords.{doubleword-put}
use Rattle.pef_num.proofs.laws.put_is_read.Goals as goal

pub returns : goal.returns
returns c = doubleword-put
