use Rattle.pef_model.proofs.Newest.{reg_is_newest}
use Rattle.pef_model.proofs.laws.reg_is_newest.Goals as goal

pub returns : goal.returns
returns c = reg_is_newest
