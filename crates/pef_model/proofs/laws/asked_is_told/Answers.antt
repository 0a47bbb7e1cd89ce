use Rattle.pef_model.proofs.Touched.{asked_is_told}
use Rattle.pef_model.proofs.laws.asked_is_told.Goals as goal

pub returns : goal.returns
returns c = asked_is_told
