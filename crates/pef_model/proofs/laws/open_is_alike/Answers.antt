use Rattle.pef_model.proofs.Views.{open_is_alike}
use Rattle.pef_model.proofs.laws.open_is_alike.Goals as goal

pub returns : goal.returns
returns c = open_is_alike
