use Rattle.pef_model.proofs.Views.{unsealed_is_alike}
use Rattle.pef_model.proofs.laws.unsealed_is_alike.Goals as goal

pub returns : goal.returns
returns c = unsealed_is_alike
