use Rattle.pef_model.proofs.Deeds.{no_secret_in_deeds}
use Rattle.pef_model.proofs.laws.no_secret_in_deeds.Goals as goal

pub returns : goal.returns
returns c = no_secret_in_deeds
