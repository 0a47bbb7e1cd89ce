use Rattle.pef_model.proofs.Normal.{store_is_last_norm}
use Rattle.pef_model.proofs.laws.store_is_last_norm.Goals as goal

pub returns : goal.returns
returns c = store_is_last_norm
