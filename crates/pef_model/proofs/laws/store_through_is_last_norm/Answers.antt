use Rattle.pef_model.proofs.ThroughStores.{store_through_is_last_norm}
use Rattle.pef_model.proofs.laws.store_through_is_last_norm.Goals as goal

pub returns : goal.returns
returns c = store_through_is_last_norm
