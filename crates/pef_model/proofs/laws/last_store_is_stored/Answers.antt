use Rattle.pef_model.proofs.Stores.{last_store_is_stored}
use Rattle.pef_model.proofs.laws.last_store_is_stored.Goals as goal

pub returns : goal.returns
returns c = last_store_is_stored
