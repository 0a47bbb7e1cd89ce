use Rattle.pef_model.proofs.Stores.{last_store_is_newest}
use Rattle.pef_model.proofs.laws.last_store_is_newest.Goals as goal

pub returns : goal.returns
returns c = last_store_is_newest
