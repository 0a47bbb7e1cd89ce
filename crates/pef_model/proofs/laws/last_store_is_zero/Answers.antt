use Rattle.pef_model.proofs.Stores.{last_store_is_zero}
use Rattle.pef_model.proofs.laws.last_store_is_zero.Goals as goal

pub returns : goal.returns
returns c = last_store_is_zero
