use Rattle.pef_model.proofs.KeptStores.{moves_keep_last_store}
use Rattle.pef_model.proofs.fresh_laws.moves_keep_last_store.Goals as goal

pub returns : goal.returns
returns c = moves_keep_last_store
