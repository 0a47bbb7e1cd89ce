use Rattle.pef_model.proofs.Loads.{load_gives_last_store}
use Rattle.pef_model.proofs.laws.load_gives_last_store.Goals as goal

pub returns : goal.returns
returns c = load_gives_last_store
