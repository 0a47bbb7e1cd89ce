use Rattle.pef_model.proofs.ThroughStores.{load_through_gives_last_norm}
use Rattle.pef_model.proofs.laws.load_through_gives_last_norm.Goals as goal

pub returns : goal.returns
returns c = load_through_gives_last_norm
