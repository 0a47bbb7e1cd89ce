use Rattle.pef_model.proofs.NormalLoads.{load_gives_last_norm}
use Rattle.pef_model.proofs.laws.load_gives_last_norm.Goals as goal

pub returns : goal.returns
returns c = load_gives_last_norm
