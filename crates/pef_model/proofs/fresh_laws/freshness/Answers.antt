use Rattle.pef_model.proofs.Fresh.{freshness}
use Rattle.pef_model.proofs.fresh_laws.freshness.Goals as goal

pub returns : goal.returns
returns c = freshness
