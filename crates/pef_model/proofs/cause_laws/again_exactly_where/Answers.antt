use Rattle.pef_model.proofs.AccessAnswers.{again_exactly_where}
use Rattle.pef_model.proofs.cause_laws.again_exactly_where.Goals as goal

pub returns : goal.returns
returns c = again_exactly_where
