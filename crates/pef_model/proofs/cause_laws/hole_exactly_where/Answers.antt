use Rattle.pef_model.proofs.AccessAnswers.{hole_exactly_where}
use Rattle.pef_model.proofs.cause_laws.hole_exactly_where.Goals as goal

pub returns : goal.returns
returns c = hole_exactly_where
