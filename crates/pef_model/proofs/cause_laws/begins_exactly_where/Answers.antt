use Rattle.pef_model.proofs.BeginAnswers.{begins_exactly_where}
use Rattle.pef_model.proofs.cause_laws.begins_exactly_where.Goals as goal

pub returns : goal.returns
returns c = begins_exactly_where
