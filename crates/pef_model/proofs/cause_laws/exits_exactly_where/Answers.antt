use Rattle.pef_model.proofs.ExitAnswers.{exits_exactly_where}
use Rattle.pef_model.proofs.cause_laws.exits_exactly_where.Goals as goal

pub returns : goal.returns
returns c = exits_exactly_where
