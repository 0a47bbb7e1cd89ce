use Rattle.pef_model.proofs.InvalAnswers.{inval_exactly_where}
use Rattle.pef_model.proofs.cause_laws.inval_exactly_where.Goals as goal

pub returns : goal.returns
returns c = inval_exactly_where
