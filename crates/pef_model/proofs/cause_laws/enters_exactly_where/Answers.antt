use Rattle.pef_model.proofs.BeginAnswers.{enters_exactly_where}
use Rattle.pef_model.proofs.cause_laws.enters_exactly_where.Goals as goal

pub returns : goal.returns
returns c = enters_exactly_where
