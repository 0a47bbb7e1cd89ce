use Rattle.pef_model.proofs.ContextAnswers.{gone_exactly_where}
use Rattle.pef_model.proofs.cause_laws.gone_exactly_where.Goals as goal

pub returns : goal.returns
returns c = gone_exactly_where
