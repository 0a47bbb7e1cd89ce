use Rattle.pef_model.proofs.ContextAnswers.{context_exactly_where}
use Rattle.pef_model.proofs.cause_laws.context_exactly_where.Goals as goal

pub returns : goal.returns
returns c = context_exactly_where
