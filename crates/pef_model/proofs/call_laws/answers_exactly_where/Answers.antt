use Rattle.pef_model.proofs.CallAnswers.{answers_exactly_where}
use Rattle.pef_model.proofs.call_laws.answers_exactly_where.Goals as goal

pub returns : goal.returns
returns c = answers_exactly_where
