use Rattle.pef_model.proofs.EntryAnswers.{writes_exactly_where}
use Rattle.pef_model.proofs.cause_laws.writes_exactly_where.Goals as goal

pub returns : goal.returns
returns c = writes_exactly_where
