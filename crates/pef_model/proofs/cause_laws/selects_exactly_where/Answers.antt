use Rattle.pef_model.proofs.EntryAnswers.{selects_exactly_where}
use Rattle.pef_model.proofs.cause_laws.selects_exactly_where.Goals as goal

pub returns : goal.returns
returns c = selects_exactly_where
