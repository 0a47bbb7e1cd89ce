use Rattle.pef_model.proofs.EntryAnswers.{enters_normal_exactly_where}
use Rattle.pef_model.proofs.cause_laws.enters_normal_exactly_where.Goals as goal

pub returns : goal.returns
returns c = enters_normal_exactly_where
