use Rattle.pef_model.proofs.BusyAnswers.{busy_exactly_where}
use Rattle.pef_model.proofs.cause_laws.busy_exactly_where.Goals as goal

pub returns : goal.returns
returns c = busy_exactly_where
