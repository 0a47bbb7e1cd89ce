use Rattle.pef_model.proofs.SlotAnswers.{unregisters_exactly_where}
use Rattle.pef_model.proofs.cause_laws.unregisters_exactly_where.Goals as goal

pub returns : goal.returns
returns c = unregisters_exactly_where
