use Rattle.pef_model.proofs.SlotAnswers.{registers_exactly_where}
use Rattle.pef_model.proofs.cause_laws.registers_exactly_where.Goals as goal

pub returns : goal.returns
returns c = registers_exactly_where
