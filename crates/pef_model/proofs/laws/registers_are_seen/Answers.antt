use Rattle.pef_model.proofs.SeenRegisters.{registers_are_seen}
use Rattle.pef_model.proofs.laws.registers_are_seen.Goals as goal

pub returns : goal.returns
returns c = registers_are_seen
