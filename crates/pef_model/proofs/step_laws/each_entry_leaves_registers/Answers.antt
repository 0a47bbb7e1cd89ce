use Rattle.pef_model.proofs.Moves.{each_entry_leaves_registers}
use Rattle.pef_model.proofs.step_laws.each_entry_leaves_registers.Goals as goal

pub returns : goal.returns
returns c = each_entry_leaves_registers
