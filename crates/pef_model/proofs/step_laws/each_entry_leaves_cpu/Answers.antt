use Rattle.pef_model.proofs.Steps.{each_entry_leaves_cpu}
use Rattle.pef_model.proofs.step_laws.each_entry_leaves_cpu.Goals as goal

pub returns : goal.returns
returns c = each_entry_leaves_cpu
