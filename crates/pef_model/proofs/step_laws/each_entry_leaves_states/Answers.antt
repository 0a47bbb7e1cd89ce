use Rattle.pef_model.proofs.Taken.{each_entry_leaves_states}
use Rattle.pef_model.proofs.step_laws.each_entry_leaves_states.Goals as goal

-- by what a step makes of each vCPU
pub returns : goal.returns
returns c = each_entry_leaves_states
