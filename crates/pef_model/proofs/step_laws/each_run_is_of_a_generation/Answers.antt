use Rattle.pef_model.proofs.Running.{each_run_is_of_a_generation}
use Rattle.pef_model.proofs.step_laws.each_run_is_of_a_generation.Goals as goal

pub returns : goal.returns
returns c = each_run_is_of_a_generation
