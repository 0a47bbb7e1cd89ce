use Rattle.pef_model.proofs.Reached.{each_move_is_of_a_generation}
use Rattle.pef_model.proofs.move_laws.each_move_is_of_a_generation.Goals as goal

pub returns : goal.returns
returns c = each_move_is_of_a_generation
