use Rattle.pef_model.proofs.Paging.{each_mover_has_its_call}
use Rattle.pef_model.proofs.move_laws.each_mover_has_its_call.Goals as goal

pub returns : goal.returns
returns c = each_mover_has_its_call
