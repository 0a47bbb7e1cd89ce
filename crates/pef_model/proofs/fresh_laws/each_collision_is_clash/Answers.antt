use Rattle.pef_model.proofs.RefusedClashes.{each_collision_is_clash}
use Rattle.pef_model.proofs.fresh_laws.each_collision_is_clash.Goals as goal

pub returns : goal.returns
returns c = each_collision_is_clash
