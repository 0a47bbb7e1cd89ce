use Rattle.pef_model.proofs.RefusedClashes.{each_clash_is_refused}
use Rattle.pef_model.proofs.fresh_laws.each_clash_is_refused.Goals as goal

pub returns : goal.returns
returns c = each_clash_is_refused
