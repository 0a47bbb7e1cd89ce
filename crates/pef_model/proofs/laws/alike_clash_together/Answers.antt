use Rattle.pef_model.proofs.AlikeClashes.{alike_clash_together}
use Rattle.pef_model.proofs.laws.alike_clash_together.Goals as goal

pub returns : goal.returns
returns c = alike_clash_together
