use Rattle.pef_model.proofs.Touched.{touched_objects_decide}
use Rattle.pef_model.proofs.laws.touched_objects_decide.Goals as goal

pub returns : goal.returns
returns c = touched_objects_decide
