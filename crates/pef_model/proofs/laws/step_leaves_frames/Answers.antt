use Rattle.pef_model.proofs.Normal.{step_leaves_frames}
use Rattle.pef_model.proofs.laws.step_leaves_frames.Goals as goal

pub returns : goal.returns
returns c = step_leaves_frames
