use Rattle.pef_model.proofs.Frames.{frames_are_counted}
use Rattle.pef_model.proofs.step_laws.frames_are_counted.Goals as goal

pub returns : goal.returns
returns c = frames_are_counted
