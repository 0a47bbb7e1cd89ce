use Rattle.pef_model.proofs.Written.{writes_make_frames}
use Rattle.pef_model.proofs.laws.writes_make_frames.Goals as goal

pub returns : goal.returns
returns c = writes_make_frames
