use Rattle.pef_model.proofs.Normal.{frames_hold_last_norm}
use Rattle.pef_model.proofs.laws.frames_hold_last_norm.Goals as goal

pub returns : goal.returns
returns c = frames_hold_last_norm
