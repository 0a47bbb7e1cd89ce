use Rattle.pef_frames.proofs.Counts.{starts_with_each_once}
use Rattle.pef_frames.proofs.laws.starts_with_each_once.Goals as goal

pub returns : goal.returns
returns c = starts_with_each_once
