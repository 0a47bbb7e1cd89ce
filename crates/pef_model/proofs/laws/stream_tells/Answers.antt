use Rattle.pef_model.proofs.Pairs.{stream_tells}
use Rattle.pef_model.proofs.laws.stream_tells.Goals as goal

pub returns : goal.returns
returns c = stream_tells
