use Rattle.pef_model.proofs.TagBytes.{stream_seals_each_byte}
use Rattle.pef_model.proofs.cause_laws.stream_seals_each_byte.Goals as goal

pub returns : goal.returns
returns c = stream_seals_each_byte
