use Rattle.pef_model.proofs.TagBytes.{keystream_has_blocks}
use Rattle.pef_model.proofs.cause_laws.keystream_has_blocks.Goals as goal

pub returns : goal.returns
returns c = keystream_has_blocks
