use Rattle.pef_model.proofs.TagBytes.{tag_bytes_tell}
use Rattle.pef_model.proofs.cause_laws.tag_bytes_tell.Goals as goal

pub returns : goal.returns
returns c = tag_bytes_tell
