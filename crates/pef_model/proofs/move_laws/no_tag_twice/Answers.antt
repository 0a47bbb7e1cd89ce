use Rattle.pef_model.proofs.Tags.{no_tag_twice}
use Rattle.pef_model.proofs.move_laws.no_tag_twice.Goals as goal

pub returns : goal.returns
returns c = no_tag_twice
