use Rattle.pef_model.proofs.TagBytes.{tag_shows_numbers}
use Rattle.pef_model.proofs.cause_laws.tag_shows_numbers.Goals as goal

pub returns : goal.returns
returns c = tag_shows_numbers
