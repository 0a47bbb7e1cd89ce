use Rattle.pef_model.proofs.PageBytes.{page_has_its_length}
use Rattle.pef_model.proofs.move_laws.page_has_its_length.Goals as goal

pub returns : goal.returns
returns c = page_has_its_length
