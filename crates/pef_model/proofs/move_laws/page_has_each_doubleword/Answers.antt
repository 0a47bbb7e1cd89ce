use Rattle.pef_model.proofs.PageBytes.{page_has_each_doubleword}
use Rattle.pef_model.proofs.move_laws.page_has_each_doubleword.Goals as goal

pub returns : goal.returns
returns c = page_has_each_doubleword
