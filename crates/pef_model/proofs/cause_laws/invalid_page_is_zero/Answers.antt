use Rattle.pef_model.proofs.InvalidPages.{invalid_page_is_zero}
use Rattle.pef_model.proofs.cause_laws.invalid_page_is_zero.Goals as goal

pub returns : goal.returns
returns c = invalid_page_is_zero
