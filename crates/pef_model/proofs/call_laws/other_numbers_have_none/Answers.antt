use Rattle.pef_model.proofs.HypercallRows.{other_numbers_have_none}
use Rattle.pef_model.proofs.call_laws.other_numbers_have_none.Goals as goal

pub returns : goal.returns
returns c = other_numbers_have_none
