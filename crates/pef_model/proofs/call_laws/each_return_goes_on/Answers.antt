use Rattle.pef_model.proofs.GoesOn.{each_return_goes_on}
use Rattle.pef_model.proofs.call_laws.each_return_goes_on.Goals as goal

pub returns : goal.returns
returns c = each_return_goes_on
