use Rattle.pef_model.proofs.ComesBack.{each_call_comes_back}
use Rattle.pef_model.proofs.call_laws.each_call_comes_back.Goals as goal

pub returns : goal.returns
returns c = each_call_comes_back
