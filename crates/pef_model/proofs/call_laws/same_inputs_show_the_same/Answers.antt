use Rattle.pef_model.proofs.Scrubs.{same_inputs}
use Rattle.pef_model.proofs.call_laws.same_inputs_show_the_same.Goals as goal

pub returns : goal.returns
returns c = same_inputs
