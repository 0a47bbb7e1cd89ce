use Rattle.pef_model.proofs.NextValues.{these_fields_decide}
use Rattle.pef_model.proofs.laws.these_fields_decide.Goals as goal

pub returns : goal.returns
returns c = these_fields_decide
