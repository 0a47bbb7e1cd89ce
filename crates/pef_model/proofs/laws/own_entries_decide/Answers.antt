use Rattle.pef_model.proofs.NextValues.{own_entries_decide}
use Rattle.pef_model.proofs.laws.own_entries_decide.Goals as goal

pub returns : goal.returns
returns c = own_entries_decide
