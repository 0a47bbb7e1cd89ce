use Rattle.pef_model.proofs.GoAll.{each_go_all_ends}
use Rattle.pef_model.proofs.laws.each_go_all_ends.Goals as goal

pub returns : goal.returns
returns c = each_go_all_ends
