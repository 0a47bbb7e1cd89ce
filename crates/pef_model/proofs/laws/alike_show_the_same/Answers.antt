use Rattle.pef_model.proofs.Views.{alike_show_the_same}
use Rattle.pef_model.proofs.laws.alike_show_the_same.Goals as goal

pub returns : goal.returns
returns c = alike_show_the_same
