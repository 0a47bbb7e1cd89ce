use Rattle.pef_top.proofs.Pairs.{alike_runs_write_the_same}
use Rattle.pef_top.proofs.laws.alike_runs_write_the_same.Goals as goal

pub returns : goal.returns
returns c = alike_runs_write_the_same
