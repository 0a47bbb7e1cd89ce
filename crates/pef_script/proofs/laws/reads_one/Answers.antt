use Rattle.pef_script.proofs.ReadScripts.{reads_one}
use Rattle.pef_script.proofs.laws.reads_one.Goals as goal

pub returns : goal.returns
returns c = reads_one
