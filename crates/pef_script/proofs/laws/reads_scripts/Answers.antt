use Rattle.pef_script.proofs.ReadScripts.{reads_scripts}
use Rattle.pef_script.proofs.laws.reads_scripts.Goals as goal

pub returns : goal.returns
returns c = reads_scripts
