use Rattle.pef_script.proofs.ReadScripts.{reads_what_can_be_written}
use Rattle.pef_script.proofs.laws.reads_what_can_be_written.Goals as goal

pub returns : goal.returns
returns c = reads_what_can_be_written
