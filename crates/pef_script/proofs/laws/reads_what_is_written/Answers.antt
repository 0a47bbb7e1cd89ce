use Rattle.pef_script.proofs.WrittenScript.{reads_what_is_written}
use Rattle.pef_script.proofs.laws.reads_what_is_written.Goals as goal

pub returns : goal.returns
returns c = reads_what_is_written
