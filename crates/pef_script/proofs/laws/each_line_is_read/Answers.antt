use Rattle.pef_script.proofs.WrittenLines.{each_line_is_read}
use Rattle.pef_script.proofs.laws.each_line_is_read.Goals as goal

pub returns : goal.returns
returns c = each_line_is_read
