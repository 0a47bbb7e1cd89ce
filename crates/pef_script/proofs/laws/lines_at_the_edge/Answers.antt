use Rattle.pef_script.specs.Script.{script_or_fault}
use Rattle.pef_script.specs.Setting.{setting_from, setting_in, born_set, size_in}
use Rattle.pef_script.specs.Command.{line_in}
use Rattle.pef_script.specs.Table.{word_named}
use Rattle.pef_script.proofs.laws.lines_at_the_edge.Goals as goal

-- computed from the definitions
pub returns : goal.returns
unfolding script_or_fault setting_from setting_in line_in word_named born_set size_in
returns c = assumption
