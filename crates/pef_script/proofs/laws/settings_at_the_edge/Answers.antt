use Rattle.hex.specs.Hex.{decode_pairs}
use Rattle.pef_script.specs.Script.{script_or_fault}
use Rattle.pef_script.specs.Setting.{setting_from, setting_in, born_set, entropy_set, key_set, size_in}
use Rattle.pef_script.proofs.laws.settings_at_the_edge.Goals as goal

-- computed from the definitions
pub returns : goal.returns
unfolding script_or_fault setting_from setting_in born_set entropy_set key_set size_in decode_pairs
returns c = assumption
