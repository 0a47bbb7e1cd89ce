use Rattle.std.proofs.Common.{rules}
use Rattle.pef_script.proofs.Settings.{setting_found}
use Rattle.pef_script.proofs.setting.setting_row.Goals as goal

-- both tables have the same lines
pub returns : goal.returns
returns c = search (rules, setting_found)
