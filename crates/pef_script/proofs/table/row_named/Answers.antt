use Rattle.std.proofs.Common.{rules}
use Rattle.pef_script.proofs.Rows.{row_found}
use Rattle.pef_script.proofs.table.row_named.Goals as goal

-- both tables have the same commands
pub returns : goal.returns
returns c = search (rules, row_found)
