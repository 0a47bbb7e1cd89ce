use Rattle.pef_model.proofs.HypercallTables.{IsTableTo}
use Rattle.pef_calls.proofs.table.Table.of.Given as goal

abbrev pub invariant-loop-i : goal.invariant-loop-i
invariant-loop-i g l = IsTableTo l.rows l.i
