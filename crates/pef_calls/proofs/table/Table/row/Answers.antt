use Rattle.std.proofs.Common.{rules, ◌≡◌}
use Rattle.pef_model.specs.Hypercalls.{row_of}
use Rattle.pef_model.proofs.HypercallRows.{row_whole}
use Rattle.pef_calls.proofs.table.Table.row.Goals as goal

-- each row of a table is whole
pub returns-clause-whole : goal.returns-clause-whole
returns-clause-whole g c =
    let found : c.copied.result ≡ row_of c.self.inside.rows c.args.number = search rules in
    row_whole c.self.inside.rows c.args.number c.copied.result c.self.invariant found
