use Rattle.std.proofs.Common.{rules, ◌≡◌, ◌<◌, length, arith, refl}
use Rattle.pef_model.proofs.HypercallTables.{IsTable-whole, IsTable-falls}
use Rattle.pef_calls.proofs.table.Table.of.Goals as goal

-- a table's number is above the one before it
pub returns-then-rows-i-clause-accepted : goal.returns-then-rows-i-clause-accepted
returns-then-rows-i-clause-accepted g c =
    let long : length c.args.rows ≡ g.row.N = search rules in
    let within : c.loop-i.i < length c.args.rows = omega (arith, long, c.loop-i-test.true) in
    (search rules, λ table. absurd (IsTable-falls c.args.rows table c.loop-i.i _ (omega arith) within c.if-rows-i.true))

pub invariant_of-result : goal.invariant_of-result
invariant_of-result g c = IsTable-whole c.args.rows c.loop-i.i (search rules) c.loop-i.invariant

pub returns-clause-accepted : goal.returns-clause-accepted
returns-clause-accepted g c = (λ _. IsTable-whole c.args.rows c.loop-i.i (omega arith) c.loop-i.invariant, λ _. refl)
