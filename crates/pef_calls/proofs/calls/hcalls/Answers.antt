use Rattle.std.proofs.Common.{refl}
use Rattle.pef_model.proofs.HypercallTables.{IsTable-from_test}
use Rattle.pef_calls.proofs.calls.hcalls.Goals as goal

-- the rows pass the test
pub invariant_of-result : goal.invariant_of-result
invariant_of-result c = IsTable-from_test 0 _ refl
