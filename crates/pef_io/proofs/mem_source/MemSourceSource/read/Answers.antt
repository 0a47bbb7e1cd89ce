use Rattle.std.proofs.Common.{arith, take-add}
use Rattle.std.proofs.lemmas.Grind.{common_steps}
use Rattle.pef_io.proofs.mem_source.MemSourceSource.read.Goals as goal

-- the bytes that were given now are the next ones
pub returns-clause-source : goal.returns-clause-source
returns-clause-source c =
    let more = take-add c.self.inside.next c.min-count.result c.self.inside.bytes.items in
    rw (← c.self.view_is) (grind (arith, common_steps, more, c.in_ok-begin_call.ensures.fails, c.in_ok-begin_call.ensures.calls, c.in_ok-begin_call.ensures.faults))
