use Rattle.std.proofs.Common.{arith}
use Rattle.pef_model.proofs.Scrubs.{scrubbed-from_registers}
use Rattle.pef_calls.proofs.scrubbing.scrub.Goals as goal

-- the loop has written each of the 32
pub returns : goal.returns
returns c =
    scrubbed-from_registers c.args.row.now c.args.regs.now c.loop-r.gpr c.loop-r.invariant.0 (λ r below. c.loop-r.invariant.1 r (omega (arith, below, c.loop-r-test.false)))
