use Rattle.std.proofs.Common.{◌≡◌, length}
use Rattle.pef_calls_tests.proofs.machine.run.Given as goal

-- the machine still has two CPUs
abbrev pub invariant-loop-cpu : goal.invariant-loop-cpu
invariant-loop-cpu g l = length l.machine.cpus ≡ 2
