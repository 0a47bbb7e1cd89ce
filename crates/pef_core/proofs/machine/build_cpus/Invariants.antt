use Rattle.std.proofs.Common.{◌≡◌, ◌^◌, length}
use Rattle.pef_guest.specs.Start.{IsStartCpu}
use Rattle.pef_core.specs.State.{Each}
use Rattle.pef_core.proofs.machine.build_cpus.Given as goal

abbrev pub invariant-loop-number : goal.invariant-loop-number
invariant-loop-number l = (length l.cpus.items ≡ l.number) × Each (λ n cpu. IsStartCpu n (2 ^ l.config.shift) cpu) l.cpus.items
