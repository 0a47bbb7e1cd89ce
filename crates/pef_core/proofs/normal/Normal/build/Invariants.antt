use Rattle.std.proofs.Common.{◌≡◌, ◌^◌, replicate}
use Rattle.pef_core.proofs.normal.Normal.build.Given as goal

abbrev pub invariant-loop-number : goal.invariant-loop-number
invariant-loop-number l = l.frames.items ≡ replicate l._number (replicate (2 ^ l.shift) 0)
