use Rattle.std.proofs.Common.{◌≡◌, ℕ, ◌<◌, length, slice_index}
use Rattle.pef_model.specs.Hypercalls.{value_scrubbed}
use Rattle.pef_calls.proofs.scrubbing.scrub.Given as goal

abbrev pub invariant-loop-r : goal.invariant-loop-r
invariant-loop-r l = (length l.gpr ≡ 32) × ((k : ℕ) → k < l.r → slice_index l.gpr k ≡ value_scrubbed l.row l.regs.gpr k)
