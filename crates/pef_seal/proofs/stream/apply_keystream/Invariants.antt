use Rattle.std.proofs.Common.{◌*◌}
use Rattle.pef_seal.proofs.Masks.{IsMasked}
use Rattle.pef_seal.proofs.stream.apply_keystream.Given as goal

abbrev pub invariant-loop-number : goal.invariant-loop-number
invariant-loop-number l = IsMasked l.key l.fn.tag l.initial.bytes l.bytes (32 * l.number)
