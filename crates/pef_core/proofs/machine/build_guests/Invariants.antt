use Rattle.std.proofs.Common.{◌≡◌, ◌+◌, length}
use Rattle.pef_seal.specs.Serves.{Serves}
use Rattle.pef_core.specs.State.{Each}
use Rattle.pef_core.specs.Start.{Begins}
use Rattle.pef_core.proofs.machine.build_guests.Given as goal

abbrev pub invariant-loop-sealer : goal.invariant-loop-sealer
invariant-loop-sealer g l =
    (length l.guests.items + length l.sealer-iterator.rest.items ≡ l.config.guests) ×
    Each (λ i sealer. Serves l.config (g.S.Seal.image sealer) (g.S.Seal.takes sealer)) l.sealer-iterator.rest.items ×
    Each (λ i guest. Begins g.S.Seal.image g.S.Seal.takes l.config (i + 1) guest) l.guests.items
