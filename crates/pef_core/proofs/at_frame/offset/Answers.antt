use Rattle.std.proofs.Common.{ℕ, ◌+◌, ◌%◌, ◌≤◌, sym, subst}
use Rattle.pef_model.proofs.Places.{room_at}
use Rattle.pef_core.proofs.at_frame.offset.Goals as goal

-- a doubleword lies in one frame
pub returns-clause-room : goal.returns-clause-room
returns-clause-room c = rw (c.from.ensures, c.size.ensures) (subst (λ (size : ℕ). c.args.ra % size + 8 ≤ size) (sym c.requires.size.is) (room_at c.requires.size.shift c.args.ra c.requires.size.range.0 c.requires.aligned))
