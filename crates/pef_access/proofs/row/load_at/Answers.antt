use Rattle.std.proofs.Common.{refl}
use Rattle.pef_access.proofs.row.load_at.Goals as goal

pub returns-clause-guest : goal.returns-clause-guest
returns-clause-guest g c = rw (c.finish_load.ensures.guest, c.load-value.ensures) refl
