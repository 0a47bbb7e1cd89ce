use Rattle.std.proofs.Common.{refl}
use Rattle.pef_access.proofs.row.store_at.Goals as goal

pub returns-clause-guest : goal.returns-clause-guest
returns-clause-guest g c = rw (c.finish_store.ensures.guest, c.store.ensures, c.value_of-value.ensures) refl
