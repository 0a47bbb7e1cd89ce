use Rattle.std.proofs.Common.{[]}
use Rattle.pef_frames.specs.Pool.{PoolState}
use Rattle.pef_calls_tests.proofs.parts.with_pool.Goals as goal

-- What holds whatever the pool is holds with this one.
any_pool : PoolState
any_pool = record { count = 0; size = 0; free = [] }

pub returns : goal.returns
returns g c = (c.apply_guest.ensures.does any_pool).whole
