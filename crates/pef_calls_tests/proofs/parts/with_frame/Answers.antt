use Rattle.std.proofs.Common.{[]}
use Rattle.pef_frames.specs.Pool.{PoolState}
use Rattle.pef_calls_tests.proofs.parts.with_frame.Goals as goal

-- What holds whatever the pool is holds with this one.
any_pool : PoolState
any_pool = record { count = 0; size = 0; free = [] }

pub returns-clause-whole : goal.returns-clause-whole
returns-clause-whole g c = (c.apply_guest.ensures.does any_pool).whole

pub returns-clause-size : goal.returns-clause-size
returns-clause-size g c = c.apply_guest.ensures.left.size
