use Rattle.pef_core.proofs.at_guest.apply_guest.Goals as goal

pub returns-in-Nothing-clause-does : goal.returns-in-Nothing-clause-does
returns-in-Nothing-clause-does g c pool = rw c.in-Nothing.is (c.without_pool.ensures pool)

pub returns-in-Nothing-clause-left : goal.returns-in-Nothing-clause-left
returns-in-Nothing-clause-left g c = rw c.in-Nothing.is tt

pub returns-in-Pool-clause-does : goal.returns-in-Pool-clause-does
returns-in-Pool-clause-does g c pool = rw c.in-Pool.is c.with_pool.ensures

pub returns-in-Pool-clause-left : goal.returns-in-Pool-clause-left
returns-in-Pool-clause-left g c = rw c.in-Pool.is tt

pub returns-in-Frame-clause-does : goal.returns-in-Frame-clause-does
returns-in-Frame-clause-does g c pool = rw c.in-Frame.is (c.with_frame.ensures.does pool)

pub returns-in-Frame-clause-left : goal.returns-in-Frame-clause-left
returns-in-Frame-clause-left g c = rw c.in-Frame.is c.with_frame.ensures.left
