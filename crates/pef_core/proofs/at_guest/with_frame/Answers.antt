use Rattle.pef_core.proofs.at_guest.with_frame.Goals as goal

pub returns-in-Guest-GLd-clause-does : goal.returns-in-Guest-GLd-clause-does
returns-in-Guest-GLd-clause-does g c pool = rw c.in-Guest-GLd.is-1 (c.load_through.ensures pool)

pub returns-in-Guest-GSt-clause-does : goal.returns-in-Guest-GSt-clause-does
returns-in-Guest-GSt-clause-does g c pool = rw c.in-Guest-GSt.is-1 (c.store_through.ensures.does pool)

pub returns-in-Guest-GSt-clause-left : goal.returns-in-Guest-GSt-clause-left
returns-in-Guest-GSt-clause-left g c = rw (c.in-Guest-GSt.is-1, c.in-Guest-GSt.is-0) (record { size = c.store_through.ensures.size; written = c.store_through.ensures.left })
