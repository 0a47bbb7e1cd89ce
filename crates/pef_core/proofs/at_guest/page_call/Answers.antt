use Rattle.pef_core.proofs.at_guest.page_call.Goals as goal

pub returns-in-UPagein : goal.returns-in-UPagein
returns-in-UPagein g c pool = rw c.in-UPagein.is (c.page_in_refused.ensures.does pool)

pub returns-in-UPageout : goal.returns-in-UPageout
returns-in-UPageout g c pool = rw c.in-UPageout.is (c.page_out_begin.ensures.does pool)

pub returns-in-UInval : goal.returns-in-UInval
returns-in-UInval g c pool = rw c.in-UInval.is (c.page_inval.ensures pool)
