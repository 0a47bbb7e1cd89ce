use Rattle.pef_core.proofs.Touching.{return_asks_none, page_out_asks_none}
use Rattle.pef_core.proofs.lent.asked_by_call.Goals as goal

pub returns-in-UPagein-clause-model : goal.returns-in-UPagein-clause-model
returns-in-UPagein-clause-model g c plan guest any ask shows = rw c.in-UPagein.is (c.asks_for_frame.ensures.model plan guest any ask shows)

pub returns-in-UPageout-clause-model : goal.returns-in-UPageout-clause-model
returns-in-UPageout-clause-model g c plan guest any ask shows = rw c.in-UPageout.is (page_out_asks_none plan guest ask c.in-UPageout.lpid c.in-UPageout.dest c.in-UPageout.gpa c.in-UPageout.flags c.in-UPageout.order)

pub returns-in-UReturn-clause-model : goal.returns-in-UReturn-clause-model
returns-in-UReturn-clause-model g c plan guest any ask shows = rw c.in-UReturn.is (return_asks_none guest.part ask)
