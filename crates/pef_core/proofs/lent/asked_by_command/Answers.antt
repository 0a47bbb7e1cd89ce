use Rattle.std.proofs.Common.{◌∙◌}
use Rattle.pef_core.proofs.Touching.{load_asks, store_asks}
use Rattle.pef_core.proofs.lent.asked_by_command.Goals as goal

pub returns-in-GLd-clause-model : goal.returns-in-GLd-clause-model
returns-in-GLd-clause-model g c plan guest found any ask shows = rw c.in-GLd.is (load_asks plan c.args.run guest found any ask c.in-GLd.rd c.in-GLd.gpa ∙ c.asks_for_frame.ensures.model plan guest shows)

pub returns-in-GSt-clause-model : goal.returns-in-GSt-clause-model
returns-in-GSt-clause-model g c plan guest found any ask shows = rw c.in-GSt.is (store_asks plan c.args.run guest found any ask c.in-GSt.rs c.in-GSt.gpa ∙ c.asks_for_frame-in-GSt.ensures.model plan guest shows)
