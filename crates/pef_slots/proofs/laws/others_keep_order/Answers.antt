use Rattle.pef_slots.proofs.Order.{keep_order}
use Rattle.pef_slots.proofs.laws.others_keep_order.Goals as goal

-- no other has its id
pub returns : goal.returns
returns c = keep_order
