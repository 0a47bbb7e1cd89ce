use Rattle.pef_slots.proofs.Order.{one_slot}
use Rattle.pef_slots.proofs.laws.page_has_one_slot.Goals as goal

-- two that stand at two places have no page in common
pub returns : goal.returns
returns c = one_slot
