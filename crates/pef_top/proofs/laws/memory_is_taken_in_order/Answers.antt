use Rattle.pef_top.proofs.Memory.{memory_is_taken_in_order}
use Rattle.pef_top.proofs.laws.memory_is_taken_in_order.Goals as goal

pub returns : goal.returns
returns c = memory_is_taken_in_order
