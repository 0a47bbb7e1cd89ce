use Rattle.pef_slots.proofs.Order.{comes_out}
use Rattle.pef_slots.proofs.laws.registered_comes_out.Goals as goal

-- it is the only one with its id
pub returns : goal.returns
returns c = comes_out
