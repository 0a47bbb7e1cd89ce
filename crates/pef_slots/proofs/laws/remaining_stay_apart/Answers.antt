use Rattle.pef_slots.proofs.Apart.{left}
use Rattle.pef_slots.proofs.laws.remaining_stay_apart.Goals as goal

-- what holds of each two holds of those that are left
pub returns : goal.returns
returns c = left
