use Rattle.pef_slots.proofs.Apart.{joined}
use Rattle.pef_slots.proofs.laws.accepted_stay_apart.Goals as goal

-- it has another id than each, and none of their pages
pub returns : goal.returns
returns c = joined
