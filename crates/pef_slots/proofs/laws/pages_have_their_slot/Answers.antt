use Rattle.pef_slots.proofs.Where.{have_their_slot}
use Rattle.pef_slots.proofs.laws.pages_have_their_slot.Goals as goal

-- what is found has the page, and nothing else has it
pub returns : goal.returns
returns c = have_their_slot
