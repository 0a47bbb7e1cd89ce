use Rattle.pef_slots.proofs.Where.{meet_at_a_page}
use Rattle.pef_slots.proofs.laws.runs_meet_at_a_page.Goals as goal

-- a test that one passes names it
pub returns : goal.returns
returns c = meet_at_a_page
