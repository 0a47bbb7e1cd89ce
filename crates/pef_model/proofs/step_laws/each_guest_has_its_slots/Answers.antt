use Rattle.pef_model.proofs.SlotsApart.{each_guest_has_its_slots}
use Rattle.pef_model.proofs.step_laws.each_guest_has_its_slots.Goals as goal

pub returns : goal.returns
returns c = each_guest_has_its_slots
