use Rattle.pef_model.proofs.SlotChanges.{each_entry_leaves_slots}
use Rattle.pef_model.proofs.step_laws.each_entry_leaves_slots.Goals as goal

pub returns : goal.returns
returns c = each_entry_leaves_slots
