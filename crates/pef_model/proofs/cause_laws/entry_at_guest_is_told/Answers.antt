use Rattle.pef_model.proofs.ToldEntries.{entry_at_guest_is_told}
use Rattle.pef_model.proofs.cause_laws.entry_at_guest_is_told.Goals as goal

pub returns : goal.returns
returns c = entry_at_guest_is_told
