use Rattle.pef_model.proofs.GuestsKeep.{clean_is_each_guests}
use Rattle.pef_model.proofs.cause_laws.clean_is_each_guests.Goals as goal

pub returns : goal.returns
returns c = clean_is_each_guests
