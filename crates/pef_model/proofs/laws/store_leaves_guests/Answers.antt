use Rattle.pef_model.proofs.Normal.{store_leaves_guests}
use Rattle.pef_model.proofs.laws.store_leaves_guests.Goals as goal

pub returns : goal.returns
returns c = store_leaves_guests
