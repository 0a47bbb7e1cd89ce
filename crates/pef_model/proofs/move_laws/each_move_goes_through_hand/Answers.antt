use Rattle.pef_model.proofs.ThroughHand.{each_move_goes_through_hand}
use Rattle.pef_model.proofs.move_laws.each_move_goes_through_hand.Goals as goal

pub returns : goal.returns
returns c = each_move_goes_through_hand
