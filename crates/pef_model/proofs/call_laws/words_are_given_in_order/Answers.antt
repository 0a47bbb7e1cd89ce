use Rattle.pef_model.proofs.WordsLeft.{words_are_given_in_order}
use Rattle.pef_model.proofs.call_laws.words_are_given_in_order.Goals as goal

pub returns : goal.returns
returns c = words_are_given_in_order
