use Rattle.pef_model.proofs.WordsLeft.{words_are_counted}
use Rattle.pef_model.proofs.cause_laws.words_are_counted.Goals as goal

pub returns : goal.returns
returns c = words_are_counted
