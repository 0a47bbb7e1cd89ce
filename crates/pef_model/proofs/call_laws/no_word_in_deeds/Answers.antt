use Rattle.pef_model.proofs.WordsLeft.{no_word_in_deeds}
use Rattle.pef_model.proofs.call_laws.no_word_in_deeds.Goals as goal

pub returns : goal.returns
returns c = no_word_in_deeds
