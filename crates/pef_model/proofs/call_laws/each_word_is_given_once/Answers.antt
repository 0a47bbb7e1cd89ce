use Rattle.pef_model.proofs.RandomWords.{each_word_is_given_once}
use Rattle.pef_model.proofs.call_laws.each_word_is_given_once.Goals as goal

pub returns : goal.returns
returns c = each_word_is_given_once
