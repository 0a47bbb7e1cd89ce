use Rattle.pef_model.proofs.AnswerRows.{each_answer_is_of_its_row}
use Rattle.pef_model.proofs.cause_laws.each_answer_is_of_its_row.Goals as goal

pub returns : goal.returns
returns c = each_answer_is_of_its_row
