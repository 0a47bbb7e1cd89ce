use Rattle.pef_model.proofs.HypercallRows.{numbers_have_their_rows}
use Rattle.pef_model.proofs.call_laws.numbers_have_their_rows.Goals as goal

pub returns : goal.returns
returns c = numbers_have_their_rows
