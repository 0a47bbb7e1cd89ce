use Rattle.pef_model.proofs.InvalAnswers.{inval_takes_frame}
use Rattle.pef_model.proofs.step_laws.inval_takes_frame.Goals as goal

pub returns : goal.returns
returns c = inval_takes_frame
