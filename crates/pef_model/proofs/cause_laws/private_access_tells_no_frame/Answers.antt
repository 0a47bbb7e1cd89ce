use Rattle.pef_model.proofs.ToldEntries.{private_access_tells_no_frame}
use Rattle.pef_model.proofs.cause_laws.private_access_tells_no_frame.Goals as goal

pub returns : goal.returns
returns c = private_access_tells_no_frame
