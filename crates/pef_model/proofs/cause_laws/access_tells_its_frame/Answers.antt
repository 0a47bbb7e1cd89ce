use Rattle.pef_model.proofs.ToldEntries.{access_tells_its_frame}
use Rattle.pef_model.proofs.cause_laws.access_tells_its_frame.Goals as goal

pub returns : goal.returns
returns c = access_tells_its_frame
