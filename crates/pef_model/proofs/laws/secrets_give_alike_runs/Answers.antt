use Rattle.pef_model.proofs.AlikeRuns.{secrets_give_alike_runs}
use Rattle.pef_model.proofs.laws.secrets_give_alike_runs.Goals as goal

pub returns : goal.returns
returns c = secrets_give_alike_runs
