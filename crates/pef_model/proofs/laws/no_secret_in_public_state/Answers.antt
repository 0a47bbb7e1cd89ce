use Rattle.pef_model.proofs.Secrets.{no_secret_in_public_state}
use Rattle.pef_model.proofs.laws.no_secret_in_public_state.Goals as goal

pub returns : goal.returns
returns c = no_secret_in_public_state
