use Rattle.pef_model.proofs.RefusedClashes.{no_refusal_is_clean}
use Rattle.pef_model.proofs.fresh_laws.no_refusal_is_clean.Goals as goal

pub returns : goal.returns
returns c = no_refusal_is_clean
