use Rattle.std.proofs.Common.{refl}
use Rattle.pef_model.specs.Seal.{tag_bytes}
use Rattle.pef_model.proofs.refusal_laws.inval_refusals.Goals as goal

-- computed from the definitions
pub returns : goal.returns
unfolding tag_bytes
returns c = refl
