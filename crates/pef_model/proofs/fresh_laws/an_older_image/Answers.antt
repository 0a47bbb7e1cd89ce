use Rattle.std.proofs.Common.{refl}
use Rattle.pef_model.specs.Seal.{tag_bytes}
use Rattle.pef_model.proofs.fresh_laws.an_older_image.Goals as goal

-- computed from the definitions
pub returns : goal.returns
unfolding tag_bytes
returns c = refl
