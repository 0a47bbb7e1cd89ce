use Rattle.std.proofs.Common.{refl}
use Rattle.pef_model.proofs.laws.stamps_of_one_frame.Goals as goal

-- computed from the definitions
pub returns : goal.returns
returns c = refl
