use Rattle.std.proofs.Common.{refl}
use Rattle.std.specs.Fmt.{digits}
use Rattle.pef_model.proofs.laws.one_frame.Goals as goal

pub returns : goal.returns
unfolding digits
returns c = refl
