use Rattle.std.proofs.Common.{refl}
use Rattle.std.specs.Fmt.{digits}
use Rattle.pef_model.proofs.laws.none_is_born.Goals as goal

pub returns : goal.returns
unfolding digits
returns c = refl
