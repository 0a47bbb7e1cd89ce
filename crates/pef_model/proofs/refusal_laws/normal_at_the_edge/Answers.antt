use Rattle.std.proofs.Common.{refl}
use Rattle.pef_model.specs.Doubleword.{doubleword, with_doubleword}
use Rattle.pef_model.proofs.refusal_laws.normal_at_the_edge.Goals as goal

-- computed from the definitions
pub returns : goal.returns
unfolding doubleword with_doubleword
returns c = refl
