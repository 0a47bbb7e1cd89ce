use Rattle.std.proofs.Common.{refl}
use Rattle.pef_model.specs.Doubleword.{doubleword, with_doubleword}
use Rattle.pef_model.proofs.refusal_laws.a_guest_ends_as_it_runs.Goals as goal

-- computed from the definitions
pub returns : goal.returns
unfolding doubleword with_doubleword
returns c = refl
