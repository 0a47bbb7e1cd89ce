use Rattle.pef_model.proofs.Begun.{last_sealed_is_begun}
use Rattle.pef_model.proofs.move_laws.last_sealed_is_begun.Goals as goal

pub returns : goal.returns
returns c = last_sealed_is_begun
