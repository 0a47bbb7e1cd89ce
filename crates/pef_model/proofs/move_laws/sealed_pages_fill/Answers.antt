use Rattle.pef_model.proofs.Filled.{sealed_pages_fill}
use Rattle.pef_model.proofs.move_laws.sealed_pages_fill.Goals as goal

pub returns : goal.returns
returns c = sealed_pages_fill
