use Rattle.pef_model.proofs.Grown.{order_grows}
use Rattle.pef_model.proofs.step_laws.order_grows.Goals as goal

pub returns : goal.returns
returns c = order_grows
