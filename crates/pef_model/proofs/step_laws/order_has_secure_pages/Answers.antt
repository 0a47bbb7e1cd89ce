use Rattle.pef_model.proofs.Orders.{order_has_secure_pages}
use Rattle.pef_model.proofs.step_laws.order_has_secure_pages.Goals as goal

pub returns : goal.returns
returns c = order_has_secure_pages
