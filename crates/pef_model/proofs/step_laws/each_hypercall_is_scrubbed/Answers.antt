use Rattle.pef_model.proofs.Hypercalls.{each_hypercall_is_scrubbed}
use Rattle.pef_model.proofs.step_laws.each_hypercall_is_scrubbed.Goals as goal

pub returns : goal.returns
returns c = each_hypercall_is_scrubbed
