use Rattle.pef_model.proofs.Paging.{each_normal_guest_is_plain}
use Rattle.pef_model.proofs.step_laws.each_normal_guest_is_plain.Goals as goal

pub returns : goal.returns
returns c = each_normal_guest_is_plain
