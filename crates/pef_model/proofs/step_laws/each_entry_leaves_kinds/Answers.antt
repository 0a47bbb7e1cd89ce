use Rattle.pef_model.proofs.KindsLeft.{each_entry_leaves_kinds}
use Rattle.pef_model.proofs.step_laws.each_entry_leaves_kinds.Goals as goal

pub returns : goal.returns
returns c = each_entry_leaves_kinds
