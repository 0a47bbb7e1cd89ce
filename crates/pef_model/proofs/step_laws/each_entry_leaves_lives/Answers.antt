use Rattle.pef_model.proofs.Lives.{each_entry_leaves_lives}
use Rattle.pef_model.proofs.step_laws.each_entry_leaves_lives.Goals as goal

pub returns : goal.returns
returns c = each_entry_leaves_lives
