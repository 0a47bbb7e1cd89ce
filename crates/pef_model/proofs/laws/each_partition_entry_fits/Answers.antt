use Rattle.pef_model.proofs.Lives.{each_partition_entry_fits}
use Rattle.pef_model.proofs.laws.each_partition_entry_fits.Goals as goal

pub returns : goal.returns
returns c = each_partition_entry_fits
