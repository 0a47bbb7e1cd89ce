use Rattle.pef_model.proofs.PartedAddresses.{each_address_is_parted}
use Rattle.pef_model.proofs.cause_laws.each_address_is_parted.Goals as goal

pub returns : goal.returns
returns c = each_address_is_parted
