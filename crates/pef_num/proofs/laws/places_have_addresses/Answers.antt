use Rattle.pef_num.proofs.AddressLemmas.{places_have_addresses}
use Rattle.pef_num.proofs.laws.places_have_addresses.Goals as goal

pub returns : goal.returns
returns c = places_have_addresses
