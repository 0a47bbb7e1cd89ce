use Rattle.pef_num.proofs.AddressLemmas.{frames_have_addresses}
use Rattle.pef_num.proofs.laws.frames_have_addresses.Goals as goal

pub returns : goal.returns
returns c = frames_have_addresses
