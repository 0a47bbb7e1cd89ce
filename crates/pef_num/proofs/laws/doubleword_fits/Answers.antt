use Rattle.pef_num.proofs.PutBytes.{doubleword_fits}
use Rattle.pef_num.proofs.laws.doubleword_fits.Goals as goal

pub returns : goal.returns
returns c = doubleword_fits
