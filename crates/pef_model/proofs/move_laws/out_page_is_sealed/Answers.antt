use Rattle.pef_model.proofs.SealedCopies.{out_page_is_sealed}
use Rattle.pef_model.proofs.move_laws.out_page_is_sealed.Goals as goal

pub returns : goal.returns
returns c = out_page_is_sealed
