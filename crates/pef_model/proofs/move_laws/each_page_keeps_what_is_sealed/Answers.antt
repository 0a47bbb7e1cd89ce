use Rattle.pef_model.proofs.Paging.{each_page_keeps_what_is_sealed}
use Rattle.pef_model.proofs.move_laws.each_page_keeps_what_is_sealed.Goals as goal

pub returns : goal.returns
returns c = each_page_keeps_what_is_sealed
