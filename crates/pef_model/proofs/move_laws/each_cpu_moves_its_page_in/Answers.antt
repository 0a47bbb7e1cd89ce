use Rattle.pef_model.proofs.Paging.{each_cpu_moves_its_page_in}
use Rattle.pef_model.proofs.move_laws.each_cpu_moves_its_page_in.Goals as goal

pub returns : goal.returns
returns c = each_cpu_moves_its_page_in
