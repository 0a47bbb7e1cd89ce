use Rattle.pef_model.proofs.Paging.{each_cpu_moves_its_page}
use Rattle.pef_model.proofs.move_laws.each_cpu_moves_its_page.Goals as goal

pub returns : goal.returns
returns c = each_cpu_moves_its_page
