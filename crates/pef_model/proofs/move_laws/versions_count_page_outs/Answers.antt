use Rattle.pef_model.proofs.Begun.{versions_count_page_outs}
use Rattle.pef_model.proofs.move_laws.versions_count_page_outs.Goals as goal

pub returns : goal.returns
returns c = versions_count_page_outs
