use Rattle.pef_model.proofs.Clashes.{own_entries_clash}
use Rattle.pef_model.proofs.fresh_laws.own_entries_clash.Goals as goal

pub returns : goal.returns
returns c = own_entries_clash
