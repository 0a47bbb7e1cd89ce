use Rattle.pef_access.specs.Access.{after_load}
use Rattle.pef_access.proofs.Changed.{changed}
use Rattle.pef_access.proofs.row.finish_load.Goals as goal

pub returns-clause-guest : goal.returns-clause-guest
returns-clause-guest g c = changed c.args.guest.now c.args.run.vid (after_load c.args.rd c.args.value) c.index_mut.result.now c.assign.new.regs c.requires c.index_mut.ensures.value c.assign.ensures
