use Rattle.pef_access.specs.Access.{after_store}
use Rattle.pef_access.proofs.Changed.{changed}
use Rattle.pef_access.proofs.row.finish_store.Goals as goal

pub returns-clause-guest : goal.returns-clause-guest
returns-clause-guest g c = changed c.args.guest.now c.args.run.vid after_store c.index_mut.result.now c.move_on.new.regs c.requires c.index_mut.ensures.value c.move_on.ensures
