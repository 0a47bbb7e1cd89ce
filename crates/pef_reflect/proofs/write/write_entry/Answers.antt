use Rattle.std.proofs.Common.{sym, arith}
use Rattle.pef_guest.proofs.Loading.{refuses}
use Rattle.pef_reflect.proofs.WriteRow.{writes_does}
use Rattle.pef_reflect.proofs.write.write_entry.Goals as goal

pub returns : goal.returns
returns g c pool =
    rw (c.refuse.ensures.answer, c.refuse.ensures.cpu, c.load.ensures.gpr)
    (writes_does g.S.Seal.takes g.S.Seal.stands g.S.Seal.image c.args.lpid c.args.dw0 c.args.dw1 c.args.guest.now c.set_entry-code.new.guest c.args.cpu.now pool c.requires.hypervisor c.requires.whole c.set_entry-code.result c.set_entry-code.ensures.set
    c.set_entry-code.ensures.stays c.set_entry-code.ensures.code (rw (sym c.load.ensures.gpr) (refuses c.args.cpu.now c.load.new.gpr c.set_entry-code.result (let long = c.load.array_long in omega (arith, long)) c.load.ensures.rest)))
