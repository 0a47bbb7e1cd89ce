use Rattle.std.proofs.Common.{arith, sym, ◌∙◌}
use Rattle.pef_guest.proofs.Loading.{refuses}
use Rattle.pef_move.proofs.Codes.{inval_is}
use Rattle.pef_move.proofs.InvalRow.{inval_does}
use Rattle.pef_move.proofs.inval.page_inval.Goals as goal

pub returns : goal.returns
returns g c pool =
    rw (c.refuse.ensures.answer, c.refuse.ensures.cpu, c.load.ensures.gpr)
    (inval_does g.S.Seal.takes g.S.Seal.stands g.S.Seal.image c.args.guest.now c.args.cpu.now pool c.args.lpid c.args.gpa c.args.order c.requires.hypervisor c.requires.whole c.unmap-code.result c.unmap-code.new.guest c.unmap-code.ensures.guest
    (λ plan whole shows.
    c.unmap-code.ensures.code plan whole.part
    ∙ inval_is g.S.Seal.stands g.S.Seal.image plan c.args.guest.now whole (record { lpid = c.args.lpid; ra = 0; gpa = c.args.gpa; flags = 0; order = c.args.order }) shows)
    (rw (sym c.load.ensures.gpr) (refuses c.args.cpu.now c.load.new.gpr c.unmap-code.result (let long = c.load.array_long in omega (arith, long)) c.load.ensures.rest)))
