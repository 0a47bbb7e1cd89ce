use Rattle.pef_access.proofs.ThroughDoes.{room_through, load_through_does}
use Rattle.pef_access.proofs.row.load_through.Goals as goal

pub load-value-requires : goal.load-value-requires
load-value-requires g c = rw c.offset_in.ensures (room_through c.requires.runs c.requires.whole c.args.gpa c.args.number c.requires.through c.args.frame.now c.requires.size)

pub returns : goal.returns
returns g c pool =
    rw (c.finish_load.ensures.answer, c.finish_load.ensures.guest, c.load-value.ensures, c.offset_in.ensures)
    (load_through_does c.requires.runs c.requires.whole c.args.gpa c.args.number c.requires.through c.args.frame.now c.requires.size g.S.Seal.stands g.S.Seal.image pool c.args.rd)
