use Rattle.pef_access.proofs.ThroughDoes.{room_through, store_leaves, store_through_does}
use Rattle.pef_access.proofs.row.store_through.Goals as goal

pub store-requires : goal.store-requires
store-requires g c = rw c.offset_in.ensures (room_through c.requires.runs c.requires.whole c.args.gpa c.args.number c.requires.through c.args.frame.now c.requires.size)

pub returns-clause-does : goal.returns-clause-does
returns-clause-does g c pool =
    rw (c.finish_store.ensures.answer, c.finish_store.ensures.guest, c.store.ensures.bytes, c.offset_in.ensures, c.value_of-value.ensures)
    (store_through_does c.requires.runs c.requires.whole c.args.gpa c.args.number c.requires.through c.args.frame.now c.requires.size g.S.Seal.stands g.S.Seal.image pool c.args.rs)

pub returns-clause-left : goal.returns-clause-left
returns-clause-left g c =
    rw (c.finish_store.ensures.answer, c.store.ensures.bytes, c.offset_in.ensures, c.value_of-value.ensures) (store_leaves c.requires.runs c.requires.whole c.args.gpa c.args.number c.requires.through c.args.frame.now c.requires.size c.args.rs)
