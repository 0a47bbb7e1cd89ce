use Rattle.std.proofs.Common.{sym, ◌∙◌}
use Rattle.pef_access.proofs.RowDoes.{load_backed, load_not_backed}
use Rattle.pef_access.proofs.row.load_backing.Goals as goal

pub returns-in-Some : goal.returns-in-Some
returns-in-Some g c =
    rw (c.load_at.ensures.answer, c.load_at.ensures.guest, c.back.ensures.guest, c.back.ensures.pool)
    (load_backed c.requires.runs c.requires.whole c.args.gpa g.S.Seal.stands g.S.Seal.image c.requires.met c.args.pool.now c.requires.pool c.back.ensures.number c.in-Some.place (sym c.back.ensures.result ∙ c.in-Some.is) c.args.rd)

pub returns-in-None : goal.returns-in-None
returns-in-None g c =
    rw (c.back.ensures.guest, c.back.ensures.pool)
    (load_not_backed c.requires.runs c.requires.whole c.args.gpa g.S.Seal.stands g.S.Seal.image c.requires.met c.args.pool.now (sym c.back.ensures.result ∙ c.in-None.is) c.args.rd)
