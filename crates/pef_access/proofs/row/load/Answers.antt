use Rattle.std.proofs.Common.{sym, ◌∙◌}
use Rattle.pef_access.proofs.RowDoes.{load_found, load_not_found}
use Rattle.pef_access.proofs.row.load.Goals as goal

pub returns-in-Ok : goal.returns-in-Ok
returns-in-Ok g c pool =
    rw (c.load_at.ensures.answer, c.load_at.ensures.guest)
    (load_found c.requires.runs c.requires.whole c.args.gpa g.S.Seal.stands g.S.Seal.image c.args.rd pool c.in-Ok.place (sym c.reach.ensures.result ∙ c.in-Ok.is))

pub returns-in-Err : goal.returns-in-Err
returns-in-Err g c pool =
    load_not_found c.requires.runs c.requires.whole c.args.gpa g.S.Seal.stands g.S.Seal.image c.requires.met c.requires.inside pool c.in-Err.answer (sym c.reach.ensures.result ∙ c.in-Err.is) c.args.rd
