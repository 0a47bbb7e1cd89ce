use Rattle.std.proofs.Common.{sym, ◌∙◌}
use Rattle.pef_access.proofs.RowDoes.{store_found, store_not_found}
use Rattle.pef_access.proofs.row.store.Goals as goal

pub returns-in-Ok : goal.returns-in-Ok
returns-in-Ok g c pool =
    rw (c.store_at.ensures.answer, c.store_at.ensures.guest)
    (store_found c.requires.runs c.requires.whole c.args.gpa g.S.Seal.stands g.S.Seal.image c.args.rs pool c.in-Ok.place c.store_at.ensures.value (sym c.reach.ensures.result ∙ c.in-Ok.is))

pub returns-in-Err : goal.returns-in-Err
returns-in-Err g c pool =
    store_not_found c.requires.runs c.requires.whole c.args.gpa g.S.Seal.stands g.S.Seal.image c.requires.met c.requires.inside pool c.in-Err.answer (sym c.reach.ensures.result ∙ c.in-Err.is) c.args.rs
