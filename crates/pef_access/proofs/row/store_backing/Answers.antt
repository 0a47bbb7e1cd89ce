use Rattle.std.proofs.Common.{◌^◌, ◌<◌, sym, subst, ◌∙◌}
use Rattle.pef_guest.specs.declared.guest.Guest.{Guest}
use Rattle.pef_access.specs.Access.{register_at}
use Rattle.pef_access.proofs.RowDoes.{store_backed, store_not_backed}
use Rattle.pef_access.proofs.row.store_backing.Goals as goal

pub returns-in-Some : goal.returns-in-Some
returns-in-Some g c =
    let narrow = subst (λ (guest : Guest _). register_at guest c.args.run.vid c.args.rs < 2 ^ 64) c.back.ensures.guest c.store_at.ensures.value in
    rw (c.store_at.ensures.answer, c.store_at.ensures.guest, c.back.ensures.guest, c.back.ensures.pool)
    (store_backed c.requires.runs c.requires.whole c.args.gpa g.S.Seal.stands g.S.Seal.image c.requires.met c.args.pool.now c.requires.pool c.back.ensures.number c.in-Some.place (sym c.back.ensures.result ∙ c.in-Some.is) c.args.rs narrow)

pub returns-in-None : goal.returns-in-None
returns-in-None g c =
    rw (c.back.ensures.guest, c.back.ensures.pool)
    (store_not_backed c.requires.runs c.requires.whole c.args.gpa g.S.Seal.stands g.S.Seal.image c.requires.met c.args.pool.now (sym c.back.ensures.result ∙ c.in-None.is) c.args.rs)
