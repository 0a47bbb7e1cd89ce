use Rattle.std.proofs.Common.{◌≡◌, ◌==◌, true, false, [], Some, IsTrue, ◌↔◌, subst, arith}
use Rattle.std.proofs.lemmas.Bool.Decides.{nat_tests}
use Rattle.pef_pages.specs.Pages.{digest_at}
use Rattle.pef_guest.specs.Shows.{digest_by}
use Rattle.pef_move.proofs.Asking.{refused}
use Rattle.pef_move.proofs.Ended.{moving_below}
use Rattle.pef_move.proofs.ComeRows.{is_kept}
use Rattle.pef_move.proofs.asks.refuses_page.Goals as goal

pub is_kept-requires : goal.is_kept-requires
is_kept-requires g c = moving_below c.args.guest.now.pages c.args.inward.gfn _ (c.requires c.if-inward-guest.false)

pub returns-clause-model : goal.returns-clause-model
returns-clause-model g c plan guest part shows shows_cpu clean =
    let moves = c.requires c.if-inward-guest.false in
    let test = subst (λ hand. IsTrue c.is_kept.result ↔ (digest_at c.args.guest.now.pages c.args.inward.gfn ≡ Some (digest_by hand))) c.hand.ensures c.is_kept.ensures in
    let same : (c.args.inward.generation == c.args.guest.now.generation) ≡ true = (let now = c.if-inward-guest.false in grind (arith, nat_tests)) in
    refused g.S.Seal.stands g.S.Seal.image plan c.args.guest.now guest shows part c.args.inward true c.is_kept.result same
    (λ now. is_kept g.S.Seal.stands g.S.Seal.image plan guest part (record { line = 0; cpu = 0; place = 0; stamp = 0 }) c.args.guest.now c.args.cpu.now c.args.inward (record { size = 0; count = 0; free = [] }) (moving_below c.args.guest.now.pages c.args.inward.gfn _ moves) moves shows shows_cpu c.if-inward-guest.false clean c.is_kept.result test)

pub returns-then-inward-guest-clause-model : goal.returns-then-inward-guest-clause-model
returns-then-inward-guest-clause-model g c plan guest part shows shows_cpu clean =
    let other : (c.args.inward.generation == c.args.guest.now.generation) ≡ false = (let now = c.if-inward-guest.true in grind (arith, nat_tests, now)) in
    refused g.S.Seal.stands g.S.Seal.image plan c.args.guest.now guest shows part c.args.inward false false other (λ now. cc)
