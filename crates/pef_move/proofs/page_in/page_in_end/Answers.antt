use Rattle.std.proofs.Common.{rules, true, ℕ, List, length, refl, sym, subst}
use Rattle.pef_guest.specs.Refused.{BackWith}
use Rattle.pef_move.proofs.Bundle.{own_back, works_back, in_ends}
use Rattle.pef_move.proofs.OnWayIn.{is_so, kept_or_refused}
use Rattle.pef_model.specs.declared.command.Code.TheVariants.{USuccess}
use Rattle.pef_guest.specs.declared.guest.Guest.{Guest}
use Rattle.pef_guest.specs.Keeps.{KeepsFrames}
use Rattle.pef_guest.specs.Whole.{IsWhole}
use Rattle.pef_move.specs.Unseal.{last_tag}
use Rattle.pef_move.proofs.Ended.{moving_below}
use Rattle.pef_move.proofs.Come.{accepted_whole, accepted_frames, accepted_guest}
use Rattle.pef_move.proofs.ComeRows.{RowOf, row_accepted}
use Rattle.pef_move.proofs.page_in.page_in_end.Goals as goal

-- A page that was accepted is Secure with what the hand unsealed to.
pub returns-clause-does : goal.returns-clause-does
returns-clause-does g c pool =
    let moves = c.requires.ready c.requires.now in
    let below = moving_below c.args.guest.now.pages c.args.inward.gfn _ moves in
    let back : BackWith c.args.cpu.now c.come_back.new.self USuccess = search rules in
    let kept = kept_or_refused c.args.guest.now c.args.cpu.now.hand c.args.inward c.requires.now c.requires.kept in
    let is = sym (accepted_guest c.args.guest.now c.args.cpu.now c.args.inward below moves c.unseal.ensures.frame c.unseal.ensures.there c.unseal.ensures.bytes c.unseal.ensures.size c.unseal.new.guest c.end_in.new.self c.unseal.ensures.guest_is c.end_in.ensures.pages) in
    record {
      whole = subst (IsWhole g.S.Seal.takes) is (accepted_whole c.args.guest.now c.args.cpu.now c.args.inward below moves c.unseal.ensures.frame c.unseal.ensures.there c.unseal.ensures.bytes c.unseal.ensures.size g.S.Seal.takes c.requires.whole);
      keeps = search rules;
      life = search rules;
      movers = search rules;
      frames = subst (λ (guest : Guest g.row.S.Denot). KeepsFrames c.args.guest.now guest pool pool) is (accepted_frames c.args.guest.now c.args.cpu.now c.args.inward below moves c.unseal.ensures.frame c.unseal.ensures.there c.unseal.ensures.bytes c.unseal.ensures.size pool);
      own = own_back _ c.args.cpu.now c.come_back.new.self USuccess back;
      works = works_back _ c.args.cpu.now c.come_back.new.self USuccess back;
      pool_stays = λ unused. refl;
      refused = rw (c.requires.working, c.come_back.ensures.answer) tt;
      row = in_ends g.S.Seal.takes g.S.Seal.stands g.S.Seal.image c.args.guest.now _ c.args.cpu.now c.come_back.new.self pool pool c.come_back.result c.args.inward c.requires.working c.requires.copied
          (λ plan guest part mark shows shows_cpu clean.
          rw (c.come_back.ensures.answer, c.come_back.ensures.cpu)
          (subst (λ (new : Guest g.row.S.Denot). RowOf g.S.Seal.stands g.S.Seal.image plan guest part mark c.args.guest.now c.args.cpu.now c.args.inward pool below moves shows shows_cpu c.requires.now clean true (is_so kept) new USuccess (length pool.free))
          is
          (row_accepted g.S.Seal.stands g.S.Seal.image plan guest part mark c.args.guest.now c.args.cpu.now c.args.inward pool below moves shows shows_cpu c.requires.now clean
          true (is_so kept) refl c.requires.whole.shift c.unseal.ensures.frame c.unseal.ensures.there c.unseal.ensures.bytes c.unseal.ensures.size
          (λ page stands. c.unseal.ensures.plain page (subst (λ (hand : List ℕ). g.S.Seal.stands c.args.guest.now.sealer (last_tag c.args.guest.now c.args.inward.gfn) page hand) (sym c.hand.ensures) stands)))));
    }
