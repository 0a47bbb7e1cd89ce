use Rattle.std.proofs.Common.{rules, ℕ, ◌<◌, ap, sym, subst}
use Rattle.pef_model.specs.declared.command.Code.TheVariants.{USuccess}
use Rattle.pef_guest.specs.Refused.{BackWith}
use Rattle.pef_pages.specs.Cells.{way_of}
use Rattle.pef_move.proofs.Ended.{moving_below, some_bytes, whole, frames, row_ended}
use Rattle.pef_move.proofs.Bundle.{own_back, works_back, out_ends}
use Rattle.pef_move.proofs.page_out.page_out_end.Goals as goal

-- The frame was one of the machine's, and is free.
pub give-requires-clause-number : goal.give-requires-clause-number
give-requires-clause-number g c = subst (λ (count : ℕ). c.end_out-frame.result.number < count) (sym c.requires.pool.count) (c.requires.whole.frames c.args.outward.gfn c.end_out-frame.result c.end_out-frame.ensures.frame).number

-- The page is Out, and what was pending is what was last sealed.
pub returns-clause-does : goal.returns-clause-does
returns-clause-does g c =
    let moves = c.requires.ready c.requires.now in
    let below = moving_below c.args.guest.now.pages c.args.outward.gfn _ moves in
    let back : BackWith c.args.cpu.now c.come_back.new.self USuccess = search rules in
    record {
      whole = rw c.end_out-frame.ensures.pages (whole g.S.Seal.takes c.args.guest.now c.args.cpu.now c.args.outward c.end_out-frame.result below moves c.end_out-frame.ensures.frame c.requires.whole);
      keeps = search rules;
      life = search rules;
      movers = search rules;
      frames = rw (c.end_out-frame.ensures.pages, c.give.ensures) (frames g.S.Seal.takes c.args.guest.now c.args.cpu.now c.args.outward c.end_out-frame.result below moves c.end_out-frame.ensures.frame c.args.pool.now);
      own = own_back _ c.args.cpu.now c.come_back.new.self USuccess back;
      works = works_back _ c.args.cpu.now c.come_back.new.self USuccess back;
      pool_stays = rw c.requires.working (λ unused. absurd (let copied = c.requires.copied in cc));
      refused = rw (c.requires.working, c.come_back.ensures.answer) tt;
      row = out_ends g.S.Seal.takes g.S.Seal.stands g.S.Seal.image c.args.guest.now _ c.args.cpu.now c.come_back.new.self c.args.pool.now c.give.new.self c.come_back.result c.args.outward c.requires.working
          (λ plan whole part mark shows shows_cpu.
          let pending = some_bytes (whole.part.pages c.args.outward.gfn).pending ((shows.sealed.pendings c.args.outward.gfn (subst (λ (count : ℕ). c.args.outward.gfn < count) shows.pages.count below)).0 (ap way_of moves)) in
          rw (c.end_out-frame.ensures.pages, c.give.ensures, c.come_back.ensures.answer, c.come_back.ensures.cpu)
          (row_ended g.S.Seal.takes c.args.guest.now c.args.cpu.now c.args.outward c.end_out-frame.result below moves c.end_out-frame.ensures.frame
          g.S.Seal.stands g.S.Seal.image plan whole shows pending.0 pending.1 part mark c.args.pool.now shows_cpu c.requires.now));
    }
