use Rattle.std.proofs.Common.{rules, false, refl}
use Rattle.pef_guest.specs.Refused.{BackWith}
use Rattle.pef_move.proofs.Bundle.{own_back, works_back, in_ends}
use Rattle.pef_move.proofs.OnWayIn.{is_not}
use Rattle.pef_model.specs.declared.command.Code.TheVariants.{UP2}
use Rattle.pef_move.proofs.Ended.{moving_below}
use Rattle.pef_move.proofs.Come.{refused_whole, refused_frames}
use Rattle.pef_move.proofs.ComeRows.{row_refused}
use Rattle.pef_move.proofs.page_in.page_in_end_refused.Goals as goal

-- The page's frame is one of the machine's.
pub refuse-requires-clause-frames : goal.refuse-requires-clause-frames
refuse-requires-clause-frames g c frame there = rw (c.requires.pool.size, c.requires.pool.count) (c.requires.whole.frames c.args.inward.gfn frame there)

-- A page that was refused is as before, and its frame is free.
pub returns-clause-does : goal.returns-clause-does
returns-clause-does g c =
    let moves = c.requires.ready c.requires.differs.now in
    let below = moving_below c.args.guest.now.pages c.args.inward.gfn _ moves in
    let back : BackWith c.args.cpu.now c.come_back.new.self UP2 = search rules in
    record {
      whole = rw c.refuse.ensures.pages (refused_whole c.args.guest.now c.args.cpu.now c.args.inward below moves g.S.Seal.takes c.requires.whole);
      keeps = search rules;
      life = search rules;
      movers = search rules;
      frames = rw (c.refuse.ensures.pages, c.refuse.ensures.pool_is) (refused_frames c.args.guest.now c.args.cpu.now c.args.inward below moves c.refuse.ensures.frame c.args.pool.now c.refuse.ensures.there);
      own = own_back _ c.args.cpu.now c.come_back.new.self UP2 back;
      works = works_back _ c.args.cpu.now c.come_back.new.self UP2 back;
      pool_stays = rw c.requires.working (λ unused. absurd (let copied = c.requires.copied in cc));
      refused =
          rw (c.requires.working, c.come_back.ensures.answer)
          (c.come_back.ensures.cpu, record { frame = c.refuse.ensures.frame; there = c.refuse.ensures.there; pool_is = c.refuse.ensures.pool_is; pages = c.refuse.ensures.pages; kind_is = search rules; digest = search rules; sealer = refl });
      row = in_ends g.S.Seal.takes g.S.Seal.stands g.S.Seal.image c.args.guest.now _ c.args.cpu.now c.come_back.new.self c.args.pool.now c.refuse.new.pool c.come_back.result c.args.inward c.requires.working c.requires.copied
          (λ plan guest part mark shows shows_cpu clean.
          rw (c.come_back.ensures.answer, c.come_back.ensures.cpu, c.refuse.ensures.pages, c.refuse.ensures.pool_is)
          (row_refused g.S.Seal.stands g.S.Seal.image plan guest part mark c.args.guest.now c.args.cpu.now c.args.inward c.args.pool.now below moves shows shows_cpu c.requires.differs.now clean
          false (is_not _ c.requires.differs.differs) refl c.refuse.ensures.frame.number));
    }
