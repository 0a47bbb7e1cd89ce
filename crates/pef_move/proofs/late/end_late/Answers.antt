use Rattle.std.proofs.Common.{rules, refl}
use Rattle.pef_model.specs.declared.command.Code.TheVariants.{UParameter}
use Rattle.pef_guest.specs.Refused.{BackWith}
use Rattle.pef_move.proofs.Bundle.{own_back, works_back}
use Rattle.pef_move.proofs.LateEnds.{late_makes}
use Rattle.pef_move.proofs.late.end_late.Goals as goal

-- An end under another generation leaves the guest and the pool.
pub returns-clause-does : goal.returns-clause-does
returns-clause-does g c pool =
    let back : BackWith c.args.cpu.now c.come_back.new.self UParameter = search rules in
    record {
      whole = search rules;
      keeps = search rules;
      life = search rules;
      movers = search rules;
      frames = search rules;
      own = own_back _ c.args.cpu.now c.come_back.new.self UParameter back;
      works = works_back _ c.args.cpu.now c.come_back.new.self UParameter back;
      pool_stays = λ unused. refl;
      refused = rw (c.requires.working, c.come_back.ensures.answer) (c.come_back.ensures.cpu, (search rules, refl));
      row = rw (c.come_back.ensures.answer, c.come_back.ensures.cpu) (late_makes g.S.Seal.takes g.S.Seal.stands g.S.Seal.image c.args.guest.now c.args.cpu.now pool c.args.way c.args.page c.requires.working c.requires.copied c.requires.late);
    }
