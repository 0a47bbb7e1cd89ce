use Rattle.std.proofs.Common.{rules, ◌+◌, refl, inl}
use Rattle.pef_guest.proofs.Asked.{frames_stay, makes_gone}
use Rattle.pef_reflect.proofs.GoneRow.{gone_row}
use Rattle.pef_reflect.proofs.leave.gone.Goals as goal

-- the CPU alone changes, and a count of steps
pub returns : goal.returns
returns g c pool cmd =
    rw (c.gone.ensures.answer, c.gone.ensures.cpu) (record {
      whole = search rules;
      keeps = search rules;
      life = search rules;
      movers = λ gfn mover same other moves. moves;
      frames = frames_stay c.args.guest.now (record c.args.guest.now { steps = c.args.guest.now.steps + 1 }) pool (λ number. refl);
      own = record { number = refl; hand = refl; selects = inl (refl, refl) };
      works = tt;
      pool_stays = λ unused. refl;
      refused = rw c.requires.runs (refl, (search rules, refl));
      row = makes_gone g.S.Seal.takes g.S.Seal.stands g.S.Seal.image cmd c.args.guest.now _ c.args.cpu.now _ pool pool _ c.args.run c.requires.runs c.requires.ended
          (λ plan whole part mark shows shows_cpu. gone_row g.S.Seal.stands g.S.Seal.image plan c.args.guest.now whole c.args.cpu.now part c.args.run mark cmd pool shows shows_cpu);
    })
