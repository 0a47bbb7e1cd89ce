use Rattle.std.proofs.Common.{rules, arith, refl, ap, ◌∙◌}
use Rattle.pef_model.specs.Registers.{loaded}
use Rattle.pef_move.proofs.Codes.{operands_are}
use Rattle.pef_move.proofs.ComingRows.{row_refused}
use Rattle.pef_move.specs.PageOut.{KeepsCpu}
use Rattle.pef_guest.proofs.Loading.{refuses}
use Rattle.pef_guest.proofs.Asked.{refused_call}
use Rattle.pef_move.proofs.Bundle.{own_of, in_begins, came_back}
use Rattle.pef_move.proofs.page_in.page_in_refused.Goals as goal

-- the registers that the call loads
pub returns-clause-does : goal.returns-clause-does
returns-clause-does g c pool = record {
  whole = search rules;
  keeps = search rules;
  life = search rules;
  movers = search rules;
  frames = search rules;
  own = (let kept : KeepsCpu c.args.cpu.now c.refuse.new.self = search rules in own_of _ c.args.cpu.now c.refuse.new.self kept);
  works = search rules;
  pool_stays = λ unused. refl;
  refused =
      rw c.refuse.ensures.answer
      (refused_call _ c.requires.hypervisor (rw c.refuse.ensures.cpu (refuses c.args.cpu.now c.load.new.gpr c.in-Err.code (let long = c.load.array_long in omega (arith, long)) c.load.ensures.rest)) (search rules, refl));
  row = in_begins g.S.Seal.takes g.S.Seal.stands g.S.Seal.image c.args.guest.now _ c.args.cpu.now c.refuse.new.self pool pool c.refuse.result c.args.call.now c.requires.hypervisor
      (λ plan guest part mark marked shows shows_cpu.
      rw (c.refuse.ensures.answer, c.refuse.ensures.cpu)
      (row_refused g.S.Seal.stands g.S.Seal.image plan guest part mark c.args.guest.now c.args.cpu.now c.args.call.now pool shows shows_cpu c.requires.hypervisor c.load.new.gpr (c.load.ensures.gpr ∙ ap (loaded c.args.cpu.now.gpr) c.page_in.ensures)
      c.in-Err.code (c.in-Err.ensures.code plan guest.part)));
}

-- The code is the model's.
pub returns-clause-code : goal.returns-clause-code
returns-clause-code g c plan guest shows code =
    rw c.refuse.ensures.answer (came_back code c.in-Err.code _ (c.in-Err.ensures.code plan guest.part ∙ operands_are g.S.Seal.stands g.S.Seal.image plan c.args.guest.now guest c.args.call.now shows))

-- A call that comes back changes the CPU alone.
pub returns-clause-refused : goal.returns-clause-refused
returns-clause-refused g c pool =
    rw (c.refuse.ensures.answer, c.refuse.ensures.cpu) (
      rw (c.load.ensures.gpr, c.page_in.ensures) refl,
      refuses c.args.cpu.now c.load.new.gpr c.in-Err.code (let long = c.load.array_long in omega (arith, long)) c.load.ensures.rest,
      record { rest = record { lpid = refl; shift = refl; normal = refl; secure = refl; phase = refl; generation = refl; entry = refl; slots = refl; words = refl; pages = refl; sealer = refl }; vcpus = refl },
      refl,
    )
