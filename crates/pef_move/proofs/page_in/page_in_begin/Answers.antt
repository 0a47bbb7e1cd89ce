use Rattle.std.proofs.Common.{rules, ◌<◌, arith, refl, ap, sym, subst, ◌∙◌}
use Rattle.pef_model.specs.Registers.{loaded}
use Rattle.pef_frames.specs.Pool.{PoolState}
use Rattle.pef_model.specs.declared.command.Code.TheVariants.{UBusy}
use Rattle.pef_move.proofs.Coming.{whole, frames}
use Rattle.pef_move.proofs.ComingRows.{row_busy, row_begun}
use Rattle.pef_move.specs.PageOut.{KeepsCpu}
use Rattle.pef_guest.proofs.Loading.{refuses}
use Rattle.pef_guest.proofs.Asked.{refused_call}
use Rattle.pef_move.proofs.Bundle.{own_of, in_begins}
use Rattle.pef_move.proofs.page_in.page_in_begin.Goals as goal

-- the registers that the call loads
-- A page that begins to come in has the frame that was taken.
pub returns-clause-does : goal.returns-clause-does
returns-clause-does g c =
    let first = sym c.in-Some.ensures.frame in
    record {
      whole =
          rw c.begin_in.ensures
          (whole c.args.guest.now c.args.cpu.now c.args.call.now c.in-Ok.route c.in-Some.frame c.args.pool.now c.in-Ok.ensures.route first g.S.Seal.takes c.requires.pool
          (subst (λ (pool : PoolState). c.in-Some.frame.number < pool.count) c.take.ensures.pool c.in-Some.ensures.number) c.requires.whole);
      keeps = search rules;
      life = search rules;
      movers = search rules;
      frames = rw (c.begin_in.ensures, c.take.ensures.pool) (frames c.args.guest.now c.args.cpu.now c.args.call.now c.in-Ok.route c.in-Some.frame c.args.pool.now c.in-Ok.ensures.route first);
      own = (let kept : KeepsCpu c.args.cpu.now c.begin.new.self = search rules in own_of _ c.args.cpu.now c.begin.new.self kept);
      works = search rules;
      pool_stays = rw c.requires.hypervisor (λ used. cc);
      refused = rw (c.requires.hypervisor, c.begin.ensures.answer) tt;
      row = in_begins g.S.Seal.takes g.S.Seal.stands g.S.Seal.image c.args.guest.now _ c.args.cpu.now c.begin.new.self c.args.pool.now c.take.new.self c.begin.result c.args.call.now c.requires.hypervisor
          (λ plan guest part mark marked shows shows_cpu.
          rw (c.begin.ensures.answer, c.begin.ensures.cpu, c.begin_in.ensures, c.take.ensures.pool)
          (row_begun g.S.Seal.stands g.S.Seal.image plan guest part mark c.args.guest.now c.args.cpu.now c.args.call.now c.args.pool.now shows shows_cpu c.requires.hypervisor c.load.new.gpr (c.load.ensures.gpr ∙ ap (loaded c.args.cpu.now.gpr) c.page_in.ensures)
          c.in-Ok.route c.in-Some.frame c.requires.named marked c.in-Ok.ensures.route first (c.in-Ok.ensures.code plan guest.part)));
    }

-- Without a free frame the CPU alone changes.
pub returns-in_default-take-clause-does : goal.returns-in_default-take-clause-does
returns-in_default-take-clause-does g c = record {
  whole = search rules;
  keeps = search rules;
  life = search rules;
  movers = search rules;
  frames = search rules;
  own = (let kept : KeepsCpu c.args.cpu.now c.refuse.new.self = search rules in own_of _ c.args.cpu.now c.refuse.new.self kept);
  works = search rules;
  pool_stays = rw c.requires.hypervisor (λ used. cc);
  refused =
      rw c.refuse.ensures.answer
      (refused_call _ c.requires.hypervisor (rw c.refuse.ensures.cpu (refuses c.args.cpu.now c.load.new.gpr UBusy (let long = c.load.array_long in omega (arith, long)) c.load.ensures.rest)) (search rules, search rules));
  row = in_begins g.S.Seal.takes g.S.Seal.stands g.S.Seal.image c.args.guest.now _ c.args.cpu.now c.refuse.new.self c.args.pool.now c.take.new.self c.refuse.result c.args.call.now c.requires.hypervisor
      (λ plan guest part mark marked shows shows_cpu.
      rw (c.refuse.ensures.answer, c.refuse.ensures.cpu, c.take.ensures.pool)
      (row_busy g.S.Seal.stands g.S.Seal.image plan guest part mark c.args.guest.now c.args.cpu.now c.args.call.now c.args.pool.now shows shows_cpu c.requires.hypervisor c.load.new.gpr (c.load.ensures.gpr ∙ ap (loaded c.args.cpu.now.gpr) c.page_in.ensures)
      (c.in-Ok.ensures.code plan guest.part) (c.in_default-take.ensures.none.0 refl)));
}
