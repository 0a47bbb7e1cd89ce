use Rattle.std.proofs.Common.{rules, [], ap, refl, ◌∙◌}
use Rattle.pef_model.specs.Registers.{loaded}
use Rattle.pef_move.proofs.Begun.{whole, keeps, frames, movers, leaves, sealers}
use Rattle.pef_move.proofs.BegunRows.{row_refused, row_begun}
use Rattle.pef_frames.specs.Pool.{PoolState}
use Rattle.pef_move.specs.PageOut.{KeepsCpu}
use Rattle.pef_guest.proofs.Asked.{frames_stay}
use Rattle.pef_move.proofs.Bundle.{own_of, out_begins, came_back, goes_on}
use Rattle.pef_move.proofs.Codes.{code_is}
use Rattle.pef_move.proofs.page_out.page_out_begin.Goals as goal

-- the registers that the call loads
-- One page changes, and it keeps its frame; what is sealed is what the model seals.
pub returns-in-Ok-clause-does : goal.returns-in-Ok-clause-does
returns-in-Ok-clause-does g c pool = record {
  whole = whole g.S.Seal.stands g.S.Seal.image g.S.Seal.takes c.args.guest.now c.begin.new.guest c.args.cpu.now c.begin.new.cpu c.load.new.gpr c.args.call.now c.in-Ok.route c.in-Ok.ensures.route c.begin.ensures.begun c.requires.whole;
  keeps = keeps g.S.Seal.stands g.S.Seal.image g.S.Seal.takes c.args.guest.now c.begin.new.guest c.args.cpu.now c.begin.new.cpu c.load.new.gpr c.args.call.now c.in-Ok.route c.in-Ok.ensures.route c.begin.ensures.begun;
  life = search rules;
  movers = movers g.S.Seal.stands g.S.Seal.image g.S.Seal.takes c.args.guest.now c.begin.new.guest c.args.cpu.now c.begin.new.cpu c.load.new.gpr c.args.call.now c.in-Ok.route c.in-Ok.ensures.route c.begin.ensures.begun;
  frames = frames_stay c.args.guest.now c.begin.new.guest pool (frames g.S.Seal.stands g.S.Seal.image g.S.Seal.takes c.args.guest.now c.begin.new.guest c.args.cpu.now c.begin.new.cpu c.load.new.gpr c.args.call.now c.in-Ok.route c.in-Ok.ensures.route c.begin.ensures.begun);
  own = (let kept : KeepsCpu c.args.cpu.now c.begin.new.cpu = search rules in own_of c.begin.new.guest c.args.cpu.now c.begin.new.cpu kept);
  works = leaves g.S.Seal.stands g.S.Seal.image g.S.Seal.takes c.args.guest.now c.begin.new.guest c.args.cpu.now c.begin.new.cpu c.load.new.gpr c.args.call.now c.in-Ok.route c.in-Ok.ensures.route c.begin.ensures.begun;
  pool_stays = λ unused. refl;
  refused = rw (c.requires.hypervisor, c.begin.ensures.answer) tt;
  row = out_begins g.S.Seal.takes g.S.Seal.stands g.S.Seal.image c.args.guest.now c.begin.new.guest c.args.cpu.now c.begin.new.cpu pool pool c.begin.result c.args.call.now c.requires.hypervisor refl
      (λ plan whole part mark marked shows shows_cpu.
      rw c.begin.ensures.answer
      (row_begun g.S.Seal.stands g.S.Seal.image g.S.Seal.takes plan whole part mark c.args.guest.now c.args.cpu.now c.args.call.now shows shows_cpu c.requires.hypervisor c.load.new.gpr (c.load.ensures.gpr ∙ ap (loaded c.args.cpu.now.gpr) c.page_out.ensures)
      c.begin.new.guest c.begin.new.cpu c.in-Ok.route c.requires.named marked c.requires.whole c.in-Ok.ensures.route c.begin.ensures.begun (c.in-Ok.ensures.code plan whole.part)));
}

pub returns-in-Ok-clause-sealer : goal.returns-in-Ok-clause-sealer
returns-in-Ok-clause-sealer g c = sealers g.S.Seal.stands g.S.Seal.image g.S.Seal.takes c.args.guest.now c.begin.new.guest c.args.cpu.now c.begin.new.cpu c.load.new.gpr c.args.call.now c.in-Ok.route c.in-Ok.ensures.route c.begin.ensures.begun

-- A call that comes back at once changes the CPU alone.
pub returns-in-Err-clause-does : goal.returns-in-Err-clause-does
returns-in-Err-clause-does g c pool = record {
  whole = search rules;
  keeps = search rules;
  life = search rules;
  movers = search rules;
  frames = search rules;
  own = (let kept : KeepsCpu c.args.cpu.now c.refuse.new.self = search rules in own_of _ c.args.cpu.now c.refuse.new.self kept);
  works = search rules;
  pool_stays = λ unused. refl;
  refused = search rules;
  row = out_begins g.S.Seal.takes g.S.Seal.stands g.S.Seal.image c.args.guest.now _ c.args.cpu.now c.refuse.new.self pool pool c.refuse.result c.args.call.now c.requires.hypervisor refl
      (λ plan whole part mark marked shows shows_cpu.
      rw (c.refuse.ensures.answer, c.refuse.ensures.cpu)
      (row_refused g.S.Seal.stands g.S.Seal.image g.S.Seal.takes plan whole part mark c.args.guest.now c.args.cpu.now c.args.call.now shows shows_cpu c.requires.hypervisor c.load.new.gpr (c.load.ensures.gpr ∙ ap (loaded c.args.cpu.now.gpr) c.page_out.ensures)
      c.in-Err.code (c.in-Err.ensures.code plan whole.part)));
}

-- The code is the model's.
pub returns-in-Ok-clause-code : goal.returns-in-Ok-clause-code
returns-in-Ok-clause-code g c plan whole shows code =
    rw c.begin.ensures.answer (goes_on code _ (c.in-Ok.ensures.code plan whole.part ∙ code_is g.S.Seal.stands g.S.Seal.image plan c.args.guest.now whole c.args.call.now shows))

pub returns-in-Err-clause-code : goal.returns-in-Err-clause-code
returns-in-Err-clause-code g c plan whole shows code =
    rw c.refuse.ensures.answer (came_back code c.in-Err.code _ (c.in-Err.ensures.code plan whole.part ∙ code_is g.S.Seal.stands g.S.Seal.image plan c.args.guest.now whole c.args.call.now shows))

-- The same, for a caller that has no pool.
any_pool : PoolState
any_pool = record { count = 0; size = 0; free = [] }

pub returns-in-Ok-clause-whole : goal.returns-in-Ok-clause-whole
returns-in-Ok-clause-whole g c = (returns-in-Ok-clause-does g c any_pool).whole

pub returns-in-Ok-clause-keeps : goal.returns-in-Ok-clause-keeps
returns-in-Ok-clause-keeps g c = (returns-in-Ok-clause-does g c any_pool).keeps

pub returns-in-Ok-clause-own : goal.returns-in-Ok-clause-own
returns-in-Ok-clause-own g c = (returns-in-Ok-clause-does g c any_pool).own

pub returns-in-Ok-clause-works : goal.returns-in-Ok-clause-works
returns-in-Ok-clause-works g c = (returns-in-Ok-clause-does g c any_pool).works

pub returns-in-Err-clause-whole : goal.returns-in-Err-clause-whole
returns-in-Err-clause-whole g c = (returns-in-Err-clause-does g c any_pool).whole

pub returns-in-Err-clause-keeps : goal.returns-in-Err-clause-keeps
returns-in-Err-clause-keeps g c = (returns-in-Err-clause-does g c any_pool).keeps

pub returns-in-Err-clause-own : goal.returns-in-Err-clause-own
returns-in-Err-clause-own g c = (returns-in-Err-clause-does g c any_pool).own

pub returns-in-Err-clause-works : goal.returns-in-Err-clause-works
returns-in-Err-clause-works g c = (returns-in-Err-clause-does g c any_pool).works
