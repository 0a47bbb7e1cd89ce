use Rattle.std.proofs.Common.{◌∙◌, sym}
use Rattle.pef_model.specs.History.{ask_of}
use Rattle.pef_core.proofs.Touching.{wants_uses, asking_frameless, wants_frameless}
use Rattle.pef_core.proofs.lent.needs.Goals as goal

-- what asks for a frame goes into no normal one
pub returns-then-touches_pool-clause-touches : goal.returns-then-touches_pool-clause-touches
returns-then-touches_pool-clause-touches g c plan guest found any part mark shows shows_cpu clean =
    let touched = c.touches_pool.ensures.model plan guest found any part mark shows shows_cpu clean ∙ c.if-touches_pool.true in
    (touched, asking_frameless plan guest found any (ask_of part c.args.cmd.now) part.ctx c.args.cmd.now touched)

pub returns-then-touches_pool-clause-used : goal.returns-then-touches_pool-clause-used
returns-then-touches_pool-clause-used g c pool = wants_uses c.args.guest.now c.args.cpu.now c.args.cpu.now.ctx c.args.cpu.now.lpid c.args.guest.now.lpid c.args.cmd.now c.requires.aims (c.touches_pool.ensures.here.0 c.if-touches_pool.true)

pub returns-then-touches_pool-clause-frame : goal.returns-then-touches_pool-clause-frame
returns-then-touches_pool-clause-frame g c = sym (wants_frameless c.args.guest.now c.args.cpu.now c.args.cpu.now.ctx c.args.cmd.now (c.touches_pool.ensures.here.0 c.if-touches_pool.true))

pub returns-in-None-clause-touches : goal.returns-in-None-clause-touches
returns-in-None-clause-touches g c plan guest found any part mark shows shows_cpu clean =
    (c.touches_pool.ensures.model plan guest found any part mark shows shows_cpu clean ∙ c.if-touches_pool.false, c.touched_frame.ensures.model plan guest found any part mark shows shows_cpu ∙ c.in-None.is)
