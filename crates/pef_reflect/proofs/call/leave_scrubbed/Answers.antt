use Rattle.std.proofs.Common.{◌≡◌, ℕ, List, length, ap, sym}
use Rattle.pef_model.specs.declared.state.Ctx.TheVariants as ctx
use Rattle.pef_model.specs.declared.entry.Exit.TheVariants.{Hcall}
use Rattle.pef_model.specs.declared.entry.Answer.TheVariants.{Exit}
use Rattle.pef_model.proofs.Hypercalls.{shows_scrubbed}
use Rattle.pef_reflect.proofs.call.leave_scrubbed.Goals as goal

-- the scrubbed registers are those that show what the call lets out
pub returns-clause-cpu : goal.returns-clause-cpu
returns-clause-cpu c =
    let full : length c.args.vcpu.now.regs.gpr ≡ 32 = c.are_32.ensures in
    rw (c.leave.ensures.cpu, c.scrub.ensures, c.park.ensures)
    (ap (λ (gpr : List ℕ). record c.args.cpu.now { ctx = ctx.Hv; gpr = gpr; lpid = c.args.run.lpid; vid = c.args.run.vid; last = Exit (Hcall c.args.row.now.number) })
    (sym (shows_scrubbed c.args.row.now c.args.vcpu.now.regs c.requires.row full)))
