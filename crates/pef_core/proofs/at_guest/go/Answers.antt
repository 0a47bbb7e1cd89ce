use Rattle.std.proofs.Common.{rules, ◌≡◌, Some, subst}
use Rattle.pef_model.specs.declared.state.Ctx.{Ctx}
use Rattle.pef_model.specs.declared.state.Ctx.TheVariants as ctx
use Rattle.pef_model.specs.declared.state.Work.TheVariants.{Inward, Outward}
use Rattle.pef_guest.specs.Aims.{guest_aimed}
use Rattle.pef_core.proofs.Touching.{ends_in, ends_out}
use Rattle.pef_core.proofs.at_guest.go.Goals as goal

-- what aims at a guest with a move in progress is its end
pub returns-in-Inward : goal.returns-in-Inward
returns-in-Inward g c pool =
    let is : c.args.cpu.now.ctx ≡ ctx.Uv (Inward c.in-Inward.page) = search rules in
    let ends = ends_in c.in-Inward.page c.args.cpu.now.lpid c.args.guest.now.lpid c.args.cmd.now (subst (λ (x : Ctx). guest_aimed x c.args.cpu.now.lpid c.args.cmd.now ≡ Some c.args.guest.now.lpid) is c.requires.ready.aims) in
    rw ends.is (c.end_late.ensures.does pool)

pub returns-in-Inward-2 : goal.returns-in-Inward-2
returns-in-Inward-2 g c pool =
    let is : c.args.cpu.now.ctx ≡ ctx.Uv (Inward c.in-Inward-2.page) = search rules in
    let ends = ends_in c.in-Inward-2.page c.args.cpu.now.lpid c.args.guest.now.lpid c.args.cmd.now (subst (λ (x : Ctx). guest_aimed x c.args.cpu.now.lpid c.args.cmd.now ≡ Some c.args.guest.now.lpid) is c.requires.ready.aims) in
    rw ends.is (c.page_in_end.ensures.does pool)

pub returns-in-Outward : goal.returns-in-Outward
returns-in-Outward g c pool =
    let is : c.args.cpu.now.ctx ≡ ctx.Uv (Outward c.in-Outward.page) = search rules in
    let ends = ends_out c.in-Outward.page c.args.cpu.now.lpid c.args.guest.now.lpid c.args.cmd.now (subst (λ (x : Ctx). guest_aimed x c.args.cpu.now.lpid c.args.cmd.now ≡ Some c.args.guest.now.lpid) is c.requires.ready.aims) in
    rw ends.is (c.end_late-in-Outward.ensures.does pool)
