use Rattle.std.proofs.Common.{rules, ◌≡◌, Some, is_some, ap, sym, subst, ◌∙◌}
use Rattle.pef_model.specs.declared.state.Ctx.{Ctx}
use Rattle.pef_model.specs.declared.state.Ctx.TheVariants as ctx
use Rattle.pef_model.specs.declared.state.Work.TheVariants.{Inward, Outward}
use Rattle.pef_model.specs.declared.command.Cmd.TheVariants.{Go}
use Rattle.pef_model.specs.Target.{Ask}
use Rattle.pef_model.specs.Deed.{Deed, deed_guest}
use Rattle.pef_guest.specs.Aims.{guest_aimed}
use Rattle.pef_guest.specs.Ready.{ReadyIn}
use Rattle.pef_guest.specs.Rows.{ask_hypervisor, ask_outward}
use Rattle.pef_guest.proofs.Asked.{ask_in_hypervisor, deed_in_hypervisor}
use Rattle.pef_move.proofs.Bundle.{ask_in_inward, ask_in_outward, clean_end}
use Rattle.pef_core.proofs.Touching.{ends_in, ends_out}
use Rattle.pef_core.proofs.lent.touches_pool.Goals as goal

-- a call of the hypervisor
pub returns-in-Hv-clause-model : goal.returns-in-Hv-clause-model
returns-in-Hv-clause-model g c plan guest found any part mark shows shows_cpu clean =
    ap (λ (ask : Ask). is_some (deed_guest plan guest found any ask c.args.cmd.now).pool) (ask_in_hypervisor part c.args.cmd.now (sym shows_cpu.ctx ∙ c.in-Hv.is))
    ∙ ap (λ (deed : Deed). is_some deed.pool) (deed_in_hypervisor plan guest found any part c.args.cmd.now)
    ∙ c.asked_by_call.ensures.model plan guest any (ask_hypervisor part) shows

-- the ends of a page's move
pub refuses_page-requires : goal.refuses_page-requires
refuses_page-requires g c =
    let is : c.args.cpu.now.ctx ≡ ctx.Uv (Inward c.in-Uv-Inward.page) = search rules in
    subst (ReadyIn c.args.guest.now c.args.cpu.now) is c.requires.works

pub returns-in-Uv-Inward-clause-model : goal.returns-in-Uv-Inward-clause-model
returns-in-Uv-Inward-clause-model g c plan guest found any part mark shows shows_cpu clean =
    let is : c.args.cpu.now.ctx ≡ ctx.Uv (Inward c.in-Uv-Inward.page) = search rules in
    let ctx_is : part.ctx ≡ ctx.Uv (Inward c.in-Uv-Inward.page) = sym shows_cpu.ctx ∙ is in
    let ends = ends_in c.in-Uv-Inward.page c.args.cpu.now.lpid c.args.guest.now.lpid c.args.cmd.now (subst (λ (x : Ctx). guest_aimed x c.args.cpu.now.lpid c.args.cmd.now ≡ Some c.args.guest.now.lpid) is c.requires.aims) in
    rw ends.is
    (ap (λ (ask : Ask). is_some (deed_guest plan guest found any ask Go).pool) (ask_in_inward part c.in-Uv-Inward.page ctx_is ends.copied)
    ∙ c.refuses_page.ensures.model plan guest part shows shows_cpu (clean_end plan guest found any part mark c.in-Uv-Inward.page ctx_is ends.copied (rw ends.is at clean)))

pub returns-in-Uv-Outward-clause-model : goal.returns-in-Uv-Outward-clause-model
returns-in-Uv-Outward-clause-model g c plan guest found any part mark shows shows_cpu clean =
    let is : c.args.cpu.now.ctx ≡ ctx.Uv (Outward c.in-Uv-Outward.page) = search rules in
    let ends = ends_out c.in-Uv-Outward.page c.args.cpu.now.lpid c.args.guest.now.lpid c.args.cmd.now (subst (λ (x : Ctx). guest_aimed x c.args.cpu.now.lpid c.args.cmd.now ≡ Some c.args.guest.now.lpid) is c.requires.aims) in
    rw ends.is
    (ap (λ (ask : Ask). is_some (deed_guest plan guest found any ask Go).pool) (ask_in_outward part c.in-Uv-Outward.page (sym shows_cpu.ctx ∙ is))
    ∙ c.gives_frame_back.ensures.model plan guest (ask_outward c.in-Uv-Outward.page part) shows)
