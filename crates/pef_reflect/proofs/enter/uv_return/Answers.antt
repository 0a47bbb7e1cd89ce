use Rattle.std.proofs.Common.{refl, sym, ◌∙◌, arith}
use Rattle.pef_model.specs.declared.command.Cmd.TheVariants.{UReturn}
use Rattle.pef_model.specs.declared.command.Code.TheVariants.{UInvalid}
use Rattle.pef_model.specs.Registers.{loaded}
use Rattle.pef_guest.specs.Shows.{vcpu_at}
use Rattle.pef_guest.proofs.Loading.{refuses}
use Rattle.pef_reflect.proofs.AtOnce.{refuses_does}
use Rattle.pef_reflect.proofs.TakenUp.{takes_up}
use Rattle.pef_reflect.proofs.ReturnRow.{may_run, returning_in, going_on_in, works_in, returns_also, stays_also}
use Rattle.pef_reflect.proofs.enter.uv_return.Goals as goal

pub returns : goal.returns
returns g c pool =
    let may = sym c.can_return.ensures ∙ c.if-not-can_return.false in
    rw (c.take_up.ensures.answer, c.take_up.ensures.cpu, c.take_up.ensures.guest, c.load.ensures.gpr)
    (takes_up g.S.Seal.takes g.S.Seal.stands g.S.Seal.image (UReturn c.args.r0 c.args.r2 c.args.outs.now) (returning_in c.args.guest.now c.args.cpu.now.vid c.args.r0 c.args.r2 c.args.outs.now) (λ own. loaded own (UReturn c.args.r0 c.args.r2 c.args.outs.now)) (going_on_in c.args.guest.now c.args.cpu.now.vid) c.args.guest.now c.args.cpu.now pool _ refl c.requires.vcpu
    (works_in _ _ (vcpu_at c.args.guest.now c.args.cpu.now.vid).state _) c.requires.hypervisor c.requires.selects (may_run c.args.guest.now.phase _ may) c.requires.whole
    (λ plan whole part mark shows shows_cpu. returns_also g.S.Seal.stands g.S.Seal.image c.args.r0 c.args.r2 c.args.outs.now c.args.guest.now c.args.cpu.now c.requires.vcpu plan whole part mark shows shows_cpu may))

pub returns-then-not-can_return : goal.returns-then-not-can_return
returns-then-not-can_return g c pool =
    rw (c.refuse.ensures.answer, c.refuse.ensures.cpu, c.load.ensures.gpr)
    (refuses_does g.S.Seal.takes g.S.Seal.stands g.S.Seal.image (UReturn c.args.r0 c.args.r2 c.args.outs.now) UInvalid (λ own. loaded own (UReturn c.args.r0 c.args.r2 c.args.outs.now)) c.args.guest.now c.args.cpu.now pool
    c.requires.hypervisor c.requires.whole (rw (sym c.load.ensures.gpr) (refuses c.args.cpu.now c.load.new.gpr UInvalid (let long = c.load.array_long in omega (arith, long)) c.load.ensures.rest))
    (λ plan whole part mark shows shows_cpu. stays_also g.S.Seal.stands g.S.Seal.image c.args.r0 c.args.r2 c.args.outs.now c.args.guest.now c.args.cpu.now c.requires.vcpu plan whole part mark shows shows_cpu (sym c.can_return.ensures ∙ c.if-not-can_return.true)))
