use Rattle.std.proofs.Common.{refl, sym, ◌∙◌}
use Rattle.pef_model.specs.declared.state.Ctx.TheVariants as ctx
use Rattle.pef_model.specs.declared.command.Cmd.TheVariants.{HEnter}
use Rattle.pef_model.specs.declared.command.Code.TheVariants.{UParameter, UP2}
use Rattle.pef_guest.proofs.OneVcpu.{is_at}
use Rattle.pef_reflect.proofs.AtOnce.{refuses_does}
use Rattle.pef_reflect.proofs.TakenUp.{takes_up}
use Rattle.pef_reflect.proofs.EnterRow.{may_run, is_there, answering_in, refused_guest, refused_vcpu, enters_also}
use Rattle.pef_reflect.proofs.enter.enter_normal.Goals as goal

pub returns : goal.returns
returns g c pool lpid named =
    let may = sym c.may_enter.ensures ∙ c.if-not-may_enter.false in
    let waits = sym c.has_vcpu_to_enter.ensures ∙ c.if-not-has_vcpu_to_enter.false in
    let below = is_there c.args.guest.now c.args.vid waits in
    let vcpu = is_at c.args.guest.now c.args.vid c.index_mut-vcpu.result.now below c.index_mut-vcpu.ensures.value in
    rw (c.enter.ensures.answer, c.enter.ensures.cpu, c.take_up.ensures, c.give_answer.ensures, vcpu)
    (takes_up g.S.Seal.takes g.S.Seal.stands g.S.Seal.image (HEnter lpid c.args.vid c.args.value) (answering_in c.args.guest.now c.args.vid c.args.value) (λ own. own) ctx.Guest c.args.guest.now c.args.cpu.now pool _ refl below
    (λ runs. runs) c.requires.hypervisor refl (may_run c.args.guest.now.phase may) c.requires.whole
    (λ plan whole part mark shows shows_cpu. enters_also g.S.Seal.stands g.S.Seal.image lpid c.args.vid c.args.value c.args.guest.now named plan whole part mark shows may waits))

pub returns-then-not-may_enter : goal.returns-then-not-may_enter
returns-then-not-may_enter g c pool lpid named =
    rw (c.refuse.ensures.answer, c.refuse.ensures.cpu)
    (refuses_does g.S.Seal.takes g.S.Seal.stands g.S.Seal.image (HEnter lpid c.args.vid c.args.value) UParameter (λ own. own) c.args.guest.now c.args.cpu.now pool
    c.requires.hypervisor c.requires.whole (rw (sym c.refuse.ensures.cpu) c.refuse.ensures.refused)
    (λ plan whole part mark shows shows_cpu. refused_guest g.S.Seal.stands g.S.Seal.image lpid c.args.vid c.args.value c.args.guest.now named plan whole part mark shows (sym c.may_enter.ensures ∙ c.if-not-may_enter.true)))

pub returns-then-not-has_vcpu_to_enter : goal.returns-then-not-has_vcpu_to_enter
returns-then-not-has_vcpu_to_enter g c pool lpid named =
    rw (c.refuse-then-not-has_vcpu_to_enter.ensures.answer, c.refuse-then-not-has_vcpu_to_enter.ensures.cpu)
    (refuses_does g.S.Seal.takes g.S.Seal.stands g.S.Seal.image (HEnter lpid c.args.vid c.args.value) UP2 (λ own. own) c.args.guest.now c.args.cpu.now pool
    c.requires.hypervisor c.requires.whole (rw (sym c.refuse-then-not-has_vcpu_to_enter.ensures.cpu) c.refuse-then-not-has_vcpu_to_enter.ensures.refused)
    (λ plan whole part mark shows shows_cpu. refused_vcpu g.S.Seal.stands g.S.Seal.image lpid c.args.vid c.args.value c.args.guest.now named plan whole part mark shows (sym c.may_enter.ensures ∙ c.if-not-may_enter.false) (sym c.has_vcpu_to_enter.ensures ∙ c.if-not-has_vcpu_to_enter.true)))
