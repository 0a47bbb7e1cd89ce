use Rattle.std.proofs.Common.{◌≡◌, refl}
use Rattle.pef_model.specs.Deed.{refused_with}
use Rattle.pef_guest.specs.Shows.{vcpu_at}
use Rattle.pef_guest.specs.Does.{is_any_free}
use Rattle.pef_guest.proofs.Asked.{vcpu_does}
use Rattle.pef_guest.proofs.OneVcpu.{is_at}
use Rattle.pef_reflect.proofs.OwnRow.{refused_guest, refused_row, call_inside}
use Rattle.pef_reflect.proofs.own.refuse_call.Goals as goal

pub returns : goal.returns
returns g c pool =
    let vcpu : c.index_mut.result.now ≡ vcpu_at c.args.guest.now c.args.run.vid = is_at c.args.guest.now c.args.run.vid c.index_mut.result.now c.requires.runs.vid c.index_mut.ensures.value in
    rw c.call_refused.ensures.answer
    (vcpu_does c.requires.runs (λ plan whole shows. call_inside plan whole.part c.args.cmd.now c.requires.call) c.call_refused.new.vcpu c.requires.whole
    (λ refusal. (refused_guest c.args.guest.now c.args.run.vid c.index_mut.result.now c.requires.runs.vid c.index_mut.ensures.value c.call_refused.new.vcpu (refused_with c.args.cmd.now) c.call_refused.ensures.refused, refl, refl))
    (λ plan whole found part mark shows shows_cpu.
    rw (c.call_refused.ensures.vcpu, vcpu)
    (refused_row g.S.Seal.stands g.S.Seal.image plan c.args.guest.now whole found (is_any_free pool) c.args.run c.args.cpu.now part mark pool c.requires.runs shows shows_cpu c.args.cmd.now c.requires.call)))
