use Rattle.std.proofs.Common.{◌+◌, refl, ap, sym, arith}
use Rattle.pef_model.specs.declared.command.Cmd.TheVariants.{UUnregslot}
use Rattle.pef_model.specs.declared.command.Code.{Code}
use Rattle.pef_model.specs.declared.entry.Answer.TheVariants.{Ret}
use Rattle.pef_model.specs.Registers.{loaded}
use Rattle.pef_model.specs.Slots.{unregistered_by}
use Rattle.pef_model.specs.Deed.{answering}
use Rattle.pef_guest.specs.Rows.{ask_hypervisor}
use Rattle.pef_guest.proofs.Loading.{refuses}
use Rattle.pef_guest.proofs.OnePage.{shows_counted}
use Rattle.pef_reflect.proofs.AtOnce.{comes_back_does}
use Rattle.pef_reflect.proofs.SlotRow.{refused_unregistered}
use Rattle.pef_reflect.proofs.slots.unregister_slot.Goals as goal

pub returns : goal.returns
returns g c pool =
    let old = c.args.guest.now in
    let call = UUnregslot c.args.lpid c.args.id in
    rw (c.refuse.ensures.answer, c.refuse.ensures.cpu, c.load.ensures.gpr, c.unregister-code.ensures.guest)
    (comes_back_does g.S.Seal.takes g.S.Seal.stands g.S.Seal.image call c.unregister-code.result (λ own. loaded own call) old c.args.cpu.now pool c.requires.hypervisor (λ slots. unregistered_by c.unregister-code.result slots c.args.id) c.requires.whole
    (rw (sym c.load.ensures.gpr) (refuses c.args.cpu.now c.load.new.gpr c.unregister-code.result (let long = c.load.array_long in omega (arith, long)) c.load.ensures.rest))
    (refused_unregistered c.unregister-code.result c.args.lpid c.args.id old.slots)
    (λ plan whole part mark shows shows_cpu. record {
      deed = λ any. ap (λ (code : Code). answering (ask_hypervisor part) (Ret code)) (sym (c.unregister-code.ensures.code plan whole (shows_counted g.S.Seal.stands g.S.Seal.image plan old whole (old.steps + 1) shows)));
      guest = refl;
      cpu = refl;
    }))
