use Rattle.std.proofs.Common.{◌≡◌}
use Rattle.pef_guest.specs.Shows.{vcpu_at}
use Rattle.pef_guest.proofs.OneVcpu.{is_at}
use Rattle.pef_reflect.proofs.ShowRow.{shows_register}
use Rattle.pef_reflect.proofs.own.show.Goals as goal

pub returns : goal.returns
returns g c pool =
    let vcpu : c.index.result.now ≡ vcpu_at c.args.guest.now c.args.run.vid = is_at c.args.guest.now c.args.run.vid c.index.result.now c.requires.runs.vid c.index.ensures in
    rw (c.reg.ensures, vcpu) (shows_register g.S.Seal.takes g.S.Seal.stands g.S.Seal.image c.args.guest.now c.args.cpu.now pool c.args.run c.args.reg c.requires.runs c.requires.whole)
