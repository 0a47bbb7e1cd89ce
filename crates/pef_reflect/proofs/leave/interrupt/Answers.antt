use Rattle.std.proofs.Common.{◌≡◌, ℕ, ◌<◌, refl, sym, subst, inr}
use Rattle.pef_model.specs.declared.command.Cmd.TheVariants.{GIrq}
use Rattle.pef_guest.specs.Shows.{vcpu_at}
use Rattle.pef_guest.specs.Does.{is_any_free}
use Rattle.pef_guest.proofs.Asked.{frames_stay, makes_running}
use Rattle.pef_guest.proofs.OneVcpu.{with_step, is_at, keeps_guest, whole_vcpu}
use Rattle.pef_reflect.proofs.LeaveRow.{leave_row}
use Rattle.pef_reflect.proofs.leave.interrupt.Goals as goal

-- the vCPU is parked, and the CPU shows its exit
pub returns : goal.returns
returns g c pool =
    let vcpu : c.index_mut-vcpu.result.now ≡ vcpu_at c.args.guest.now c.args.run.vid = is_at c.args.guest.now c.args.run.vid c.index_mut-vcpu.result.now c.requires.runs.vid c.index_mut-vcpu.ensures.value in
    let keeps = keeps_guest c.args.guest.now c.args.guest.now.pages c.args.run.vid c.park.new.self refl in
    rw (c.show_exit.ensures.answer, c.show_exit.ensures.cpu) (record {
      whole = whole_vcpu g.S.Seal.takes c.args.guest.now c.args.run.vid c.park.new.self c.requires.whole;
      keeps = keeps;
      life = λ still. record { phase = refl; generation = refl; entry = refl };
      movers = λ gfn mover same other moves. moves;
      frames = frames_stay c.args.guest.now (with_step c.args.guest.now c.args.guest.now.pages c.args.run.vid c.park.new.self) pool (λ number. refl);
      own = record { number = refl; hand = refl; selects = inr (c.requires.runs.lpid, subst (λ (n : ℕ). c.args.run.vid < n) (sym keeps.vcpus) c.requires.runs.vid) };
      works = tt;
      pool_stays = λ unused. refl;
      refused = rw c.requires.runs.ctx tt;
      row = makes_running g.S.Seal.takes g.S.Seal.stands g.S.Seal.image GIrq c.args.guest.now _ c.args.cpu.now _ pool pool _ c.args.run c.requires.runs.ctx c.requires.runs.generation (λ plan whole shows. refl)
          (λ plan whole found part mark shows shows_cpu.
          rw (c.park.ensures, vcpu) (leave_row g.S.Seal.stands g.S.Seal.image plan c.args.guest.now whole found (is_any_free pool) c.args.run c.args.cpu.now part mark pool c.requires.runs shows shows_cpu));
    })
