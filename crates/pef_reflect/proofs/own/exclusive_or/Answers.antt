use Rattle.std.proofs.Common.{◌≡◌, refl, slice_index, slice_set}
use Rattle.std.specs.Prelude.{bit_xor}
use Rattle.pef_model.specs.declared.state.Regs.{Regs}
use Rattle.pef_model.specs.Guest.{at_next_instruction}
use Rattle.pef_guest.specs.Shows.{vcpu_at}
use Rattle.pef_guest.proofs.Asked.{vcpu_does}
use Rattle.pef_guest.proofs.OneVcpu.{is_at, shows_registers, shows_stays}
use Rattle.pef_reflect.proofs.own.exclusive_or.Goals as goal

pub returns : goal.returns
returns g c pool =
    let vcpu : c.index_mut-vcpu.result.now ≡ vcpu_at c.args.guest.now c.args.run.vid = is_at c.args.guest.now c.args.run.vid c.index_mut-vcpu.result.now c.requires.runs.vid c.index_mut-vcpu.ensures.value in
    rw c.assign.ensures.answer
    (vcpu_does c.requires.runs (λ plan whole shows. refl) c.assign.new.vcpu c.requires.whole tt
    (λ plan whole found part mark shows shows_cpu.
    rw (c.assign.ensures.vcpu, c.reg.ensures, c.reg-2.ensures, vcpu) (record {
      row = record {
        answered = refl;
        guest = shows_registers g.S.Seal.stands g.S.Seal.image plan c.args.guest.now whole c.args.run.vid shows c.requires.runs.vid (λ (regs : Regs). at_next_instruction regs (slice_set regs.gpr c.args.rd (bit_xor (slice_index regs.gpr c.args.ra) (slice_index regs.gpr c.args.rb))));
        cpu_is = shows_stays c.args.run c.args.cpu.now part c.requires.runs.ctx shows_cpu;
      };
      pool = refl;
    })))
