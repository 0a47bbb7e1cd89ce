-- A command that changes the registers of its vCPU alone.
use Rattle.std.proofs.Common.{◌≡◌, ℕ, ◌<◌, Bool, true, List, length, None, refl, sym, subst, get_or}
use Rattle.std.specs.Prelude.{slice_index_or, slice_set, is_some}
use Rattle.std.proofs.lemmas.List.{get_or-set_same, get_or-set_other}
use Rattle.pef_model.specs.declared.state.VState.TheVariants.{Idle}
use Rattle.pef_model.specs.declared.state.Run.{Run}
use Rattle.pef_model.specs.declared.state.Regs.{Regs}
use Rattle.pef_model.specs.declared.state.Tag.{Tag}
use Rattle.pef_model.specs.declared.state.Ctx.TheVariants as ctx
use Rattle.pef_model.specs.declared.command.Cmd.{Cmd}
use Rattle.pef_model.specs.declared.command.Cmd.TheVariants.{HLd, UPate, URegslot, UUnregslot, UPagein, UPageout, UInval, UReturn, GLd, GSt}
use Rattle.pef_model.specs.declared.entry.Answer.TheVariants.{Ret}
use Rattle.pef_model.specs.Plan.{Plan}
use Rattle.pef_model.specs.Event.{Mark}
use Rattle.pef_model.specs.Registers.{call_of, loaded, with_code}
use Rattle.pef_model.specs.Cpu.{CpuPart}
use Rattle.pef_model.specs.GuestPart.{GuestPart}
use Rattle.pef_model.specs.Guest.{Guest as GuestWhole, at_next_instruction}
use Rattle.pef_model.specs.Deed.{refused_with}
use Rattle.pef_frames.specs.Pool.{PoolState}
use Rattle.pef_guest.specs.declared.cpu.Cpu.{Cpu}
use Rattle.pef_model.specs.declared.command.Code.{Code}
use Rattle.pef_regs.specs.declared.vcpu.Vcpu.{Vcpu}
use Rattle.pef_guest.specs.declared.guest.Guest.{Guest}
use Rattle.pef_regs.specs.Start.{start_vcpu}
use Rattle.pef_guest.specs.Ready.{IsRunning}
use Rattle.pef_guest.specs.Refused.{RefusesVcpu, RefusesGuest}
use Rattle.pef_regs.specs.Registers.{with_registers}
use Rattle.pef_guest.specs.Rows.{RowWithPool, entry_running}
use Rattle.pef_guest.specs.Shows.{ShowsCpu, Shows, vcpu_at}
use Rattle.pef_guest.specs.Aims.{frame_running}
use Rattle.pef_guest.proofs.OneVcpu.{with_step, is_at, shows_registers, shows_stays}

-- a vCPU whose call was refused
pub refused_guest : {S : Type 0} (old : Guest S) (vid : ℕ) (vcpu : Vcpu) (below : vid < length old.vcpus.items) (there : vcpu ≡ get_or old.vcpus.items vid vcpu) (new : Vcpu) (code : Code) →
    RefusesVcpu vcpu new code → RefusesGuest vid old (with_step old old.pages vid new) code
refused_guest old vid vcpu below there new code refuses = record {
  rest = record { lpid = refl; shift = refl; normal = refl; secure = refl; phase = refl; generation = refl; entry = refl; slots = refl; words = refl; pages = refl; sealer = refl };
  vcpu = subst (λ v. RefusesVcpu v (slice_index_or (slice_set old.vcpus.items vid new) vid (start_vcpu Idle)) code) (is_at old vid vcpu below there)
      (subst (λ v. RefusesVcpu vcpu v code) (sym (get_or-set_same old.vcpus.items vid new (start_vcpu Idle) below)) refuses);
  others = λ k other. get_or-set_other old.vcpus.items vid k new (start_vcpu Idle) other;
}

-- a call is no access
pub call_inside : (plan : Plan) (g : GuestPart) (cmd : Cmd) → is_some (call_of cmd) ≡ true → frame_running plan g cmd ≡ None
call_inside plan g (GLd rd gpa) k = absurd cc
call_inside plan g (GSt rs gpa) k = absurd cc
call_inside plan g (HLd ra) k = refl
call_inside plan g cmd k = refl

module _ {S : Type 0} (stands : S → Tag → List ℕ → List ℕ → Type 0) (image : S → Tag → List ℕ → List ℕ) (plan : Plan) (old : Guest S) (g : GuestWhole) (found : ℕ → ℕ → ℕ) (any : Bool) (run : Run) (cpu : Cpu) (c : CpuPart) (mark : Mark) (pool : PoolState)
    (runs : IsRunning cpu old run) (shows : Shows stands image plan old g) (shows_cpu : ShowsCpu cpu c) where
  -- the registers after a call that was refused
  abbrev refused_registers : Cmd → Regs → Regs
  refused_registers cmd regs = at_next_instruction regs (with_code (loaded regs.gpr cmd) (refused_with cmd))

  -- the row of such a call
  abbrev RefusedRow : Cmd → Type 0
  RefusedRow cmd =
      RowWithPool stands image plan g c (entry_running plan g found c run any mark cmd)
      (with_step old old.pages run.vid (with_registers (vcpu_at old run.vid) (refused_registers cmd (vcpu_at old run.vid).regs))) cpu (length pool.free) (length pool.free) (Ret (refused_with cmd))

  stays : ShowsCpu cpu (record c { ctx = ctx.Guest run })
  stays = shows_stays run cpu c runs.ctx shows_cpu

  -- each of the hypervisor's calls is refused in a guest
  pub refused_row : (cmd : Cmd) → is_some (call_of cmd) ≡ true → RefusedRow cmd
  refused_row (UPate lpid dw0 dw1) k =
      record { row = record { answered = refl; guest = shows_registers stands image plan old g run.vid shows runs.vid (refused_registers (UPate lpid dw0 dw1)); cpu_is = stays }; pool = refl }
  refused_row (URegslot lpid start size flags id) k =
      record { row = record { answered = refl; guest = shows_registers stands image plan old g run.vid shows runs.vid (refused_registers (URegslot lpid start size flags id)); cpu_is = stays }; pool = refl }
  refused_row (UUnregslot lpid id) k =
      record { row = record { answered = refl; guest = shows_registers stands image plan old g run.vid shows runs.vid (refused_registers (UUnregslot lpid id)); cpu_is = stays }; pool = refl }
  refused_row (UPagein lpid src gpa flags order) k =
      record { row = record { answered = refl; guest = shows_registers stands image plan old g run.vid shows runs.vid (refused_registers (UPagein lpid src gpa flags order)); cpu_is = stays }; pool = refl }
  refused_row (UPageout lpid dest gpa flags order) k =
      record { row = record { answered = refl; guest = shows_registers stands image plan old g run.vid shows runs.vid (refused_registers (UPageout lpid dest gpa flags order)); cpu_is = stays }; pool = refl }
  refused_row (UInval lpid gpa order) k =
      record { row = record { answered = refl; guest = shows_registers stands image plan old g run.vid shows runs.vid (refused_registers (UInval lpid gpa order)); cpu_is = stays }; pool = refl }
  refused_row (UReturn r0 r2 outs) k =
      record { row = record { answered = refl; guest = shows_registers stands image plan old g run.vid shows runs.vid (refused_registers (UReturn r0 r2 outs)); cpu_is = stays }; pool = refl }
  refused_row (HLd ra) k = absurd cc
  refused_row cmd k = absurd cc
