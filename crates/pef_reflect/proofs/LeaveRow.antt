-- A vCPU that an interrupt takes from its CPU leaves as the model's does.
use Rattle.std.proofs.Common.{◌≡◌, ℕ, Bool, List, length, refl, ap, sym, subst}
use Rattle.pef_model.specs.declared.state.Phase.{Phase}
use Rattle.pef_model.specs.declared.state.Phase.TheVariants as phase
use Rattle.pef_model.specs.declared.state.Pending.TheVariants.{Irq}
use Rattle.pef_model.specs.declared.state.VState.TheVariants.{Parked}
use Rattle.pef_model.specs.declared.state.Regs.{Regs}
use Rattle.pef_model.specs.declared.state.Run.{Run}
use Rattle.pef_model.specs.declared.state.Tag.{Tag}
use Rattle.pef_model.specs.declared.command.Cmd.TheVariants.{GIrq}
use Rattle.pef_model.specs.declared.entry.Exit.{Exit}
use Rattle.pef_model.specs.declared.entry.Answer.TheVariants as answer
use Rattle.pef_model.specs.Plan.{Plan}
use Rattle.pef_model.specs.Event.{Mark}
use Rattle.pef_model.specs.Cpu.{CpuPart}
use Rattle.pef_model.specs.Guest.{Guest as GuestWhole}
use Rattle.pef_model.specs.Deed.{deed_interrupt}
use Rattle.pef_model.specs.History.{entry_of}
use Rattle.pef_frames.specs.Pool.{PoolState}
use Rattle.pef_guest.specs.declared.cpu.Cpu.{Cpu}
use Rattle.pef_guest.specs.declared.guest.Guest.{Guest}
use Rattle.pef_guest.specs.Leaves.{leaving}
use Rattle.pef_guest.specs.Ready.{IsRunning}
use Rattle.pef_guest.specs.Rows.{RowWithPool, ask_running, entry_running}
use Rattle.pef_guest.specs.Shows.{ShowsCpu, Shows, vcpu_at}
use Rattle.pef_guest.proofs.OneVcpu.{with_step, shows_own, shows_parked}
use Rattle.pef_reflect.specs.Leave.{exit_in}

module _ {S : Type 0} (stands : S → Tag → List ℕ → List ℕ → Type 0) (image : S → Tag → List ℕ → List ℕ) (plan : Plan) (old : Guest S) (g : GuestWhole) (found : ℕ → ℕ → ℕ) (any : Bool) (run : Run) (cpu : Cpu) (c : CpuPart) (mark : Mark) (pool : PoolState)
    (runs : IsRunning cpu old run) (shows : Shows stands image plan old g) (shows_cpu : ShowsCpu cpu c) where
  -- the guest with the vCPU parked, and the CPU with what the exit shows
  abbrev parked : Guest S
  parked = with_step old old.pages run.vid (record (vcpu_at old run.vid) { state = Parked Irq })

  abbrev left : Exit → Cpu
  left way = leaving cpu run way (vcpu_at old run.vid).regs.gpr

  -- the row of a guest in this phase
  abbrev RowIn : Phase → Exit → Type 0
  RowIn phase way =
      RowWithPool stands image plan g c (entry_of (ask_running run c) mark GIrq (deed_interrupt phase (g.registers run.vid).gpr (ask_running run c))) parked (left way) (length pool.free) (length pool.free) (answer.Exit way)

  -- its registers are those of the model
  same_registers : (vcpu_at old run.vid).regs.gpr ≡ (g.registers run.vid).gpr
  same_registers = ap (λ (regs : Regs). regs.gpr) (shows_own stands image plan old g run.vid shows runs.vid).registers

  row_in : (phase : Phase) → RowIn phase (exit_in phase)
  row_in phase.Normal = record {
    row = record {
      answered = refl;
      guest = shows_parked stands image plan old g run.vid shows runs.vid Irq (λ regs. regs);
      cpu_is = record { ctx = refl; own = same_registers; lpid = refl; vid = refl; last = refl; hand = shows_cpu.hand };
    };
    pool = refl;
  }
  row_in other = record {
    row = record {
      answered = refl;
      guest = shows_parked stands image plan old g run.vid shows runs.vid Irq (λ regs. regs);
      cpu_is = record { ctx = refl; own = refl; lpid = refl; vid = refl; last = refl; hand = shows_cpu.hand };
    };
    pool = refl;
  }

  pub leave_row : RowWithPool stands image plan g c (entry_running plan g found c run any mark GIrq) parked (left (exit_in old.phase)) (length pool.free) (length pool.free) (answer.Exit (exit_in old.phase))
  leave_row = subst (λ (phase : Phase). RowIn g.part.phase (exit_in phase)) (sym shows.phase) (row_in g.part.phase)
