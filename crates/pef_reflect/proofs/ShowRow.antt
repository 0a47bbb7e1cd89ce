-- A register of a vCPU is shown as the model's is.
use Rattle.std.proofs.Common.{ℕ, ◌+◌, List, length, refl, sym, subst, inl, arith, slice_index}
use Rattle.pef_model.specs.declared.state.Regs.{Regs}
use Rattle.pef_model.specs.declared.state.Run.{Run}
use Rattle.pef_model.specs.declared.state.Tag.{Tag}
use Rattle.pef_model.specs.declared.command.Cmd.TheVariants.{Dump}
use Rattle.pef_model.specs.declared.entry.Answer.{Answer}
use Rattle.pef_model.specs.declared.entry.Answer.TheVariants.{Val}
use Rattle.pef_model.specs.Guest.{next_guest}
use Rattle.pef_model.specs.Deed.{answering}
use Rattle.pef_model.specs.History.{entry_of}
use Rattle.pef_model.proofs.Puts.{put-same}
use Rattle.pef_frames.specs.Pool.{PoolState}
use Rattle.pef_guest.specs.declared.cpu.Cpu.{Cpu}
use Rattle.pef_guest.specs.declared.guest.Guest.{Guest}
use Rattle.pef_guest.specs.Does.{DoesRow}
use Rattle.pef_guest.specs.Ready.{IsRunning}
use Rattle.pef_guest.specs.Rows.{RowWithPool, ask_running}
use Rattle.pef_guest.specs.Shows.{Shows, vcpu_at}
use Rattle.pef_guest.specs.Whole.{IsWhole}
use Rattle.pef_guest.proofs.Asked.{frames_stay, running_does}
use Rattle.pef_guest.proofs.OnePage.{shows_counted}
use Rattle.pef_guest.proofs.OneVcpu.{whole_counted, shows_own, shows_stays}

module _ {S : Type 0} (takes : S → ℕ → ℕ → Type 0) (stands : S → Tag → List ℕ → List ℕ → Type 0) (image : S → Tag → List ℕ → List ℕ) (old : Guest S) (cpu : Cpu) (pool : PoolState) (run : Run) (reg : ℕ) (runs : IsRunning cpu old run) (whole : IsWhole takes old) where
  -- the guest counts a step
  abbrev counted : Guest S
  counted = record old { steps = old.steps + 1 }

  abbrev shown : Answer
  shown = Val (slice_index (vcpu_at old run.vid).regs.gpr reg)

  pub shows_register : DoesRow takes stands image (Dump reg) old counted cpu cpu pool pool shown
  shows_register =
      running_does runs (λ plan g shows. refl) (whole_counted takes old whole)
      (record { lpid = refl; shift = refl; normal = refl; secure = refl; pages = refl; vcpus = refl; generation = omega arith; phase = λ same. inl refl; steps = refl })
      (record { phase = refl; generation = refl; entry = refl }) (λ gfn mover same other moves. moves) (frames_stay old counted pool (λ number. refl)) (λ unused. refl) tt
      (λ plan g found c mark shows shows_cpu.
      subst (λ (regs : Regs). RowWithPool stands image plan g c (entry_of (ask_running run c) mark (Dump reg) (answering (ask_running run c) (Val (slice_index regs.gpr reg)))) counted cpu (length pool.free) (length pool.free) shown)
      (shows_own stands image plan old g run.vid shows runs.vid).registers
      (record {
        row = record {
          answered = refl;
          guest = subst (Shows stands image plan counted) (λ i. record g { registers = λ n. sym (put-same g.registers run.vid n) i; clean = (next_guest plan g (entry_of (ask_running run c) mark (Dump reg) (answering (ask_running run c) shown))).clean }) (shows_counted stands image plan old g (old.steps + 1) shows);
          cpu_is = shows_stays run cpu c runs.ctx shows_cpu;
        };
        pool = refl;
      }))
