-- A command of a vCPU whose guest has ended leaves the guest.
use Rattle.std.proofs.Common.{◌≡◌, ℕ, ◌+◌, List, [], length, Option, None, unwrap_or, refl, ap, sym, subst, ◌∙◌}
use Rattle.pef_model.specs.declared.state.Run.{Run}
use Rattle.pef_model.specs.declared.state.Regs.{Regs}
use Rattle.pef_model.specs.declared.state.Ctx.TheVariants as ctx
use Rattle.pef_model.specs.declared.state.Tag.{Tag}
use Rattle.pef_model.specs.declared.command.Cmd.{Cmd}
use Rattle.pef_model.specs.declared.command.Cmd.TheVariants.{HLd, GSt}
use Rattle.pef_model.specs.declared.entry.Answer.TheVariants as answer
use Rattle.pef_model.specs.Plan.{Plan}
use Rattle.pef_model.specs.Event.{Event, Mark}
use Rattle.pef_model.specs.Registers.{zero_registers}
use Rattle.pef_model.specs.Cpu.{CpuPart}
use Rattle.pef_model.specs.GuestPart.{put}
use Rattle.pef_model.specs.Guest.{Guest as GuestWhole, next_guest, registers_after_command, stored_in}
use Rattle.pef_model.specs.Deed.{deed_gone}
use Rattle.pef_model.specs.History.{entry_of}
use Rattle.pef_model.proofs.Puts.{put-same}
use Rattle.pef_frames.specs.Pool.{PoolState}
use Rattle.pef_guest.specs.declared.cpu.Cpu.{Cpu}
use Rattle.pef_guest.specs.declared.guest.Guest.{Guest}
use Rattle.pef_guest.specs.Shows.{ShowsCpu, Shows}
use Rattle.pef_guest.specs.Rows.{RowWithPool, ask_running}
use Rattle.pef_guest.proofs.OnePage.{shows_counted}

-- it stores nothing, and leaves the registers
gone_stored : (plan : Plan) (g : GuestWhole) (run : Run) (cmd : Cmd) (frame : Option ℕ) (bytes : List ℕ) (gpa : ℕ) → stored_in (ctx.Guest run) plan g cmd answer.Gone frame bytes gpa ≡ None
gone_stored plan g run (GSt rs at) frame bytes gpa = refl
gone_stored plan g run cmd frame bytes gpa = refl

gone_registers : (g : GuestWhole) (regs : Regs) (cmd : Cmd) → registers_after_command g regs cmd answer.Gone ≡ regs
gone_registers g regs (HLd ra) = refl
gone_registers g regs cmd = refl

module _ {S : Type 0} (stands : S → Tag → List ℕ → List ℕ → Type 0) (image : S → Tag → List ℕ → List ℕ) (plan : Plan) (old : Guest S) (g : GuestWhole) (cpu : Cpu) (c : CpuPart) (run : Run) (mark : Mark) (cmd : Cmd) (pool : PoolState) where
  -- the entry
  abbrev gone_entry : Event
  gone_entry = entry_of (ask_running run c) mark cmd (deed_gone (ask_running run c))

  -- the guest after it is the guest
  left : Shows stands image plan old g → Shows stands image plan (record old { steps = old.steps + 1 }) (next_guest plan g gone_entry)
  left shows =
      let after : GuestWhole = next_guest plan g gone_entry in
      subst (λ (f : ℕ → ℕ). Shows stands image plan (record old { steps = old.steps + 1 }) (record g { content = f; registers = after.registers; clean = after.clean }))
      (λ i gpa. sym (ap (λ (o : Option ℕ). unwrap_or o (g.content gpa)) (gone_stored plan g run cmd None [] gpa)) i)
      (subst (λ (f : ℕ → Regs). Shows stands image plan (record old { steps = old.steps + 1 }) (record g { registers = f; clean = after.clean }))
      (λ i vid. sym (ap (λ (regs : Regs). put g.registers run.vid regs vid) (gone_registers g (g.registers run.vid) cmd) ∙ put-same g.registers run.vid vid) i)
      (shows_counted stands image plan old g (old.steps + 1) shows))

  pub gone_row : Shows stands image plan old g → ShowsCpu cpu c →
      RowWithPool stands image plan g c gone_entry (record old { steps = old.steps + 1 }) (record cpu { ctx = ctx.Hv; gpr = zero_registers; last = answer.Gone }) (length pool.free) (length pool.free) answer.Gone
  gone_row shows shows_cpu = record {
    row = record { answered = refl; guest = left shows; cpu_is = record { ctx = refl; own = refl; lpid = shows_cpu.lpid; vid = shows_cpu.vid; last = refl; hand = shows_cpu.hand } };
    pool = refl;
  }
