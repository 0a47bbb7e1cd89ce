-- UV_WRITE_PATE sets the entry, or comes back, as the model's does.
use Rattle.std.proofs.Common.{◌≡◌, ◌≢◌, ℕ, ◌+◌, ◌<◌, ◌≤◌, ◌==◌, Bool, true, false, if◌then◌else◌, List, length, replicate, slice_index_or, refl, ap, sym, subst, ◌∙◌, inl, inr, arith}
use Rattle.std.proofs.lemmas.List.{length-replicate, get_or-replicate}
use Rattle.pef_model.specs.declared.state.Phase.{Phase}
use Rattle.pef_model.specs.declared.state.Phase.TheVariants as phase
use Rattle.pef_model.specs.declared.state.Regs.{Regs}
use Rattle.pef_model.specs.declared.state.Tag.{Tag}
use Rattle.pef_model.specs.declared.state.VState.TheVariants.{Idle}
use Rattle.pef_model.specs.declared.state.Ctx.TheVariants as ctx
use Rattle.pef_model.specs.declared.command.Cmd.{Cmd}
use Rattle.pef_model.specs.declared.command.Cmd.TheVariants.{UPate}
use Rattle.pef_model.specs.declared.command.Code.{Code}
use Rattle.pef_model.specs.declared.command.Code.TheVariants.{USuccess}
use Rattle.pef_model.specs.declared.entry.Answer.TheVariants.{Ret}
use Rattle.pef_model.specs.Plan.{Plan}
use Rattle.pef_model.specs.Event.{Mark}
use Rattle.pef_model.specs.Registers.{fresh_registers, loaded, with_code}
use Rattle.pef_model.specs.Cpu.{CpuPart}
use Rattle.pef_model.specs.GuestPart.{GuestPart, new_vcpu, ended_normal}
use Rattle.pef_model.specs.Guest.{Guest as GuestWhole}
use Rattle.pef_model.specs.Deed.{answering}
use Rattle.pef_model.specs.Entry.{write_code}
use Rattle.pef_model.specs.History.{entry_of}
use Rattle.pef_frames.specs.Pool.{PoolState}
use Rattle.pef_pate.specs.declared.pate.Pate.{Pate}
use Rattle.pef_guest.specs.declared.cpu.Cpu.{Cpu}
use Rattle.pef_regs.specs.declared.vcpu.Vcpu.{Vcpu}
use Rattle.pef_guest.specs.declared.guest.Guest.{Guest}
use Rattle.pef_guest.specs.Aims.{changes_life}
use Rattle.pef_guest.specs.Does.{DoesRow}
use Rattle.pef_guest.specs.Keeps.{IsNextPhase, KeepsGuest}
use Rattle.pef_guest.specs.Ready.{WorksAt}
use Rattle.pef_guest.specs.Refused.{RefusesCpu}
use Rattle.pef_guest.specs.Rows.{RowWithPool, ask_hypervisor}
use Rattle.pef_guest.specs.Shows.{ShowsCpu, Shows, ShowsVcpu}
use Rattle.pef_regs.specs.Start.{start_vcpu}
use Rattle.pef_guest.specs.Whole.{IsOutside, IsWhole}
use Rattle.pef_guest.proofs.Asked.{frames_stay, makes_hypervisor}
use Rattle.pef_guest.proofs.OnePage.{shows_counted}
use Rattle.pef_guest.proofs.Written.{written, whole_written, shows_written}
use Rattle.pef_reflect.specs.Write.{SetsEntry}
use Rattle.pef_reflect.proofs.AtOnce.{RefusesAlso, refuses_does}

module _ {S : Type 0} (takes : S → ℕ → ℕ → Type 0) (stands : S → Tag → List ℕ → List ℕ → Type 0) (image : S → Tag → List ℕ → List ℕ) (lpid dw0 dw1 : ℕ) (old new : Guest S) (cpu : Cpu) (pool : PoolState) (hv : cpu.ctx ≡ ctx.Hv) (whole : IsWhole takes old) where
  -- the call, what it loads, the entry, and the guest that counts the step
  abbrev call : Cmd
  call = UPate lpid dw0 dw1

  abbrev load : List ℕ → List ℕ
  load own = loaded own call

  abbrev entry : Pate
  entry = record { dw0 = dw0; dw1 = dw1 }

  abbrev counted : Guest S
  counted = record old { steps = old.steps + 1 }

  -- the CPU with a code
  abbrev answered : Code → Cpu
  answered code = record cpu { gpr = with_code (load cpu.gpr) code; last = Ret code }

  -- where it doesn't set the entry it leaves the guest, and so does the model's
  leaves_also : (code : Code) → code ≢ USuccess → (plan : Plan) (g : GuestWhole) (c : CpuPart) (mark : Mark) → code ≡ write_code plan g.part dw0 dw1 → RefusesAlso call code load plan g c mark
  leaves_also USuccess other plan g c mark is = absurd (other refl)
  leaves_also code other plan g c mark is = record { deed = λ any. ap (λ (one : Code). answering (ask_hypervisor c) (Ret one)) (sym is); guest = refl; cpu = refl }

  module _ (sets : SetsEntry counted new entry) where
    -- the phase and the generation, by whether the entry has no page
    abbrev phase_by : Bool → Phase
    phase_by none = if none then phase.Absent else phase.Normal

    abbrev life_by : Bool → ℕ
    life_by none = if none then old.generation + 1 else old.generation

    -- the guest afterwards
    abbrev after : Bool → Guest S
    after none = written takes old new entry sets.outside whole (phase_by none) (life_by none)

    is_after : new ≡ after (dw1 == 0)
    is_after = sets.set.rest ∙ by_test (dw1 == 0) where
      by_test : (none : Bool) → record (if none then record counted { entry = entry; phase = phase.Absent; generation = old.generation + 1 } else record counted { entry = entry; phase = phase.Normal }) { vcpus = new.vcpus } ≡ after none
      by_test true = refl
      by_test false = refl

    -- it has as many vCPUs
    as_many : (none : Bool) → new.vcpus.items ≡ (if none then replicate (length old.vcpus.items) (start_vcpu Idle) else old.vcpus.items) → length new.vcpus.items ≡ length old.vcpus.items
    as_many true is = ap (λ (items : List Vcpu). length items) is ∙ length-replicate (length old.vcpus.items) (start_vcpu Idle)
    as_many false is = ap (λ (items : List Vcpu). length items) is

    -- it comes into normal memory, stays there, or is in its next generation
    next_phase : (none : Bool) (phase : Phase) → IsOutside phase → life_by none ≡ old.generation → IsNextPhase phase (phase_by none)
    next_phase true phase out same = absurd (omega arith)
    next_phase false phase.Absent out same = inr (refl, refl)
    next_phase false phase.Normal out same = inl refl
    next_phase false phase out same = absurd out

    stays_outside : (none : Bool) → IsOutside (phase_by none)
    stays_outside true = tt
    stays_outside false = tt

    rises : (none : Bool) → (old.generation ≤ life_by none) × (life_by none ≤ old.generation + 1)
    rises true = (omega arith, omega arith)
    rises false = (omega arith, omega arith)

    keeps : (none : Bool) → length new.vcpus.items ≡ length old.vcpus.items → KeepsGuest old (after none)
    keeps none many = record { lpid = refl; shift = refl; normal = refl; secure = refl; pages = refl; vcpus = many; generation = (rises none).0; phase = next_phase none old.phase sets.outside; steps = refl }

    -- the guest is that of the model
    module _ (plan : Plan) (g : GuestWhole) (shows : Shows stands image plan old g) where
      abbrev part_by : Bool → GuestPart
      part_by none = if none then ended_normal (record g.part { entry = record { base = dw0; length_ = dw1 } }) else record g.part { entry = record { base = dw0; length_ = dw1 }; phase = phase.Normal }

      abbrev registers_by : Bool → ℕ → Regs
      registers_by none = if none then (λ n. fresh_registers) else g.registers

      shows_after : {clean : Bool} (none : Bool) → new.vcpus.items ≡ (if none then replicate (length old.vcpus.items) (start_vcpu Idle) else old.vcpus.items) →
          Shows stands image plan (after none) (record g { part = part_by none; registers = registers_by none; clean = clean })
      shows_after {clean = clean} true is =
          subst (λ (life : ℕ). Shows stands image plan (after true) (record g { part = record (part_by true) { generation = life }; registers = registers_by true; clean = clean })) (ap (λ (n : ℕ). n + 1) shows.generation)
          (shows_written takes old new entry sets.outside whole stands image plan g phase.Absent (old.generation + 1) (λ vid. new_vcpu Idle) (λ vid. fresh_registers) shows (as_many true is) (λ vid less.
          subst (λ (vcpu : Vcpu). ShowsVcpu vcpu (new_vcpu Idle) fresh_registers)
          (sym (ap (λ (items : List Vcpu). slice_index_or items vid (start_vcpu Idle)) is ∙ get_or-replicate (length old.vcpus.items) vid (start_vcpu Idle) (start_vcpu Idle) (subst (λ (n : ℕ). vid < n) (sym shows.count) less)))
          (record { state = refl; generation = refl; registers = refl })))
      shows_after {clean = clean} false is =
          subst (λ (life : ℕ). Shows stands image plan (after false) (record g { part = record (part_by false) { generation = life }; registers = registers_by false; clean = clean })) shows.generation
          (shows_written takes old new entry sets.outside whole stands image plan g phase.Normal old.generation g.part.vcpus g.registers shows (as_many false is) (λ vid less.
          subst (λ (vcpu : Vcpu). ShowsVcpu vcpu (g.part.vcpus vid) (g.registers vid)) (sym (ap (λ (items : List Vcpu). slice_index_or items vid (start_vcpu Idle)) is)) (shows.vcpus vid less)))

      row : (c : CpuPart) (mark : Mark) → ShowsCpu cpu c → USuccess ≡ write_code plan g.part dw0 dw1 →
          RowWithPool stands image plan g c (entry_of (ask_hypervisor c) mark call (answering (ask_hypervisor c) (Ret (write_code plan g.part dw0 dw1)))) (after (dw1 == 0)) (answered USuccess) (length pool.free) (length pool.free) (Ret USuccess)
      row c mark shows_cpu is =
          subst (λ (code : Code). RowWithPool stands image plan g c (entry_of (ask_hypervisor c) mark call (answering (ask_hypervisor c) (Ret code))) (after (dw1 == 0)) (answered USuccess) (length pool.free) (length pool.free) (Ret USuccess)) is (record {
            row = record {
              answered = refl;
              guest = shows_after (dw1 == 0) sets.set.vcpus;
              cpu_is = record { ctx = hv; own = ap (λ (own : List ℕ). with_code (load own) USuccess) shows_cpu.own; lpid = shows_cpu.lpid; vid = shows_cpu.vid; last = refl; hand = shows_cpu.hand };
            };
            pool = refl;
          })

    -- where it sets the entry it does its row
    sets_does : ((plan : Plan) (g : GuestWhole) → Shows stands image plan old g → USuccess ≡ write_code plan g.part dw0 dw1) → DoesRow takes stands image call old (after (dw1 == 0)) cpu (answered USuccess) pool pool (Ret USuccess)
    sets_does is = record {
      whole = whole_written takes old new entry sets.outside whole (phase_by (dw1 == 0)) (life_by (dw1 == 0)) (stays_outside (dw1 == 0)) (as_many (dw1 == 0) sets.set.vcpus) (rises (dw1 == 0)).1 sets.fits;
      keeps = keeps (dw1 == 0) (as_many (dw1 == 0) sets.set.vcpus);
      life = λ still. absurd (let changes = ap (λ before. changes_life before call) hv in cc);
      movers = λ gfn mover same other moves. moves;
      frames = frames_stay old (after (dw1 == 0)) pool (λ number. refl);
      own = record { number = refl; hand = refl; selects = inl (refl, refl) };
      works = subst (WorksAt (after (dw1 == 0)) (answered USuccess)) (sym hv) tt;
      pool_stays = λ unused. refl;
      refused = rw hv (λ refusal. absurd cc);
      row = makes_hypervisor takes stands image call old (after (dw1 == 0)) cpu (answered USuccess) pool pool (Ret USuccess) hv (λ plan g found c mark marked shows shows_cpu. row plan g shows c mark shows_cpu (is plan g shows));
    }

  -- by its code
  pub writes_does : (code : Code) → (code ≡ USuccess → SetsEntry counted new entry) → (code ≢ USuccess → new ≡ counted) → ((plan : Plan) (g : GuestWhole) → Shows stands image plan counted g → code ≡ write_code plan g.part dw0 dw1) → RefusesCpu cpu (answered code) code →
      DoesRow takes stands image call old new cpu (answered code) pool pool (Ret code)
  writes_does USuccess sets stays is refuses =
      subst (λ (one : Guest S). DoesRow takes stands image call old one cpu (answered USuccess) pool pool (Ret USuccess)) (sym (is_after (sets refl)))
      (sets_does (sets refl) (λ plan g shows. is plan g (shows_counted stands image plan old g (old.steps + 1) shows)))
  writes_does code sets stays is refuses =
      let other : code ≢ USuccess = λ same. cc in
      subst (λ (one : Guest S). DoesRow takes stands image call old one cpu (answered code) pool pool (Ret code)) (sym (stays other))
      (refuses_does takes stands image call code load old cpu pool hv whole refuses (λ plan g c mark shows shows_cpu. leaves_also code other plan g c mark (is plan g (shows_counted stands image plan old g (old.steps + 1) shows))))
