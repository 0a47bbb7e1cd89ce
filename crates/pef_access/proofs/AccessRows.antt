-- The rows of a guest's load and store in its own pages, from what is known of the page.
use Rattle.std.proofs.Common.{◌≡◌, ℕ, ◌+◌, ◌^◌, ◌<◌, ◌≤◌, Bool, true, false, if◌then◌else◌, List, None, length, slice_index, arith, refl, ap, sym, subst, ◌∙◌}
use Rattle.pef_model.specs.declared.state.Run.{Run}
use Rattle.pef_model.specs.declared.state.Regs.{Regs}
use Rattle.pef_model.specs.declared.state.Tag.{Tag}
use Rattle.pef_model.specs.declared.command.Cmd.{Cmd}
use Rattle.pef_model.specs.declared.command.Cmd.TheVariants.{GLd, GSt}
use Rattle.pef_model.specs.declared.state.Ctx.TheVariants as ctx
use Rattle.pef_model.specs.declared.entry.Answer.{Answer}
use Rattle.pef_model.specs.declared.entry.Answer.TheVariants.{Done, Val, Hole, Again}
use Rattle.pef_model.specs.Plan.{Plan}
use Rattle.pef_model.specs.Event.{Mark}
use Rattle.pef_model.specs.Cpu.{CpuPart}
use Rattle.pef_model.specs.GuestPart.{GuestPart, VcpuPart, Meeting, Moves, Private, Normal, Unbacked, page_of, put, with_secure_page}
use Rattle.pef_model.specs.Guest.{Guest as GuestWhole}
use Rattle.pef_model.specs.Memory.{offset_of}
use Rattle.pef_model.specs.Deed.{deed_access}
use Rattle.pef_model.specs.History.{entry_of}
use Rattle.pef_frames.specs.Frame.{FrameState}
use Rattle.pef_pages.specs.declared.cell.Cell.TheVariants as cell
use Rattle.pef_pages.specs.Pages.{PagesState}
use Rattle.pef_guest.specs.declared.cpu.Cpu.{Cpu}
use Rattle.pef_regs.specs.declared.vcpu.Vcpu.{Vcpu}
use Rattle.pef_guest.specs.declared.guest.Guest.{Guest}
use Rattle.pef_guest.specs.Shows.{kept_in, sealed_of, ShowsCpu, ShowsVcpu, vcpu_at, Shows}
use Rattle.pef_regs.specs.Registers.{with_registers}
use Rattle.pef_guest.specs.Rows.{RowWithPool, ask_running}
use Rattle.pef_access.specs.Access.{place_at, value_at, after_load, after_store, register_at}
use Rattle.pef_access.proofs.Meets.{IsHeld}
use Rattle.pef_access.proofs.AccessPages.{AreLikePages, like_through, like_with, with_secure, frame_with}
use Rattle.pef_guest.proofs.OneVcpu.{stepped, shows_own, shows_step, shows_stays, with_step}
use Rattle.pef_guest.proofs.OnePage.{shows_counted}
use Rattle.pef_model.proofs.Puts.{put-same}
use Rattle.pef_access.proofs.AccessSeals.{keeps_sealed, none_sealed, accessed_keeps}
use Rattle.pef_access.proofs.AccessShows.{part_after, content_after, IsDone, value_is, stored_there, shows_stored}

-- what a page that becomes Secure leaves, an access leaves
kept : {X : Type 0} (f : GuestPart → X) (part : GuestPart) (gfn : ℕ) (b : Bool) → f (with_secure_page part gfn) ≡ f part → f (if b then with_secure_page part gfn else part) ≡ f part
kept f part gfn true e = e
kept f part gfn false e = refl

module _ {S : Type 0} (stands : S → Tag → List ℕ → List ℕ → Type 0) (image : S → Tag → List ℕ → List ℕ) (plan : Plan) (old : Guest S) (g : GuestWhole) (vid : ℕ) (shows : Shows stands image plan old g) (below : vid < length old.vcpus.items) where
  -- the registers of the vCPU are those of the model's
  registers_are : (vcpu_at old vid).regs ≡ g.registers vid
  registers_are = (shows_own stands image plan old g vid shows below).registers

  -- the vCPU with other registers is that of the model with them
  shows_with : (part : GuestPart) (regs regs_new : Regs) → part.vcpus ≡ g.part.vcpus → regs ≡ regs_new → ShowsVcpu (with_registers (vcpu_at old vid) regs) (part.vcpus vid) regs_new
  shows_with part regs regs_new vcpus same =
      let own : ShowsVcpu (vcpu_at old vid) (g.part.vcpus vid) (g.registers vid) = shows_own stands image plan old g vid shows below in
      record {
        state = own.state ∙ sym (ap (λ (f : ℕ → VcpuPart). (f vid).state) vcpus);
        generation = own.generation ∙ sym (ap (λ (f : ℕ → VcpuPart). (f vid).generation) vcpus);
        registers = same;
      }

  module _ (pages : PagesState FrameState) (gpa : ℕ) (backs : Bool) (d : IsDone plan pages g gpa backs) (like : AreLikePages old.pages pages) where
    -- nothing is sealed of the page of the access, since it is at rest in a frame afterwards
    nothing_sealed : sealed_of (g.part.pages (page_of plan gpa)) ≡ None
    nothing_sealed =
        none_sealed stands image plan old g (page_of plan gpa) shows.sealed (subst (λ (n : ℕ). page_of plan gpa < n) d.shows.count d.held.at.below)
        (sym (like.each (page_of plan gpa)).kept ∙ ap kept_in d.held.at.cell_is)

    -- the public part after an access that was done
    abbrev part : GuestPart
    part = part_after plan g.part gpa backs

    same_vcpus : part.vcpus ≡ g.part.vcpus
    same_vcpus = kept (λ p. p.vcpus) g.part (page_of plan gpa) backs refl

    -- the guest after a load that was done
    pub shows_load : {clean : Bool} (rd value : ℕ) → value ≡ g.content gpa →
        Shows stands image plan (with_step old pages vid (with_registers (vcpu_at old vid) (after_load rd value (vcpu_at old vid).regs))) (stepped g vid part g.content (after_load rd (g.content gpa) (g.registers vid)) clean)
    shows_load {clean = clean} rd value is =
        let regs : Regs = after_load rd (g.content gpa) (g.registers vid) in
        shows_step stands image plan old g vid shows below part g.content pages (with_registers (vcpu_at old vid) (after_load rd value (vcpu_at old vid).regs)) regs
        (kept (λ p. p.phase) g.part (page_of plan gpa) backs refl) (kept (λ p. p.generation) g.part (page_of plan gpa) backs refl) (kept (λ p. p.entry) g.part (page_of plan gpa) backs refl) (kept (λ p. p.slots) g.part (page_of plan gpa) backs refl) (kept (λ p. p.words) g.part (page_of plan gpa) backs refl) (λ n other. ap (λ (f : ℕ → VcpuPart). f n) same_vcpus)
        (shows_with part (after_load rd value (vcpu_at old vid).regs) regs same_vcpus (ap (after_load rd value) registers_are ∙ ap (λ (v : ℕ). after_load rd v (g.registers vid)) is))
        d.shows
        (keeps_sealed stands image plan old g (stepped g vid part g.content regs clean) pages vid (with_registers (vcpu_at old vid) (after_load rd value (vcpu_at old vid).regs)) shows.sealed like
        (accessed_keeps plan g (page_of plan gpa) nothing_sealed g.content (λ at other. refl) backs (put g.registers vid regs) clean))

    -- the guest after a store that was done
    pub shows_store : {clean : Bool} (rs value : ℕ) → 8 ≤ plan.shift → value < 2 ^ 64 → value ≡ slice_index (vcpu_at old vid).regs.gpr rs →
        Shows stands image plan (with_step old (with_secure pages (page_of plan gpa) (frame_with d.held.frame (offset_of plan gpa) value)) vid (with_registers (vcpu_at old vid) (after_store (vcpu_at old vid).regs)))
        (stepped g vid part (content_after g gpa (slice_index (g.registers vid).gpr rs)) (after_store (g.registers vid)) clean)
    shows_store {clean = clean} rs value least small is =
        let regs : Regs = after_store (g.registers vid) in
        let after : PagesState FrameState = with_secure pages (page_of plan gpa) (frame_with d.held.frame (offset_of plan gpa) value) in
        let read : value ≡ slice_index (g.registers vid).gpr rs = is ∙ ap (λ (x : Regs). slice_index x.gpr rs) registers_are in
        subst (λ (v : ℕ). Shows stands image plan (with_step old after vid (with_registers (vcpu_at old vid) (after_store (vcpu_at old vid).regs))) (stepped g vid part (content_after g gpa v) regs clean)) read
        (shows_step stands image plan old g vid shows below part (content_after g gpa value) after (with_registers (vcpu_at old vid) (after_store (vcpu_at old vid).regs)) regs
        (kept (λ p. p.phase) g.part (page_of plan gpa) backs refl) (kept (λ p. p.generation) g.part (page_of plan gpa) backs refl) (kept (λ p. p.entry) g.part (page_of plan gpa) backs refl) (kept (λ p. p.slots) g.part (page_of plan gpa) backs refl) (kept (λ p. p.words) g.part (page_of plan gpa) backs refl) (λ n other. ap (λ (f : ℕ → VcpuPart). f n) same_vcpus)
        (shows_with part (after_store (vcpu_at old vid).regs) regs same_vcpus (ap after_store registers_are))
        (shows_stored plan pages g gpa value least small backs d)
        (keeps_sealed stands image plan old g (stepped g vid part (content_after g gpa value) regs clean) after vid (with_registers (vcpu_at old vid) (after_store (vcpu_at old vid).regs)) shows.sealed
        (like_through old.pages pages after like (like_with plan.shift pages gpa (cell.Secure d.held.frame) (frame_with d.held.frame (offset_of plan gpa) value) d.held.at refl refl))
        (accessed_keeps plan g (page_of plan gpa) nothing_sealed (content_after g gpa value) (λ at other. stored_there g gpa value at (λ same. other (ap (page_of plan) (sym same)))) backs (put g.registers vid regs) clean)))

-- what an access meets that is done in a secure frame, by whether it backs its page
abbrev pub meets_by : Bool → Meeting
meets_by true = Unbacked
meets_by false = Private

-- a frame that backs a page was free, and is no more
abbrev pub HasTaken : Bool → Bool → ℕ → ℕ → Type 0
HasTaken true any free free_new = (any ≡ true) × (free ≡ free_new + 1)
HasTaken false any free free_new = free ≡ free_new

-- an access that is done in no frame
abbrev pub IsUndone : Bool → Meeting → Type 0
IsUndone any Private = ⊥
IsUndone any (Normal number) = ⊥
IsUndone any Unbacked = any ≡ false
IsUndone any met = Unit {0}

-- what it answers
abbrev pub answer_undone : Meeting → Answer
answer_undone Moves = Again
answer_undone met = Hole

-- the rows of an access by what it met; through and out: its answers and what it lets out in a normal frame
module _ {S : Type 0} (stands : S → Tag → List ℕ → List ℕ → Type 0) (image : S → Tag → List ℕ → List ℕ) (plan : Plan) (old : Guest S) (g : GuestWhole) (c : CpuPart) (cpu : Cpu) (run : Run) (gpa : ℕ) (mark : Mark) (shows : Shows stands image plan old g) (below : run.vid < length old.vcpus.items)
    (runs : cpu.ctx ≡ ctx.Guest run) (shows_cpu : ShowsCpu cpu c) (through : ℕ → Answer) (out : List ℕ) where
  -- the vCPU
  abbrev vcpu : Vcpu
  vcpu = vcpu_at old run.vid

  -- the row of an access that answers this where it is done
  abbrev AccessRow : Cmd → Answer → Bool → Meeting → Guest S → ℕ → ℕ → Answer → Type 0
  AccessRow cmd success any r new free free_new answer =
      RowWithPool stands image plan g c (entry_of (ask_running run c) mark cmd (deed_access (ask_running run c) success through out any r)) new cpu free free_new answer

  -- the CPU stays
  same_cpu : ShowsCpu cpu (record c { ctx = ctx.Guest run })
  same_cpu = shows_stays run cpu c runs shows_cpu

  -- the guest counts a step
  abbrev counted : Guest S
  counted = record old { steps = old.steps + 1 }

  shows_stay : {clean : Bool} → Shows stands image plan counted (stepped g run.vid g.part g.content (g.registers run.vid) clean)
  shows_stay {clean = clean} =
      let same : put g.registers run.vid (g.registers run.vid) ≡ g.registers = λ i n. put-same g.registers run.vid n i in
      subst (λ (registers : ℕ → Regs). Shows stands image plan counted (record g { registers = registers; clean = clean })) (sym same) (shows_counted stands image plan old g (old.steps + 1) shows)

  -- an access that isn't done
  pub load_undone : (rd free : ℕ) (any : Bool) (r : Meeting) → IsUndone any r → AccessRow (GLd rd gpa) (Val (g.content gpa)) any r counted free free (answer_undone r)
  load_undone rd free any Private undone = absurd undone
  load_undone rd free any (Normal number) undone = absurd undone
  load_undone rd free true Unbacked undone = absurd cc
  load_undone rd free false Unbacked undone = record { row = record { answered = refl; guest = shows_stay; cpu_is = same_cpu }; pool = omega arith }
  load_undone rd free any Moves undone = record { row = record { answered = refl; guest = shows_stay; cpu_is = same_cpu }; pool = refl }
  load_undone rd free any met undone = record { row = record { answered = refl; guest = shows_stay; cpu_is = same_cpu }; pool = refl }

  pub store_undone : (rs free : ℕ) (any : Bool) (r : Meeting) → IsUndone any r → AccessRow (GSt rs gpa) Done any r counted free free (answer_undone r)
  store_undone rs free any Private undone = absurd undone
  store_undone rs free any (Normal number) undone = absurd undone
  store_undone rs free true Unbacked undone = absurd cc
  store_undone rs free false Unbacked undone = record { row = record { answered = refl; guest = shows_stay; cpu_is = same_cpu }; pool = omega arith }
  store_undone rs free any Moves undone = record { row = record { answered = refl; guest = shows_stay; cpu_is = same_cpu }; pool = refl }
  store_undone rs free any met undone = record { row = record { answered = refl; guest = shows_stay; cpu_is = same_cpu }; pool = refl }

  module _ (pages : PagesState FrameState) (like : AreLikePages old.pages pages) where
    -- a load in a secure frame
    pub load_done : (rd free free_new : ℕ) (backs any : Bool) (d : IsDone plan pages g gpa backs) → HasTaken backs any free free_new →
        AccessRow (GLd rd gpa) (Val (g.content gpa)) any (meets_by backs) (with_step old pages run.vid (with_registers vcpu (after_load rd (value_at pages (place_at plan.shift gpa)) vcpu.regs))) free free_new (Val (value_at pages (place_at plan.shift gpa)))
    load_done rd free free_new false any d taken = record {
      row = record { answered = ap Val (value_is plan pages g gpa false d); guest = shows_load stands image plan old g run.vid shows below pages gpa false d like rd (value_at pages (place_at plan.shift gpa)) (value_is plan pages g gpa false d); cpu_is = same_cpu };
      pool = sym taken;
    }
    load_done rd free free_new true false d taken = absurd (let none = taken.0 in cc)
    load_done rd free free_new true true d taken = record {
      row = record { answered = ap Val (value_is plan pages g gpa true d); guest = shows_load stands image plan old g run.vid shows below pages gpa true d like rd (value_at pages (place_at plan.shift gpa)) (value_is plan pages g gpa true d); cpu_is = same_cpu };
      pool = (let one = taken.1 in omega (arith, one));
    }

    -- and a store
    abbrev StoreRow : ℕ → ℕ → ℕ → Bool → Bool → IsHeld plan.shift pages gpa → Type 0
    StoreRow rs free free_new backs any held =
        AccessRow (GSt rs gpa) Done any (meets_by backs) (with_step old (with_secure pages (page_of plan gpa) (frame_with held.frame (offset_of plan gpa) (register_at old run.vid rs))) run.vid (with_registers vcpu (after_store vcpu.regs))) free free_new Done

    pub store_done : (rs free free_new : ℕ) (backs any : Bool) (d : IsDone plan pages g gpa backs) → HasTaken backs any free free_new → 8 ≤ plan.shift → register_at old run.vid rs < 2 ^ 64 → StoreRow rs free free_new backs any d.held
    store_done rs free free_new false any d taken least small = record {
      row = record { answered = refl; guest = shows_store stands image plan old g run.vid shows below pages gpa false d like rs (register_at old run.vid rs) least small refl; cpu_is = same_cpu };
      pool = sym taken;
    }
    store_done rs free free_new true false d taken least small = absurd (let none = taken.0 in cc)
    store_done rs free free_new true true d taken least small = record {
      row = record { answered = refl; guest = shows_store stands image plan old g run.vid shows below pages gpa true d like rs (register_at old run.vid rs) least small refl; cpu_is = same_cpu };
      pool = (let one = taken.1 in omega (arith, one));
    }
