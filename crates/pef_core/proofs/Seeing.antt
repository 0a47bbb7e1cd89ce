-- A machine looks at the step that it is to do.
use Rattle.pef_guest.specs.Shows.{vcpu_at}
use Rattle.pef_model.specs.declared.state.Regs.{Regs}
use Rattle.pef_model.specs.declared.state.Run.{Run}
use Rattle.std.proofs.Common.{◌≡◌, ℕ, ◌+◌, ◌-◌, ◌^◌, ◌<◌, ◌≤◌, nat_lt, Bool, false, if◌then◌else◌, List, length, Option, Some, None, is_some, get_or, refl, ap, sym, subst, ◌∙◌, arith}
use Rattle.std.specs.Prelude.{slice_get}
use Rattle.pef_model.specs.declared.state.Tag.{Tag}
use Rattle.pef_model.specs.declared.state.Ctx.{Ctx}
use Rattle.pef_model.specs.declared.state.Ctx.TheVariants as ctx
use Rattle.pef_model.specs.declared.command.Cmd.{Cmd}
use Rattle.pef_model.specs.declared.entry.Answer.{Answer}
use Rattle.pef_model.specs.Plan.{Plan}
use Rattle.pef_model.specs.Event.{Event, Mark}
use Rattle.pef_model.specs.Target.{Ask, Target, Alone, AtGuest, AtFrame, target_in, touches_pool}
use Rattle.pef_model.specs.Cpu.{CpuPart, next_cpu}
use Rattle.pef_model.specs.Guest.{Guest as GuestWhole}
use Rattle.pef_model.specs.Clash.{clashes}
use Rattle.pef_model.specs.History.{ask_of, deed_after, cpu_after, guest_after, pool_after, frame_after, found_after, next_entry}
use Rattle.pef_model.specs.Sound.{clashes_at, is_clash}
use Rattle.pef_model.specs.StepLaw.{let_out_running, let_out}
use Rattle.pef_guest.specs.declared.cpu.Cpu.{Cpu}
use Rattle.pef_guest.specs.declared.guest.Guest.{Guest}
use Rattle.pef_guest.specs.Ready.{IsReadyFor}
use Rattle.pef_guest.specs.Does.{entry_at_guest}
use Rattle.pef_core.specs.State.{State, IsWholeMachine, IsVcpu, Works}
use Rattle.pef_core.specs.Steps.{Fits, Makes}
use Rattle.pef_core.specs.Does.{Targets}
use Rattle.pef_core.specs.Did.{pool_seen, shown_of, IsLook, Tells, HasRegisters, LooksAt}
use Rattle.pef_core.specs.declared.lent.Want.{Want}
use Rattle.pef_core.specs.Lent.{is_pool, frame_wanted, Touches}
use Rattle.pef_core.specs.declared.did.Look.{Look}
use Rattle.pef_model.proofs.Folds.{same_test}
use Rattle.pef_model.proofs.LetOut.{next_shown}
use Rattle.pef_model.specs.Memory.{pool_with}
use Rattle.pef_core.proofs.Fitting.{free_after}
use Rattle.pef_core.proofs.Continuing.{mark_at}
use Rattle.pef_core.proofs.Entries.{entry_at}
use Rattle.pef_core.proofs.Places.{read_at, sized, vcpu_below}
use Rattle.pef_core.proofs.WholeAfter.{one_step_more}
use Rattle.pef_core.proofs.Moving.{Site}
use Rattle.pef_core.proofs.AtGuest.{in_range, ready_for}
use Rattle.pef_core.proofs.OtherAims.{unpooled, framed}
use Rattle.pef_core.proofs.Looking.{told_by_numbers, looks_at}
use Rattle.pef_guest.proofs.Deeds.{IsShareOf, share_guest}

-- what a guest lets out, by the registers of its vCPU
shown_by_registers : (plan : Plan) (guests : ℕ → GuestWhole) (c : Ctx) (gpr : List ℕ) (cmd : Cmd) (a : Answer) (frame : Option ℕ) → ((run : Run) → c ≡ ctx.Guest run → gpr ≡ ((guests run.lpid).registers run.vid).gpr) →
    shown_of c gpr cmd a frame ≡ let_out plan guests c cmd a frame
shown_by_registers plan guests ctx.Hv gpr cmd a frame has = refl
shown_by_registers plan guests (ctx.Uv work) gpr cmd a frame has = refl
shown_by_registers plan guests (ctx.Guest run) gpr cmd a frame has = ap (λ (registers : List ℕ). let_out_running registers cmd a frame) (has run refl)

module _ {S : Type 0} (takes : S → ℕ → ℕ → Type 0) (stands : S → Tag → List ℕ → List ℕ → Type 0) (image : S → Tag → List ℕ → List ℕ) (m : State S) (n : ℕ) (whole : IsWholeMachine takes m) (below : n < length m.cpus) (cpu : Cpu) (read : cpu ≡ get_or m.cpus n cpu) (cmd : Cmd) (gpr : List ℕ) (has : HasRegisters stands image m n gpr) where
  pub there : slice_get m.cpus n ≡ Some cpu
  there = read_at m.cpus n cpu below read

  -- what aims at nothing touches neither the pool nor a frame
  pub looks_alone : Targets (length m.guests) m.normal cpu cmd Alone → LooksAt stands image m n cmd (record { before = cpu.ctx; lpid = cpu.lpid; vid = cpu.vid; last = cpu.last; touched = false; frame = None; gpr = gpr })
  looks_alone targets = looks_at stands image m n cpu there cmd Alone targets false None gpr has (λ plan past line place stamp fits clean at. (refl, refl))

  -- what aims at a frame tells it
  pub looks_at_frame : (frame : ℕ) → Targets (length m.guests) m.normal cpu cmd (AtFrame frame) → LooksAt stands image m n cmd (record { before = cpu.ctx; lpid = cpu.lpid; vid = cpu.vid; last = cpu.last; touched = false; frame = Some frame; gpr = gpr })
  looks_at_frame frame targets = looks_at stands image m n cpu there cmd (AtFrame frame) targets false (Some frame) gpr has (λ plan past line place stamp fits clean at.
      let c : CpuPart = cpu_after plan n past in
      let bytes = frame_after plan frame past in (
        sym (ap is_some (unpooled plan frame bytes (ask_of c cmd) c.ctx cmd)),
        sym (framed plan frame c.lpid bytes (ask_of c cmd) c.ctx cmd at),
      ))

  module _ (lpid : ℕ) (targets : Targets (length m.guests) m.normal cpu cmd (AtGuest lpid)) where
    -- the guest is one of the machine's
    pub range : (1 ≤ lpid) × (lpid - 1 < length m.guests)
    range =
        let is_cpu = whole.cpus n cpu there in
        in_range (sized m) m.guests m.normal n cpu.lpid cpu.vid cpu.ctx cmd lpid refl is_cpu.selects is_cpu.works (targets (sized m) refl refl refl)

    placed : Targets (length m.guests) m.normal cpu cmd (AtGuest (lpid - 1 + 1))
    placed = subst (λ (k : ℕ). Targets (length m.guests) m.normal cpu cmd (AtGuest k)) (let least = range.0 in omega (arith, least)) targets

    module _ (guest : Guest S) (guest_read : guest ≡ get_or m.guests (lpid - 1) guest) (few : m.steps < 2 ^ 63) where
      here : slice_get m.guests (lpid - 1) ≡ Some guest
      here = read_at m.guests (lpid - 1) guest range.1 guest_read

      site : Site takes (record m { steps = m.steps + 1 }) n cpu cpu.ctx (lpid - 1) guest
      site = record {
        there = there;
        context = refl;
        is_cpu = whole.cpus n cpu there;
        here = here;
        is_guest = (one_step_more takes m whole).guests (lpid - 1) guest here;
        fewer = (let most = (whole.guests (lpid - 1) guest here).steps in omega arith);
        few = omega arith;
      }

      pub guest_ready : IsReadyFor takes cmd guest cpu
      guest_ready = ready_for takes (record m { steps = m.steps + 1 }) n cpu (lpid - 1) guest site (one_step_more takes m whole) cmd placed

      -- what aims at a guest touches what it needs
      pub looks_at_guest : (wanted : Want) → Touches stands image guest cpu cmd wanted → LooksAt stands image m n cmd (record { before = cpu.ctx; lpid = cpu.lpid; vid = cpu.vid; last = cpu.last; touched = is_pool wanted; frame = frame_wanted wanted; gpr = gpr })
      looks_at_guest wanted touches = looks_at stands image m n cpu there cmd (AtGuest (lpid - 1 + 1)) placed (is_pool wanted) (frame_wanted wanted) gpr has (λ plan past line place stamp fits clean at.
          let c : CpuPart = cpu_after plan n past in
          let mark : Mark = mark_at n line place stamp in
          let g : GuestWhole = guest_after plan (lpid - 1 + 1) past in
          let any : Bool = nat_lt 0 (pool_after plan past) in
          let e : Event = entry_at_guest plan g (found_after plan past) any c mark cmd in
          let is : next_entry plan past mark cmd ≡ e = entry_at plan past mark cmd (ask_of c cmd) (AtGuest (lpid - 1 + 1)) refl at in
          let clear : clashes g.part e ≡ false = ap (clashes_at (λ l. (guest_after plan l past).part) e) (sym at) ∙ ap (is_clash plan past) (sym is) ∙ clean in
          let does = touches plan g (found_after plan past) any c mark (fits.guests (lpid - 1) guest here) (fits.cpus n cpu there) clear in
          (sym does.0, sym does.1))

-- a step that was looked at tells what its entry does
module _ {S : Type 0} (stands : S → Tag → List ℕ → List ℕ → Type 0) (image : S → Tag → List ℕ → List ℕ) (m new : State S) (n : ℕ) (cmd : Cmd) (a : Answer) (plan : Plan) (past : List Event) (line place stamp : ℕ) (fits : Fits stands image plan m past)
    (makes : Makes stands image plan new past (next_entry plan past (mark_at n line place stamp) cmd) a) where
  -- the entry
  abbrev e : Event
  e = next_entry plan past (mark_at n line place stamp) cmd

  -- how it touches the pool
  share_at : (t : Target) → IsShareOf (nat_lt 0 (pool_after plan past)) (deed_after plan past (ask_of (cpu_after plan n past) cmd) cmd t).pool
  share_at Alone = tt
  share_at (AtGuest l) = (share_guest plan (guest_after plan l past) (found_after plan past) (nat_lt 0 (pool_after plan past)) (ask_of (cpu_after plan n past) cmd) (cpu_after plan n past).ctx cmd).1
  share_at (AtFrame k) =
      let ask : Ask = ask_of (cpu_after plan n past) cmd in
      subst (IsShareOf (nat_lt 0 (pool_after plan past))) (sym (unpooled plan k (frame_after plan k past) ask (cpu_after plan n past).ctx cmd)) tt

  -- what it did with the pool
  pool_told : (touched : Bool) → touched ≡ touches_pool e → pool_seen touched (length m.pool.free) (length new.pool.free) ≡ e.saw.pool
  pool_told touched is = ap (λ (b : Bool). pool_seen b (length m.pool.free) (length new.pool.free)) is
      ∙ told_by_numbers (length m.pool.free) (length new.pool.free) e.saw.pool
      (subst (λ (free : ℕ). IsShareOf (nat_lt 0 free) e.saw.pool) (sym fits.free) (share_at (target_in plan (cpu_after plan n past).ctx (cpu_after plan n past).lpid cmd)))
      (makes.fits.free ∙ free_after plan past e ∙ ap (λ (k : ℕ). pool_with k e.saw.pool) (sym fits.free))

  -- what a guest lets out is decided by what was looked at and the answer
  shown_told : (look : Look) (shown : List ℕ) → IsLook (λ lpid. guest_after plan lpid past) e look → shown ≡ shown_of look.before look.gpr cmd a look.frame → shown ≡ e.saw.shown
  shown_told look shown is out =
      out ∙ (λ i. shown_of (is.before i) look.gpr cmd (makes.answered i) (is.frame i))
      ∙ shown_by_registers plan (λ lpid. guest_after plan lpid past) e.saw.before look.gpr cmd e.trace.answer e.saw.frame is.gpr
      ∙ sym (next_shown plan past (mark_at n line place stamp) cmd)

  pub tells : (look : Look) → IsLook (λ lpid. guest_after plan lpid past) (next_entry plan past (mark_at n line place stamp) cmd) look → (own : Cpu) → slice_get new.cpus n ≡ Some own →
      (shown : List ℕ) → shown ≡ shown_of look.before look.gpr cmd a look.frame →
      Tells (next_entry plan past (mark_at n line place stamp) cmd)
      (record {
        cmd = cmd;
        answer = a;
        saw = record { before = look.before; after = own.ctx; lpid = look.lpid; vid = look.vid; last = look.last; pool = pool_seen look.touched (length m.pool.free) (length new.pool.free); frame = look.frame; shown = shown };
      })
  tells look is own own_is shown out =
      let after : own.ctx ≡ e.saw.after = (makes.fits.cpus n own own_is).ctx ∙ ap (λ (b : Bool). (if b then next_cpu (cpu_after plan n past) e else cpu_after plan n past).ctx) (same_test n) in
      let pool : pool_seen look.touched (length m.pool.free) (length new.pool.free) ≡ e.saw.pool = pool_told look.touched is.touched in
      let told : shown ≡ e.saw.shown = shown_told look shown is out in
      record {
        cmd = refl;
        answer = makes.answered;
        saw = λ i. record { before = is.before i; after = after i; lpid = is.lpid i; vid = is.vid i; last = is.last i; pool = pool i; frame = is.frame i; shown = told i };
      }

-- the registers of the vCPU that a CPU runs
module _ {S : Type 0} (takes : S → ℕ → ℕ → Type 0) (stands : S → Tag → List ℕ → List ℕ → Type 0) (image : S → Tag → List ℕ → List ℕ) (m : State S) (n : ℕ) (whole : IsWholeMachine takes m) (cpu : Cpu) (there : slice_get m.cpus n ≡ Some cpu) where
  -- it is one of the machine's
  pub runs_vcpu : (run : Run) → cpu.ctx ≡ ctx.Guest run → IsVcpu m.guests run.lpid run.vid
  runs_vcpu run is = (subst (Works m.guests m.normal n) is (whole.cpus n cpu there).works).0

  -- those of a guest that was read
  pub has_registers : (run : Run) (guest : Guest S) → cpu.ctx ≡ ctx.Guest run → slice_get m.guests (run.lpid - 1) ≡ Some guest → HasRegisters stands image m n (vcpu_at guest run.vid).regs.gpr
  has_registers run guest is here plan past other fits runs =
      let same : other ≡ run = (let two : ctx.Guest other ≡ ctx.Guest run = sym runs ∙ sym (fits.cpus n cpu there).ctx ∙ is in cc) in
      let one = runs_vcpu run is in
      let least = one.least in
      let number : run.lpid - 1 + 1 ≡ run.lpid = omega arith in
      let shows = fits.guests (run.lpid - 1) guest here in
      let below : run.vid < plan.vcpus = subst (λ (k : ℕ). run.vid < k) shows.count (vcpu_below m.guests run.lpid run.vid guest one here) in
      ap (λ (regs : Regs). regs.gpr) (shows.vcpus run.vid below).registers ∙ ap (λ (l : ℕ). ((guest_after plan l past).registers run.vid).gpr) number
      ∙ ap (λ (r : Run). ((guest_after plan r.lpid past).registers r.vid).gpr) (sym same)

  -- a CPU that runs none has none
  pub has_none : (gpr : List ℕ) → ((run : Run) → cpu.ctx ≡ ctx.Guest run → ⊥) → HasRegisters stands image m n gpr
  has_none gpr none plan past run fits runs = absurd (none run ((fits.cpus n cpu there).ctx ∙ runs))
