-- From a hypercall to its answer: nothing of the vCPU changes until UV_RETURN takes it up.
use Rattle.std.proofs.Common.{◌≡◌, ℕ, ◌≤◌, List, [], ◌∷◌, ◌++◌, length, Bool, true, false, refl, ap, sym, subst, ◌∙◌, ◌==◌, ◌&&◌, nat_le, if◌then◌else◌, Option, Some, None, arith}
use Rattle.std.specs.Prelude.{unwrap_or}
use Rattle.std.specs.List.{AllByRecursion}
use Rattle.std.proofs.lemmas.Bool.{and_parts}
use Rattle.pef_model.specs.declared.state.Pending.TheVariants as pending
use Rattle.pef_model.specs.declared.state.VState.{VState}
use Rattle.pef_model.specs.declared.state.VState.TheVariants as vstate
use Rattle.pef_model.specs.declared.state.Regs.{Regs}
use Rattle.pef_model.specs.declared.state.Run.{Run}
use Rattle.pef_model.specs.declared.state.Ctx.{Ctx}
use Rattle.pef_model.specs.declared.state.Ctx.TheVariants as ctx
use Rattle.pef_model.specs.declared.hypercall.TheConstants.{HCALLS}
use Rattle.pef_model.specs.declared.hypercall.Row.{Row}
use Rattle.pef_model.specs.declared.hypercall.RowKind.TheVariants.{Reflected}
use Rattle.pef_model.specs.declared.command.Code.{Code}
use Rattle.pef_model.specs.declared.command.Code.TheVariants.{UInvalid}
use Rattle.pef_model.specs.declared.command.Cmd.{Cmd}
use Rattle.pef_model.specs.declared.command.Cmd.TheVariants.{HEnter, UPate, UReturn, GHcall, GIrq}
use Rattle.pef_model.specs.declared.entry.Exit.TheVariants.{Hcall}
use Rattle.pef_model.specs.declared.entry.Answer.{Answer}
use Rattle.pef_model.specs.declared.entry.Answer.TheVariants.{Ret, Enter, Exit}
use Rattle.pef_model.specs.Commands.{IsCommand}
use Rattle.pef_model.specs.Plan.{Plan}
use Rattle.pef_model.specs.Event.{Event}
use Rattle.pef_model.specs.Target.{Ask, Alone, AtGuest, is_guest, target_in, vcpu_in, is_command_in}
use Rattle.pef_model.specs.Hypercalls.{row_of}
use Rattle.pef_model.specs.Cpu.{CpuPart}
use Rattle.pef_model.specs.GuestPart.{GuestPart, VcpuPart, new_vcpu, waits_for}
use Rattle.pef_model.specs.Guest.{Guest, answered_by, returned_by}
use Rattle.pef_model.specs.Entry.{enter_code}
use Rattle.pef_model.specs.Deed.{Deed, may_return_in, is_waiting, taken_up_in, deed_return, answering, returning}
use Rattle.pef_model.specs.History.{cpu_after, guest_after, part_after, deed_after, reg, Extends, IsLegal, ChangesNoMemory}
use Rattle.pef_model.specs.CauseLaw.{Reflects}
use Rattle.pef_model.specs.StepLaw.{TakesUp, registers_of}
use Rattle.pef_model.specs.SearchLaw.{IsStep}
use Rattle.pef_model.specs.TransitionLaw.{state_given, state_after, is_vcpu}
use Rattle.pef_model.specs.ReturnLaw.{TakesOutputsAlone, ComesBack, takes_up_in, takes_up, EachCallComesBack}
use Rattle.pef_model.proofs.Folds.{same_test, test_same}
use Rattle.pef_model.proofs.Works.{vcpu_returned}
use Rattle.pef_model.proofs.Aims.{own_guest}
use Rattle.pef_model.proofs.Assigned.{full_registers}
use Rattle.pef_model.proofs.ContextAnswers.{context_exactly_where, gone_exactly_where}
use Rattle.pef_model.proofs.DeedOf.{deed_of, ask_in, deed_is, context_is}
use Rattle.pef_model.proofs.ExitAnswers.{exits_exactly_where}
use Rattle.pef_model.proofs.HypercallRows.{row_is_whole, row_of-found}
use Rattle.pef_model.proofs.Moves.{GoesOn, goes_on_is, own_registers, taken_registers, registers_by, registers_by_is, others_stay, is_interrupted}
use Rattle.pef_model.proofs.Parts.{generation_grows}
use Rattle.pef_model.proofs.Returned.{returned_gpr}
use Rattle.pef_model.proofs.ReturnRows.{takes_alone}
use Rattle.pef_model.proofs.Running.{each_cpu_runs_its_vcpu}
use Rattle.pef_model.proofs.Taken.{taken_up, parked, vcpu_given, given_at, vcpu_after, each_entry_leaves_states}

-- UV_RETURN that enters takes up the vCPU that is selected
returned_up : (plan : Plan) (past : List Event) (e : Event) (r0 r2 : ℕ) (outs : List ℕ) → Extends plan past e → e.saw.before ≡ ctx.Hv → e.trace.cmd ≡ UReturn r0 r2 outs → e.trace.answer ≡ Enter → takes_up e.saw.lpid e.saw.vid e ≡ true
returned_up plan past e r0 r2 outs extends before cmd_is answer_is =
    (λ i. takes_up_in ((ap (λ (x : Event). x.saw.lpid) extends.is) i) ((ap (λ (x : Event). x.saw.vid) extends.is) i) (same i).answer (same i).after)
    ∙ by_test (may_return_in g.phase && is_waiting (g.vcpus cpu.vid).state) (sym (ap (λ (d : Deed). d.answer) same) ∙ answer_is) where
      cpu : CpuPart
      cpu = cpu_after plan e.trace.cpu past

      g : GuestPart
      g = part_after plan past cpu.lpid

      ask : Ask
      ask = ask_in cpu ctx.Hv (UReturn r0 r2 outs)

      same : deed_of e ≡ deed_return g ask
      same = deed_is plan past e ctx.Hv (UReturn r0 r2 outs) extends before cmd_is

      up : Run
      up = record { lpid = cpu.lpid; vid = cpu.vid; generation = g.generation }

      deed : Bool → Deed
      deed b = if b then record (answering ask Enter) { after = taken_up_in (g.vcpus cpu.vid).state up } else answering ask (Ret UInvalid)

      by_test : (b : Bool) → (deed b).answer ≡ Enter → takes_up_in cpu.lpid cpu.vid (deed b).answer (deed b).after ≡ true
      by_test true h = ap (is_vcpu cpu.lpid cpu.vid) (vcpu_returned (g.vcpus cpu.vid).state up) ∙ rw (same_test cpu.lpid, same_test cpu.vid) refl
      by_test false h = cc

-- and h.enter the one that it names
entered_up : (plan : Plan) (past : List Event) (e : Event) (lpid vid value : ℕ) → Extends plan past e → e.saw.before ≡ ctx.Hv → e.trace.cmd ≡ HEnter lpid vid value → e.trace.answer ≡ Enter → takes_up lpid vid e ≡ true
entered_up plan past e lpid vid value extends before cmd_is answer_is =
    (λ i. takes_up_in lpid vid (same i).answer (same i).after) ∙ by_aim (nat_le 1 lpid && nat_le lpid plan.guests) (sym (ap (λ (d : Deed). d.answer) same) ∙ answer_is) where
      g : GuestPart
      g = part_after plan past lpid

      ask : Ask
      ask = ask_in (cpu_after plan e.trace.cpu past) ctx.Hv (HEnter lpid vid value)

      deed : Bool → Deed
      deed b = deed_after plan past ask (HEnter lpid vid value) (if b then AtGuest lpid else Alone)

      same : deed_of e ≡ deed (nat_le 1 lpid && nat_le lpid plan.guests)
      same = deed_is plan past e ctx.Hv (HEnter lpid vid value) extends before cmd_is

      entering : Option Code → Deed
      entering code = returning ask code (record (answering ask Enter) { after = ctx.Guest (record { lpid = lpid; vid = vid; generation = g.generation }) })

      by_code : (code : Option Code) → (entering code).answer ≡ Enter → takes_up_in lpid vid (entering code).answer (entering code).after ≡ true
      by_code None h = rw (same_test lpid, same_test vid) refl
      by_code (Some code) h = cc

      by_aim : (b : Bool) → (deed b).answer ≡ Enter → takes_up_in lpid vid (deed b).answer (deed b).after ≡ true
      by_aim true h = by_code (enter_code plan g vid) h
      by_aim false h = cc

-- a step that neither runs a vCPU nor takes it up, and doesn't end its guest, leaves it parked
stays_parked : (plan : Plan) (g : GuestPart) (c : Ctx) (l v cpu : ℕ) (cmd : Cmd) (a : Answer) (lpid vid : ℕ) → GoesOn plan c l cmd a lpid →
    ((run : Run) → vcpu_in c ≡ Some run → run.lpid ≡ lpid → run.vid ≡ vid → ⊥) →
    ((r0 r2 : ℕ) (outs : List ℕ) → c ≡ ctx.Hv → cmd ≡ UReturn r0 r2 outs → a ≡ Enter → l ≡ lpid → v ≡ vid → ⊥) →
    ((value : ℕ) → c ≡ ctx.Hv → cmd ≡ HEnter lpid vid value → a ≡ Enter → ⊥) →
    is_guest lpid (target_in plan c l cmd) ≡ true → vcpu_given g vid v cpu c cmd a ≡ None
stays_parked plan g ctx.Hv l v cpu (UReturn r0 r2 outs) Enter lpid vid goes_on own returned entered aims = by_test (v == vid) refl where
  by_test : (b : Bool) → (v == vid) ≡ b → (if b then Some (taken_up g cpu) else None) ≡ None
  by_test true t = absurd (returned r0 r2 outs refl refl refl (test_same l lpid aims) (test_same v vid t))
  by_test false t = refl
stays_parked plan g ctx.Hv l v cpu (HEnter named vcpu value) Enter lpid vid goes_on own returned entered aims = by_test (vcpu == vid) refl where
  by_place : (b : Bool) → is_guest lpid (if b then AtGuest named else Alone) ≡ true → (named == lpid) ≡ true
  by_place true t = t
  by_place false t = cc

  by_test : (b : Bool) → (vcpu == vid) ≡ b → (if b then Some (taken_up g cpu) else None) ≡ None
  by_test true t = absurd (entered value refl (λ i. HEnter (test_same named lpid (by_place (nat_le 1 named && nat_le named plan.guests) aims) i) (test_same vcpu vid t i) value) refl)
  by_test false t = refl
stays_parked plan g ctx.Hv l v cpu (UPate named dw0 dw1) (Ret code) lpid vid goes_on own returned entered aims = ap (λ (b : Bool). if b then Some (new_vcpu vstate.Idle) else None) (goes_on aims)
stays_parked plan g (ctx.Guest run) l v cpu GHcall (Exit why) lpid vid goes_on own returned entered aims = by_test (run.vid == vid) refl where
  by_test : (b : Bool) → (run.vid == vid) ≡ b → (if b then Some (parked g run.vid (waits_for why)) else None) ≡ None
  by_test true t = absurd (own run refl (own_guest plan run l lpid GHcall aims) (test_same run.vid vid t))
  by_test false t = refl
stays_parked plan g (ctx.Guest run) l v cpu GIrq (Exit why) lpid vid goes_on own returned entered aims = by_test (run.vid == vid) refl where
  by_test : (b : Bool) → (run.vid == vid) ≡ b → (if b then Some (parked g run.vid pending.Irq) else None) ≡ None
  by_test true t = absurd (own run refl (own_guest plan run l lpid GIrq aims) (test_same run.vid vid t))
  by_test false t = refl
stays_parked plan g c l v cpu cmd a lpid vid goes_on own returned entered aims = refl

-- a vCPU waits for the answer of its hypercall, with the registers that it had at the call
record Waits (plan : Plan) (past : List Event) (lpid vid n : ℕ) (regs : Regs) : Type 0 where
  state : state_after plan past lpid vid ≡ vstate.Parked (pending.Hcall n)
  registers : registers_of plan past lpid vid ≡ regs

-- an entry that doesn't take it up leaves it so, as long as its guest keeps its generation
waits_on : (plan : Plan) (past : List Event) (e : Event) (lpid vid n : ℕ) (regs : Regs) → IsLegal plan (e ∷ past) → takes_up lpid vid e ≡ false →
    (part_after plan (e ∷ past) lpid).generation ≡ (part_after plan past lpid).generation → Waits plan past lpid vid n regs → Waits plan (e ∷ past) lpid vid n regs
waits_on plan past e lpid vid n regs legal none same waits = by_step (is_vcpu lpid vid (vcpu_in e.saw.before)) refl where
  g : Guest
  g = guest_after plan lpid past

  -- no CPU runs it in its guest's generation
  runs_not : (run : Run) → vcpu_in e.saw.before ≡ Some run → run.lpid ≡ lpid → run.vid ≡ vid → run.generation ≡ (part_after plan past run.lpid).generation → ⊥
  runs_not run before here this now =
      let running = each_cpu_runs_its_vcpu plan past e.trace.cpu run legal.1 (ap vcpu_in (sym (context_is plan past e legal.0)) ∙ before) now in
      let state : state_after plan past lpid vid ≡ vstate.Running e.trace.cpu = (λ i. state_after plan past (sym here i) (sym this i)) ∙ running.state in
      let parked_is = waits.state in
      cc

  kept : ChangesNoMemory plan past e → Waits plan (e ∷ past) lpid vid n regs
  kept unchanged = record {
    state = ap (λ (x : Guest). (x.part.vcpus vid).state) (unchanged.guests lpid) ∙ waits.state;
    registers = ap (λ (x : Guest). x.registers vid) (unchanged.guests lpid) ∙ waits.registers;
  }

  -- one that runs it in another is told so
  by_run : (run : Run) → vcpu_in e.saw.before ≡ Some run → run.lpid ≡ lpid → run.vid ≡ vid → Waits plan (e ∷ past) lpid vid n regs
  by_run run before here this = by_command (is_command_in e.saw.before e.trace.cmd) refl where
    by_command : (b : Bool) → is_command_in e.saw.before e.trace.cmd ≡ b → Waits plan (e ∷ past) lpid vid n regs
    by_command true t =
        let gone = gone_exactly_where plan past e legal.0 in
        kept (gone.rest (gone.comes.1 (record { run = run; before = before; cmd_is = t; generation = runs_not run before here this })))
    by_command false t = let other = context_exactly_where plan past e legal.0 in kept (other.rest (other.comes.1 t))

  by_vcpu : (o : Option Run) → vcpu_in e.saw.before ≡ o → is_vcpu lpid vid o ≡ true → Waits plan (e ∷ past) lpid vid n regs
  by_vcpu None before t = cc
  by_vcpu (Some run) before t = let both = and_parts (run.lpid == lpid) (run.vid == vid) t in by_run run before (test_same run.lpid lpid both.0) (test_same run.vid vid both.1)

  by_step : (b : Bool) → is_vcpu lpid vid (vcpu_in e.saw.before) ≡ b → Waits plan (e ∷ past) lpid vid n regs
  by_step true t = by_vcpu (vcpu_in e.saw.before) refl t
  by_step false t = record {
    state = ap (λ (x : VcpuPart). x.state) (vcpu_after plan past e lpid vid) ∙ ap (λ (x : VcpuPart). x.state) (by_aim (is_guest lpid (target_in plan e.saw.before e.saw.lpid e.trace.cmd)) refl) ∙ waits.state;
    registers = registers_by_is plan past e lpid vid
        ∙ others_stay plan e.saw.before e.saw.lpid e.saw.vid e.trace.cmd e.trace.answer g lpid vid goes_on own returned (λ value before cmd_is answer_is exits. let parked_is = waits.state in cc)
        ∙ waits.registers;
  } where
    goes_on : GoesOn plan e.saw.before e.saw.lpid e.trace.cmd e.trace.answer lpid
    goes_on = goes_on_is plan past e lpid same

    own : (run : Run) → vcpu_in e.saw.before ≡ Some run → run.lpid ≡ lpid → run.vid ≡ vid → ⊥
    own run before here this =
        let is : is_vcpu lpid vid (Some run) ≡ true = (λ i. (run.lpid == sym here i) && (run.vid == sym this i)) ∙ rw (same_test run.lpid, same_test run.vid) refl in
        let not_is : is_vcpu lpid vid (Some run) ≡ false = ap (is_vcpu lpid vid) (sym before) ∙ t in
        cc

    returned : (r0 r2 : ℕ) (outs : List ℕ) → e.saw.before ≡ ctx.Hv → e.trace.cmd ≡ UReturn r0 r2 outs → e.trace.answer ≡ Enter → e.saw.lpid ≡ lpid → e.saw.vid ≡ vid → ⊥
    returned r0 r2 outs before cmd_is answer_is here this =
        let up : takes_up lpid vid e ≡ true = (λ i. takes_up (sym here i) (sym this i) e) ∙ returned_up plan past e r0 r2 outs legal.0 before cmd_is answer_is in
        cc

    entered : (value : ℕ) → e.saw.before ≡ ctx.Hv → e.trace.cmd ≡ HEnter lpid vid value → e.trace.answer ≡ Enter → ⊥
    entered value before cmd_is answer_is = let up = entered_up plan past e lpid vid value legal.0 before cmd_is answer_is in cc

    given : Option VcpuPart
    given = vcpu_given g.part vid e.saw.vid e.trace.cpu e.saw.before e.trace.cmd e.trace.answer

    by_aim : (b : Bool) → is_guest lpid (target_in plan e.saw.before e.saw.lpid e.trace.cmd) ≡ b → given_at b given (g.part.vcpus vid) ≡ g.part.vcpus vid
    by_aim true aims =
        ap (λ (o : Option VcpuPart). unwrap_or o (g.part.vcpus vid))
        (stays_parked plan g.part e.saw.before e.saw.lpid e.saw.vid e.trace.cpu e.trace.cmd e.trace.answer lpid vid goes_on own returned entered aims)
    by_aim false aims = refl

module _ (plan : Plan) (past : List Event) (call : Event) (run : Run) (n : ℕ) (legal : IsLegal plan (call ∷ past)) (call_is : IsStep run GHcall (Exit (Hcall n)) call) where
  abbrev regs : Regs
  regs = registers_of plan past run.lpid run.vid

  -- the row of the call
  reflects : Reflects n plan past call
  reflects = ((exits_exactly_where plan past call legal.0).call n).0 call_is.answer_is

  run_is : reflects.call.run ≡ run
  run_is = let same = sym reflects.call.before ∙ call_is.before in cc

  row_is : row_of HCALLS n ≡ Some reflects.row
  row_is = ap (row_of HCALLS) (sym reflects.number ∙ (row_of-found HCALLS (reg plan past reflects.call.run.lpid reflects.call.run.vid 3) reflects.row reflects.row_is).1) ∙ reflects.row_is

  same_generation : run.generation ≡ (part_after plan past run.lpid).generation
  same_generation = subst (λ (x : Run). x.generation ≡ (part_after plan past x.lpid).generation) run_is reflects.call.generation

  -- once the vCPU has left it waits
  waits_first : Waits plan (call ∷ past) run.lpid run.vid n regs
  waits_first = record {
    state = (each_entry_leaves_states plan past call run.lpid run.vid legal.0).state
        ∙ (λ i. unwrap_or (state_given g.part run.lpid run.vid call.saw.lpid call.saw.vid call.trace.cpu (call_is.before i) (call_is.cmd_is i) (call_is.answer_is i)) (g.part.vcpus run.vid).state)
        ∙ rw (same_test run.lpid, same_test run.vid) refl;
    registers = registers_by_is plan past call run.lpid run.vid
        ∙ (λ i. registers_by plan (call_is.before i) call.saw.lpid call.saw.vid (call_is.cmd_is i) (call_is.answer_is i) g run.lpid run.vid)
        ∙ own_registers plan run call.saw.lpid call.saw.vid GHcall (Exit (Hcall n)) g run.lpid run.vid refl refl;
  } where
    g : Guest
    g = guest_after plan run.lpid past

  -- its guest's generation is no earlier since
  generation_since : (since : List Event) → run.generation ≤ (part_after plan (since ++ call ∷ past) run.lpid).generation
  generation_since [] = let grows = generation_grows plan past call run.lpid in omega (arith, same_generation, grows)
  generation_since (e ∷ since) = let grows = generation_grows plan (since ++ call ∷ past) e run.lpid in omega (arith, generation_since since, grows)

  waits_since : (since : List Event) → IsLegal plan (since ++ call ∷ past) → AllByRecursion (λ (e : Event). takes_up run.lpid run.vid e ≡ false) since →
      (part_after plan (since ++ call ∷ past) run.lpid).generation ≡ run.generation → Waits plan (since ++ call ∷ past) run.lpid run.vid n regs
  waits_since [] whole none same = waits_first
  waits_since (e ∷ since) whole none same =
      let grows = generation_grows plan (since ++ call ∷ past) e run.lpid in
      let before : (part_after plan (since ++ call ∷ past) run.lpid).generation ≡ run.generation = omega (arith, generation_since since, grows, same) in
      waits_on plan (since ++ call ∷ past) e run.lpid run.vid n regs whole none.0 (same ∙ sym before) (waits_since since whole.1 none.1 before)

-- UV_RETURN answers a vCPU that waits
answers_waiting : (plan : Plan) (past : List Event) (back : Event) (lpid vid n r0 r2 : ℕ) (outs : List ℕ) (regs : Regs) (row : Row) → IsLegal plan (back ∷ past) → Waits plan past lpid vid n regs →
    TakesUp lpid vid r0 r2 outs back → row_of HCALLS n ≡ Some row → row.kind ≡ Reflected → ComesBack n r0 r2 outs regs (registers_of plan (back ∷ past) lpid vid)
answers_waiting plan past back lpid vid n r0 r2 outs regs row legal waits takes row_is kind_is =
    subst (λ (x : Regs). ComesBack n r0 r2 outs regs x) (sym is) (record {
      row = row;
      row_is = row_is;
      kind_is = kind_is;
      gpr = subst (λ (gpr : List ℕ). TakesOutputsAlone row r0 outs regs.gpr gpr) (sym (returned_gpr waiting regs r0 r2 outs ∙ ap (λ (o : Option Row). (answered_by o regs r0 outs).gpr) row_is))
          (takes_alone row regs r0 outs (row_is_whole n row row_is) full nine);
      goes_on = is_interrupted waiting regs r0 r2 outs;
    }) where
      g : Guest
      g = guest_after plan lpid past

      waiting : VState
      waiting = vstate.Parked (pending.Hcall n)

      is : registers_of plan (back ∷ past) lpid vid ≡ returned_by waiting regs r0 r2 outs
      is = registers_by_is plan past back lpid vid
          ∙ (λ i. registers_by plan (takes.before i) (takes.guest_is i) (takes.vcpu_is i) (takes.cmd_is i) (takes.answer_is i) g lpid vid)
          ∙ taken_registers plan r0 r2 outs g lpid vid
          ∙ (λ i. returned_by (waits.state i) (waits.registers i) r0 r2 outs)

      full : length regs.gpr ≡ 32
      full = ap (λ (x : Regs). length x.gpr) (sym waits.registers) ∙ full_registers plan past lpid legal.1 vid

      nine : length outs ≡ 9
      nine = let k = subst IsCommand takes.cmd_is legal.0.command in k.2

pub each_call_comes_back : EachCallComesBack
each_call_comes_back plan past since call back run n r0 r2 outs legal answers =
    let first : IsLegal plan (call ∷ past) = legal_before plan since (call ∷ past) legal.1 in
    let calls = reflects plan past call run n first answers.call_is in
    answers_waiting plan (since ++ call ∷ past) back run.lpid run.vid n r0 r2 outs (registers_of plan past run.lpid run.vid) calls.row legal
    (waits_since plan past call run n first answers.call_is since legal.1 answers.since_is answers.generation) answers.back_is (row_is plan past call run n first answers.call_is) calls.kind_is where
      legal_before : (plan : Plan) (since past : List Event) → IsLegal plan (since ++ past) → IsLegal plan past
      legal_before plan [] past legal = legal
      legal_before plan (e ∷ since) past legal = legal_before plan since past legal.1
