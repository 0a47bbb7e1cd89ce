-- What an entry makes of a vCPU's registers.
use Rattle.std.proofs.Common.{◌≡◌, ℕ, List, ◌∷◌, Bool, true, false, refl, ap, sym, subst, ◌∙◌, ◌==◌, ◌&&◌, nat_le, if◌then◌else◌, Some, arith}
use Rattle.std.proofs.lemmas.Grind.{common_steps}
use Rattle.pef_model.specs.declared.state.Phase.TheVariants.{Normal}
use Rattle.pef_model.specs.declared.state.Run.{Run}
use Rattle.pef_model.specs.declared.state.Regs.{Regs}
use Rattle.pef_model.specs.declared.state.Ctx.{Ctx}
use Rattle.pef_model.specs.declared.state.Ctx.TheVariants as ctx
use Rattle.pef_model.specs.declared.command.Code.{Code}
use Rattle.pef_model.specs.declared.command.Code.TheVariants.{USuccess}
use Rattle.pef_model.specs.declared.command.Cmd.{Cmd}
use Rattle.pef_model.specs.declared.command.Cmd.TheVariants.{HLd, HSt, HSelect, HEnter, UPate, UReturn, GHcall, Dump, Go}
use Rattle.pef_model.specs.declared.entry.Answer.{Answer}
use Rattle.pef_model.specs.declared.entry.Answer.TheVariants.{Ret, Enter, Context}
use Rattle.pef_model.specs.declared.state.Work.TheVariants.{Inward, Outward}
use Rattle.pef_model.specs.Plan.{Plan}
use Rattle.pef_model.specs.Event.{Event}
use Rattle.pef_model.specs.Target.{target_in, is_guest, touches_guest, vcpu_in, AtGuest, Alone}
use Rattle.pef_model.specs.GuestPart.{call_left, call_of_state, ends_guest, part_of_write, part_of_hypervisor, part_in, ended_normal}
use Rattle.pef_model.specs.Registers.{fresh_registers}
use Rattle.pef_model.specs.Guest.{Guest, start_guest, next_guest, registers_after_command, registers_in, entered_at, address_for, returned_to, returned_by, answered_with}
use Rattle.pef_model.specs.History.{guest_after}
use Rattle.pef_model.specs.StepLaw.{Steps, IsInterrupted, IsStepOf, TakesUp, goes_on_at, r2_for, takes_nothing, registers_of, EachEntryLeavesRegisters}
use Rattle.pef_model.proofs.Folds.{either_same, same_test, test_same, counts}
use Rattle.pef_model.proofs.Assigned.{ends_by, waits_for_answer, answers_by, same_answered, gpr_in_hypervisor}
use Rattle.pef_model.proofs.Returned.{waits_for_call}
use Rattle.pef_model.proofs.Aims.{own_guest}
use Rattle.pef_model.proofs.Works.{one_vcpu}
use Rattle.pef_model.proofs.Outcomes.{Outcome, outcome}
use Rattle.pef_model.proofs.Taken.{IsThereIn, there_is}
use Rattle.std.specs.Prelude.{slice_set}
use Rattle.pef_model.specs.declared.state.Pending.{Pending}
use Rattle.pef_model.specs.declared.state.Pending.TheVariants as pending
use Rattle.pef_model.specs.declared.state.VState.TheVariants as vstate
use Rattle.pef_model.specs.declared.state.VState.{VState}

-- a vCPU's registers after an entry, by the fields of the entry
abbrev pub registers_by : Plan → Ctx → ℕ → ℕ → Cmd → Answer → Guest → ℕ → ℕ → Regs
registers_by plan c l v cmd a g lpid vid = if is_guest lpid (target_in plan c l cmd) then registers_in c g v cmd a vid else g.registers vid

pub registers_by_is : (plan : Plan) (past : List Event) (e : Event) (lpid vid : ℕ) →
    registers_of plan (e ∷ past) lpid vid
    ≡ registers_by plan e.saw.before e.saw.lpid e.saw.vid e.trace.cmd e.trace.answer (guest_after plan lpid past) lpid vid
registers_by_is plan past e lpid vid = by_test (touches_guest plan lpid e) where
  g : Guest
  g = guest_after plan lpid past

  by_test : (b : Bool) → (if b then next_guest plan g e else g).registers vid ≡ (if b then (next_guest plan g e).registers vid else g.registers vid)
  by_test true = refl
  by_test false = refl

pub steps : (g : Guest) (regs : Regs) (run : Run) (cmd : Cmd) (a : Answer) (after : Ctx) (shown : List ℕ) → Outcome (ctx.Guest run) cmd a after shown →
    Steps cmd a regs (registers_after_command g regs cmd a)
steps g regs run cmd a after shown h = record { nip = grind (arith, common_steps); srr0 = grind (arith, common_steps) }

-- a step that aims at its own guest leaves its vCPU these registers
aimed_registers : (run : Run) (v : ℕ) (cmd : Cmd) (a : Answer) (g : Guest) (lpid vid : ℕ) → run.lpid ≡ lpid → run.vid ≡ vid →
    (if run.lpid == lpid then registers_in (ctx.Guest run) g v cmd a vid else g.registers vid) ≡ registers_after_command g (g.registers vid) cmd a
aimed_registers run v cmd a g lpid vid here this =
    subst (λ (x : ℕ). (if run.lpid == x then registers_in (ctx.Guest run) g v cmd a vid else g.registers vid) ≡ registers_after_command g (g.registers vid) cmd a) here
    (subst (λ (x : ℕ). (if run.lpid == run.lpid then registers_in (ctx.Guest run) g v cmd a x else g.registers x) ≡ registers_after_command g (g.registers x) cmd a) this
    (rw (same_test run.lpid, same_test run.vid) refl))

-- so does one that aims at nothing
pub own_registers : (plan : Plan) (run : Run) (l v : ℕ) (cmd : Cmd) (a : Answer) (g : Guest) (lpid vid : ℕ) → run.lpid ≡ lpid → run.vid ≡ vid →
    registers_by plan (ctx.Guest run) l v cmd a g lpid vid ≡ registers_after_command g (g.registers vid) cmd a
own_registers plan run l v (HLd ra) a g lpid vid here this = refl
own_registers plan run l v (HSt ra value) a g lpid vid here this = refl
own_registers plan run l v (HSelect named entered) a g lpid vid here this = refl
own_registers plan run l v (HEnter named entered value) a g lpid vid here this = refl
own_registers plan run l v Go a g lpid vid here this = refl
own_registers plan run l v cmd a g lpid vid here this = aimed_registers run v cmd a g lpid vid here this

pub taken_registers : (plan : Plan) (r0 r2 : ℕ) (outs : List ℕ) (g : Guest) (lpid vid : ℕ) →
    registers_by plan ctx.Hv lpid vid (UReturn r0 r2 outs) Enter g lpid vid ≡ returned_by (g.part.vcpus vid).state (g.registers vid) r0 r2 outs
taken_registers plan r0 r2 outs g lpid vid = rw (same_test lpid, same_test vid) refl

-- one that ends a guest of the machine leaves each vCPU of it zero registers
ended_registers : (plan : Plan) (l v : ℕ) (dw0 : ℕ) (g : Guest) (lpid vid : ℕ) → (nat_le 1 lpid && nat_le lpid plan.guests) ≡ true → registers_by plan ctx.Hv l v (UPate lpid dw0 0) (Ret USuccess) g lpid vid ≡ fresh_registers
ended_registers plan l v dw0 g lpid vid there = rw (there, same_test lpid) refl

-- R2 counts so as the state says
pub counts_so : (state : VState) (r2 : ℕ) → address_for (call_of_state state) r2 ≡ r2_for state r2
counts_so (vstate.Parked waits) r2 = by_pending waits where
  by_pending : (waits : Pending) → address_for (call_left waits) r2 ≡ r2_for (vstate.Parked waits) r2
  by_pending (pending.Share gfn) = refl
  by_pending (pending.Unshare gfn) = refl
  by_pending (pending.UnshareAll gfn) = refl
  by_pending pending.EsmStart = refl
  by_pending (pending.EsmNeed gfn) = refl
  by_pending pending.EsmDone = refl
  by_pending waits = refl
counts_so state r2 = refl

-- where UV_RETURN lets a vCPU go on, or interrupts it
pub is_interrupted : (state : VState) (regs : Regs) (r0 r2 : ℕ) (outs : List ℕ) → IsInterrupted (r2_for state r2) (goes_on_at state regs.nip) regs (returned_by state regs r0 r2 outs)
is_interrupted state regs r0 r2 outs = subst (λ (r : ℕ). IsInterrupted r (goes_on_at state regs.nip) regs (returned_by state regs r0 r2 outs)) (counts_so state r2) (by_address (address_for (call_of_state state) r2)) where
  brought : Regs
  brought = returned_to state regs r0 outs

  brought_nip : (state : VState) → (returned_to state regs r0 outs).nip ≡ goes_on_at state regs.nip
  brought_nip (vstate.Parked (pending.Hcall n)) = refl
  brought_nip (vstate.Parked waits) = refl
  brought_nip state = refl

  brought_srr0 : (state : VState) → (returned_to state regs r0 outs).srr0 ≡ regs.srr0
  brought_srr0 (vstate.Parked (pending.Hcall n)) = refl
  brought_srr0 (vstate.Parked waits) = refl
  brought_srr0 state = refl

  by_address : (r : ℕ) → IsInterrupted r (goes_on_at state regs.nip) regs (entered_at brought r)
  by_address r = record { nip = nip (r == 0); srr0 = srr0 (r == 0) } where
    nip : (b : Bool) → (if b then brought else record brought { nip = r; srr0 = brought.nip }).nip ≡ (if b then goes_on_at state regs.nip else r)
    nip true = brought_nip state
    nip false = refl

    srr0 : (b : Bool) → (if b then brought else record brought { nip = r; srr0 = brought.nip }).srr0 ≡ (if b then regs.srr0 else goes_on_at state regs.nip)
    srr0 true = brought_srr0 state
    srr0 false = brought_nip state

-- h.enter of a vCPU that waits for the answer of a hypercall
answered_registers : (plan : Plan) (l v : ℕ) (value : ℕ) (g : Guest) (lpid vid : ℕ) → (nat_le 1 lpid && nat_le lpid plan.guests) ≡ true → (g.part.vcpus vid).state ≡ vstate.Parked pending.Exit →
    registers_by plan ctx.Hv l v (HEnter lpid vid value) Enter g lpid vid ≡ record (g.registers vid) { gpr = slice_set (g.registers vid).gpr 3 value }
answered_registers plan l v value g lpid vid there waits = rw (there, same_test lpid, same_test vid, waits) refl

-- a change at one vCPU leaves another as it is, and one to the same value leaves each
put_elsewhere : (b : Bool) (registers : ℕ → Regs) (regs : Regs) (lpid vid v : ℕ) → ((vid == v) ≡ true → b ≡ true → regs ≡ registers vid) →
    (if b then (if vid == v then regs else registers vid) else registers vid) ≡ registers vid
put_elsewhere false registers regs lpid vid v h = refl
put_elsewhere true registers regs lpid vid v h = by_test (vid == v) refl where
  by_test : (c : Bool) → (vid == v) ≡ c → (if c then regs else registers vid) ≡ registers vid
  by_test true t = h t refl
  by_test false t = refl

-- a step of the hypervisor doesn't end this guest
abbrev pub GoesOn : Plan → Ctx → ℕ → Cmd → Answer → ℕ → Type 0
GoesOn plan ctx.Hv l cmd a lpid = is_guest lpid (target_in plan ctx.Hv l cmd) ≡ true → ends_by cmd a ≡ false
GoesOn plan c l cmd a lpid = Unit {0}

-- one that writes its partition entry leaves its registers
unended : (b ends : Bool) (registers : ℕ → Regs) (vid : ℕ) → (b ≡ true → ends ≡ false) → (if b then (if ends then (λ n. fresh_registers) else registers) vid else registers vid) ≡ registers vid
unended true ends registers vid goes_on = ap (λ (x : Bool). (if x then (λ n. fresh_registers) else registers) vid) (goes_on refl)
unended false ends registers vid goes_on = refl

-- an entry isn't h.enter that gives this vCPU the answer of its hypercall
abbrev pub IsUnanswered : Guest → ℕ → ℕ → Ctx → Cmd → Answer → Type 0
IsUnanswered g lpid vid c cmd a = (value : ℕ) → c ≡ ctx.Hv → cmd ≡ HEnter lpid vid value → a ≡ Enter → (g.part.vcpus vid).state ≡ vstate.Parked pending.Exit → ⊥

waits_is : (state : VState) → waits_for_answer state ≡ true → state ≡ vstate.Parked pending.Exit
waits_is (vstate.Parked pending.Exit) h = refl
waits_is (vstate.Parked waits) h = cc
waits_is state h = cc

-- nor UV_RETURN that does
abbrev IsUnreturned : Guest → ℕ → ℕ → Ctx → ℕ → ℕ → Cmd → Answer → Type 0
IsUnreturned g lpid vid c l v cmd a = (r0 r2 : ℕ) (outs : List ℕ) → c ≡ ctx.Hv → cmd ≡ UReturn r0 r2 outs → a ≡ Enter → l ≡ lpid → v ≡ vid → takes_nothing (g.part.vcpus vid).state ≡ true

takes_none : (state : VState) → takes_nothing state ≡ true → waits_for_call state ≡ false
takes_none (vstate.Parked (pending.Hcall n)) h = cc
takes_none (vstate.Parked waits) h = refl
takes_none state h = refl

-- so it answers none where it aims at the guest
unanswered : (plan : Plan) (l v : ℕ) (cmd : Cmd) (a : Answer) (g : Guest) (lpid vid : ℕ) → IsUnanswered g lpid vid ctx.Hv cmd a → IsUnreturned g lpid vid ctx.Hv l v cmd a → is_guest lpid (target_in plan ctx.Hv l cmd) ≡ true →
    answers_by g v vid cmd a ≡ false
unanswered plan l v (UReturn r0 r2 outs) Enter g lpid vid none returned aims = by_test (vid == v) refl where
  by_test : (b : Bool) → (vid == v) ≡ b → (b && waits_for_call (g.part.vcpus vid).state) ≡ false
  by_test true t = takes_none (g.part.vcpus vid).state (returned r0 r2 outs refl refl refl (test_same l lpid aims) (sym (test_same vid v t)))
  by_test false t = refl
unanswered plan l v (HEnter named entered value) Enter g lpid vid none returned aims = by_test (vid == entered) (waits_for_answer (g.part.vcpus vid).state) refl refl where
  here : (named == lpid) ≡ true
  here = by_place (nat_le 1 named && nat_le named plan.guests) aims where
    by_place : (b : Bool) → is_guest lpid (if b then AtGuest named else Alone) ≡ true → (named == lpid) ≡ true
    by_place true t = t
    by_place false t = cc

  by_test : (b w : Bool) → (vid == entered) ≡ b → waits_for_answer (g.part.vcpus vid).state ≡ w → (b && w) ≡ false
  by_test true true t u = absurd (none value refl (λ i. HEnter (test_same named lpid here i) (sym (test_same vid entered t) i) value) refl (waits_is (g.part.vcpus vid).state u))
  by_test true false t u = refl
  by_test false w t u = refl
unanswered plan l v cmd a g lpid vid none returned aims = refl

-- an entry that neither runs a vCPU nor takes it up, and gives it no answer, and doesn't end the guest, leaves its registers
pub others_stay : (plan : Plan) (c : Ctx) (l v : ℕ) (cmd : Cmd) (a : Answer) (g : Guest) (lpid vid : ℕ) → GoesOn plan c l cmd a lpid →
    ((run : Run) → vcpu_in c ≡ Some run → run.lpid ≡ lpid → run.vid ≡ vid → ⊥) →
    ((r0 r2 : ℕ) (outs : List ℕ) → c ≡ ctx.Hv → cmd ≡ UReturn r0 r2 outs → a ≡ Enter → l ≡ lpid → v ≡ vid → ⊥) →
    IsUnanswered g lpid vid c cmd a →
    registers_by plan c l v cmd a g lpid vid ≡ g.registers vid
others_stay plan ctx.Hv l v (UReturn r0 r2 outs) Enter g lpid vid goes_on own taken none =
    put_elsewhere (l == lpid) g.registers (returned_by (g.part.vcpus v).state (g.registers v) r0 r2 outs) lpid vid v
    (λ t u. absurd (taken r0 r2 outs refl refl refl (test_same l lpid u) (sym (test_same vid v t))))
others_stay plan ctx.Hv l v (HEnter named entered value) Enter g lpid vid goes_on own taken none = by_aim (is_guest lpid (target_in plan ctx.Hv l (HEnter named entered value))) refl where
  by_vcpu : (b : Bool) → (vid == entered) ≡ b → (b && waits_for_answer (g.part.vcpus vid).state) ≡ false → (if b then answered_with (g.part.vcpus entered).state (g.registers entered) value else g.registers vid) ≡ g.registers vid
  by_vcpu true t other = ap (λ (x : ℕ). answered_with (g.part.vcpus x).state (g.registers x) value) (sym (test_same vid entered t)) ∙ same_answered (g.part.vcpus vid).state (g.registers vid) value other
  by_vcpu false t other = refl

  by_aim : (b : Bool) → is_guest lpid (target_in plan ctx.Hv l (HEnter named entered value)) ≡ b → (if b then registers_in ctx.Hv g v (HEnter named entered value) Enter vid else g.registers vid) ≡ g.registers vid
  by_aim true t = by_vcpu (vid == entered) refl (unanswered plan l v (HEnter named entered value) Enter g lpid vid none (λ r0 r2 outs h cmd_is. let no : ⊥ = cc in absurd no) t)
  by_aim false t = refl
others_stay plan ctx.Hv l v cmd Enter g lpid vid goes_on own taken none = either_same (is_guest lpid (target_in plan ctx.Hv l cmd)) (g.registers vid)
others_stay plan ctx.Hv l v (UPate named dw0 dw1) (Ret code) g lpid vid goes_on own taken none =
    unended (is_guest lpid (target_in plan ctx.Hv l (UPate named dw0 dw1))) (ends_guest code dw1) g.registers vid goes_on
others_stay plan ctx.Hv l v cmd a g lpid vid goes_on own taken none = either_same (is_guest lpid (target_in plan ctx.Hv l cmd)) (g.registers vid)
others_stay plan (ctx.Uv (Inward move)) l v cmd a g lpid vid goes_on own taken none = either_same (is_guest lpid (target_in plan (ctx.Uv (Inward move)) l cmd)) (g.registers vid)
others_stay plan (ctx.Uv work) l v cmd a g lpid vid goes_on own taken none = either_same (is_guest lpid (target_in plan (ctx.Uv work) l cmd)) (g.registers vid)
others_stay plan (ctx.Guest run) l v cmd a g lpid vid goes_on own taken none =
    put_elsewhere (is_guest lpid (target_in plan (ctx.Guest run) l cmd)) g.registers (registers_after_command g (g.registers run.vid) cmd a) lpid vid run.vid
    (λ t u. absurd (own run refl (own_guest plan run l lpid cmd u) (sym (test_same vid run.vid t))))

gpr_stays : (plan : Plan) (c : Ctx) (l v : ℕ) (cmd : Cmd) (a : Answer) (g : Guest) (lpid vid : ℕ) → GoesOn plan c l cmd a lpid →
    ((run : Run) → vcpu_in c ≡ Some run → run.lpid ≡ lpid → run.vid ≡ vid → ⊥) → IsUnanswered g lpid vid c cmd a → IsUnreturned g lpid vid c l v cmd a → (registers_by plan c l v cmd a g lpid vid).gpr ≡ (g.registers vid).gpr
gpr_stays plan ctx.Hv l v cmd a g lpid vid goes_on own none returned = by_test (is_guest lpid (target_in plan ctx.Hv l cmd)) refl where
  by_test : (b : Bool) → is_guest lpid (target_in plan ctx.Hv l cmd) ≡ b → (if b then registers_in ctx.Hv g v cmd a vid else g.registers vid).gpr ≡ (g.registers vid).gpr
  by_test true t = gpr_in_hypervisor g v a cmd vid (goes_on t) (unanswered plan l v cmd a g lpid vid none returned t)
  by_test false t = refl
gpr_stays plan (ctx.Uv work) l v cmd a g lpid vid goes_on own none returned =
    ap (λ (x : Regs). x.gpr) (others_stay plan (ctx.Uv work) l v cmd a g lpid vid tt own (λ r0 r2 outs h cmd_is answer_is here this. let no : ⊥ = cc in no) none)
gpr_stays plan (ctx.Guest run) l v cmd a g lpid vid goes_on own none returned =
    ap (λ (x : Regs). x.gpr) (others_stay plan (ctx.Guest run) l v cmd a g lpid vid tt own (λ r0 r2 outs h cmd_is answer_is here this. let no : ⊥ = cc in no) none)

-- a step of a vCPU, or of its call in progress, moves it on as its answer says: of a guest's call no step is here yet
own_steps : (plan : Plan) (c : Ctx) (l v : ℕ) (cmd : Cmd) (a : Answer) (after : Ctx) (shown : List ℕ) (g : Guest) (run : Run) (lpid vid : ℕ) → vcpu_in c ≡ Some run → run.lpid ≡ lpid → run.vid ≡ vid →
    Outcome c cmd a after shown → Steps cmd a (g.registers vid) (registers_by plan c l v cmd a g lpid vid)
own_steps plan ctx.Hv l v cmd a after shown g run lpid vid runs here this h = cc
own_steps plan (ctx.Uv (Inward move)) l v cmd a after shown g run lpid vid runs here this h = cc
own_steps plan (ctx.Uv (Outward move)) l v cmd a after shown g run lpid vid runs here this h = cc
own_steps plan (ctx.Uv work) l v cmd Context after shown g run lpid vid runs here this h = stays cmd where
  stays : (cmd : Cmd) → Steps cmd Context (g.registers vid) (g.registers vid)
  stays (Dump reg) = record { nip = refl; srr0 = refl }
  stays GHcall = record { nip = refl; srr0 = refl }
  stays cmd = record { nip = refl; srr0 = refl }
own_steps plan (ctx.Uv work) l v cmd a after shown g run lpid vid runs here this h = absurd h
own_steps plan (ctx.Guest other) l v cmd a after shown g run lpid vid runs here this h =
    let same : other ≡ run = one_vcpu (ctx.Guest other) other run refl runs in
    subst (Steps cmd a (g.registers vid)) (sym (own_registers plan other l v cmd a g lpid vid (ap (λ (r : Run). r.lpid) same ∙ here) (ap (λ (r : Run). r.vid) same ∙ this)))
    (steps g (g.registers vid) other cmd a after shown h)

-- a guest that keeps its generation doesn't end
pub goes_on_is : (plan : Plan) (past : List Event) (e : Event) (lpid : ℕ) → (guest_after plan lpid (e ∷ past)).part.generation ≡ (guest_after plan lpid past).part.generation → GoesOn plan e.saw.before e.saw.lpid e.trace.cmd e.trace.answer lpid
goes_on_is plan past e lpid keeps = by_ctx e.saw.before refl where
  g : Guest
  g = guest_after plan lpid past

  by_end : (cmd : Cmd) (a : Answer) → (part_of_hypervisor plan g.part e.saw.vid e.trace.cpu e.bytes a cmd).generation ≡ g.part.generation → ends_by cmd a ≡ false
  by_end (UPate named dw0 dw1) (Ret code) same = by_code code same where
    by_length : (b : Bool) → (if b then ended_normal (record g.part { entry = record { base = dw0; length_ = dw1 } }) else record g.part { entry = record { base = dw0; length_ = dw1 }; phase = Normal }).generation ≡ g.part.generation → b ≡ false
    by_length true same = absurd (omega (arith, same))
    by_length false same = refl

    by_code : (code : Code) → (part_of_write g.part code dw0 dw1).generation ≡ g.part.generation → ends_guest code dw1 ≡ false
    by_code USuccess same = by_length (dw1 == 0) same
    by_code code same = refl
  by_end cmd a same = refl

  by_ctx : (c : Ctx) → e.saw.before ≡ c → GoesOn plan c e.saw.lpid e.trace.cmd e.trace.answer lpid
  by_ctx ctx.Hv before = λ aims.
      by_end e.trace.cmd e.trace.answer
      (ap (λ (c : Ctx). (part_in plan g.part c e.trace.answer e.trace.cmd e.saw.pool e.saw.vid e.trace.cpu e.bytes).generation) (sym before)
      ∙ ap (λ (x : Guest). x.part.generation) (sym (counts (touches_guest plan lpid) (next_guest plan) (start_guest plan lpid) e past (ap (λ (c : Ctx). is_guest lpid (target_in plan c e.saw.lpid e.trace.cmd)) before ∙ aims)))
      ∙ keeps)
  by_ctx (ctx.Uv work) before = tt
  by_ctx (ctx.Guest run) before = tt

pub each_entry_leaves_registers : EachEntryLeavesRegisters
each_entry_leaves_registers plan past e lpid vid extends =
    let g : Guest = guest_after plan lpid past in
    let registers : ℕ → Regs = g.registers in
    let is = registers_by_is plan past e lpid vid in
    record {
      own = λ (run : Run) (step : IsStepOf lpid vid run e).
          subst (Steps e.trace.cmd e.trace.answer (registers vid)) (sym is)
          (own_steps plan e.saw.before e.saw.lpid e.saw.vid e.trace.cmd e.trace.answer e.saw.after e.saw.shown g run lpid vid step.before step.guest_is step.vcpu_is (outcome plan past e extends));
      taken = λ (r0 r2 : ℕ) (outs : List ℕ) (takes : TakesUp lpid vid r0 r2 outs e).
          subst (λ (x : Regs). IsInterrupted (r2_for (g.part.vcpus vid).state r2) (goes_on_at (g.part.vcpus vid).state (registers vid).nip) (registers vid) x)
          (sym (is ∙ ap (λ (c : Ctx). registers_by plan c e.saw.lpid e.saw.vid e.trace.cmd e.trace.answer g lpid vid) takes.before
          ∙ ap (λ (cmd : Cmd). registers_by plan ctx.Hv e.saw.lpid e.saw.vid cmd e.trace.answer g lpid vid) takes.cmd_is
          ∙ ap (λ (a : Answer). registers_by plan ctx.Hv e.saw.lpid e.saw.vid (UReturn r0 r2 outs) a g lpid vid) takes.answer_is
          ∙ ap (λ (l : ℕ). registers_by plan ctx.Hv l e.saw.vid (UReturn r0 r2 outs) Enter g lpid vid) takes.guest_is
          ∙ ap (λ (v : ℕ). registers_by plan ctx.Hv lpid v (UReturn r0 r2 outs) Enter g lpid vid) takes.vcpu_is
          ∙ taken_registers plan r0 r2 outs g lpid vid))
          (is_interrupted (g.part.vcpus vid).state (registers vid) r0 r2 outs);
      ended = λ dw0 before cmd_is answer_is.
          let there : IsThereIn ctx.Hv plan (UPate lpid dw0 0) (Ret USuccess) =
          subst (λ (a : Answer). IsThereIn ctx.Hv plan (UPate lpid dw0 0) a) answer_is
          (subst (λ (cmd : Cmd). IsThereIn ctx.Hv plan cmd e.trace.answer) cmd_is (subst (λ (c : Ctx). IsThereIn c plan e.trace.cmd e.trace.answer) before (there_is plan past e extends))) in
          is ∙ ap (λ (c : Ctx). registers_by plan c e.saw.lpid e.saw.vid e.trace.cmd e.trace.answer g lpid vid) before
          ∙ ap (λ (cmd : Cmd). registers_by plan ctx.Hv e.saw.lpid e.saw.vid cmd e.trace.answer g lpid vid) cmd_is
          ∙ ap (λ (a : Answer). registers_by plan ctx.Hv e.saw.lpid e.saw.vid (UPate lpid dw0 0) a g lpid vid) answer_is
          ∙ ended_registers plan e.saw.lpid e.saw.vid dw0 g lpid vid (there refl);
      answered = λ value answers.
          let there : IsThereIn ctx.Hv plan (HEnter lpid vid value) Enter =
          subst (λ (a : Answer). IsThereIn ctx.Hv plan (HEnter lpid vid value) a) answers.0.answer_is
          (subst (λ (cmd : Cmd). IsThereIn ctx.Hv plan cmd e.trace.answer) answers.0.cmd_is (subst (λ (c : Ctx). IsThereIn c plan e.trace.cmd e.trace.answer) answers.0.before (there_is plan past e extends))) in
          is ∙ ap (λ (c : Ctx). registers_by plan c e.saw.lpid e.saw.vid e.trace.cmd e.trace.answer g lpid vid) answers.0.before
          ∙ ap (λ (cmd : Cmd). registers_by plan ctx.Hv e.saw.lpid e.saw.vid cmd e.trace.answer g lpid vid) answers.0.cmd_is
          ∙ ap (λ (a : Answer). registers_by plan ctx.Hv e.saw.lpid e.saw.vid (HEnter lpid vid value) a g lpid vid) answers.0.answer_is
          ∙ answered_registers plan e.saw.lpid e.saw.vid value g lpid vid there answers.1;
      others = λ keeps own taken none.
          is ∙ others_stay plan e.saw.before e.saw.lpid e.saw.vid e.trace.cmd e.trace.answer g lpid vid (goes_on_is plan past e lpid keeps.generation)
          (λ run before here this. own run (record { before = before; guest_is = here; vcpu_is = this }))
          (λ r0 r2 outs before cmd_is answer_is here this. taken r0 r2 outs (record { before = before; cmd_is = cmd_is; answer_is = answer_is; guest_is = here; vcpu_is = this }))
          (λ value before cmd_is answer_is waits. none value (record { before = before; cmd_is = cmd_is; answer_is = answer_is }, waits));
      gpr = λ keeps own none taken.
          ap (λ (x : Regs). x.gpr) is ∙ gpr_stays plan e.saw.before e.saw.lpid e.saw.vid e.trace.cmd e.trace.answer g lpid vid (goes_on_is plan past e lpid keeps.generation)
          (λ run before here this. own run (record { before = before; guest_is = here; vcpu_is = this }))
          (λ value before cmd_is answer_is waits. none value (record { before = before; cmd_is = cmd_is; answer_is = answer_is }, waits))
          (λ r0 r2 outs before cmd_is answer_is here this. taken r0 r2 outs (record { before = before; cmd_is = cmd_is; answer_is = answer_is; guest_is = here; vcpu_is = this }));
    }
