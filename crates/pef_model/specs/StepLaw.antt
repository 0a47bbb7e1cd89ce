-- Laws of one entry: what it makes of its CPU and lets out, and what it makes of a vCPU's registers.
use Rattle.std.specs.Prelude.{◌≡◌, ◌≢◌, ℕ, ◌+◌, ◌-◌, ◌%◌, ◌^◌, ◌==◌, ◌<◌, nat_le, Bool, true, false, ◌||◌, if◌then◌else◌, List, [], ◌∷◌, Option, Some, None, unwrap_or, slice_get, slice_index, slice_set}
use Rattle.pef_model.specs.declared.state.Phase.TheVariants as phase
use Rattle.pef_model.specs.declared.state.Pending.TheVariants as pending
use Rattle.pef_model.specs.declared.state.VState.{VState}
use Rattle.pef_model.specs.declared.state.VState.TheVariants as vstate
use Rattle.pef_model.specs.declared.state.Run.{Run}
use Rattle.pef_model.specs.declared.state.Regs.{Regs}
use Rattle.pef_model.specs.declared.state.Ctx.{Ctx}
use Rattle.pef_model.specs.declared.state.Ctx.TheVariants as ctx
use Rattle.pef_model.specs.declared.command.TheConstants.{EXTERNAL_INTERRUPT}
use Rattle.pef_model.specs.declared.command.Cmd.{Cmd}
use Rattle.pef_model.specs.declared.command.Cmd.TheVariants.{HLd, HSelect, HEnter, UPate, UReturn, GSt, GHcall, GIrq, Dump}
use Rattle.pef_model.specs.declared.command.Code.TheVariants.{USuccess}
use Rattle.pef_model.specs.declared.hypercall.TheConstants.{HCALLS}
use Rattle.pef_model.specs.declared.hypercall.Row.{Row}
use Rattle.pef_model.specs.declared.entry.Exit.TheVariants as exit
use Rattle.pef_model.specs.declared.entry.Answer.{Answer}
use Rattle.pef_model.specs.declared.entry.Answer.TheVariants as answer
use Rattle.pef_model.specs.Plan.{Plan}
use Rattle.pef_model.specs.Event.{Event}
use Rattle.pef_model.specs.Hypercalls.{row_of, let_out_by}
use Rattle.pef_model.specs.Registers.{fresh_registers, Call, number_of, call_of, arguments, value_loaded, value_returned}
use Rattle.pef_model.specs.Target.{told, caller, vcpu_in, takes_bytes, is_hypervisor}
use Rattle.pef_model.specs.Cpu.{CpuPart}
use Rattle.pef_model.specs.Guest.{Guest}
use Rattle.pef_model.specs.History.{cpu_after, guest_after, ask_of, Extends, IsLegal}

-- whether the hypervisor keeps an answer as its last: it isn't Context, and the hypervisor ran before the step or runs after it
abbrev pub is_kept : Ctx → Answer → Ctx → Bool
is_kept before answer.Context after = false
is_kept before a after = is_hypervisor before || is_hypervisor after

-- what comes back gives R3 its code
abbrev pub given_by_coming_back : Answer → ℕ → Option ℕ
given_by_coming_back (answer.Ret code) r = if r == 3 then Some (number_of code) else None
given_by_coming_back a r = None

-- the value that a load of the hypervisor gives one of its registers: R3 has what was loaded
abbrev pub given_by_load : Answer → ℕ → Option ℕ
given_by_load (answer.Val value) r = if r == 3 then Some value else None
given_by_load a r = None

-- the value that a call of the hypervisor gives one of its registers: what its caller loads, and the code with which it came back
abbrev pub given_by_ultracall : Option Call → Cmd → Answer → ℕ → Option ℕ
given_by_ultracall None cmd a r = None
given_by_ultracall (Some call) cmd (answer.Ret code) r = value_returned cmd code r
given_by_ultracall (Some call) cmd a r = value_loaded cmd r

-- the value that a command of the hypervisor gives one of its registers: a load that was refused and a store give none
abbrev pub given_by_command : Cmd → Answer → ℕ → Option ℕ
given_by_command (HLd ra) a r = given_by_load a r
given_by_command (HSelect lpid vid) a r = given_by_coming_back a r
given_by_command (HEnter lpid vid value) a r = given_by_coming_back a r
given_by_command cmd a r = given_by_ultracall (call_of cmd) cmd a r

-- a guest that leaves gives the hypervisor what its exit shows, and the end of one that ran gives zeros
abbrev pub given_by_leaving : Answer → List ℕ → ℕ → Option ℕ
given_by_leaving (answer.Exit exit.Normal) shown r = slice_get shown r
given_by_leaving (answer.Exit (exit.Hcall n)) shown r = Some (if nat_le 3 r then unwrap_or (slice_get shown (r - 3)) 0 else 0)
given_by_leaving (answer.Exit exit.Irq) shown r = Some (if r == 3 then EXTERNAL_INTERRUPT else 0)
given_by_leaving answer.Gone shown r = Some 0
given_by_leaving a shown r = None

-- a call in progress gives the hypervisor its code where it is its own, and else what the vCPU that called gives where it leaves
abbrev pub given_by_work : Option Run → Answer → List ℕ → ℕ → Option ℕ
given_by_work None a shown r = given_by_coming_back a r
given_by_work (Some run) a shown r = given_by_leaving a shown r

-- the value that a step gives one of the hypervisor's registers
abbrev pub own_given_in : Ctx → Cmd → Answer → List ℕ → ℕ → Option ℕ
own_given_in ctx.Hv cmd a shown r = given_by_command cmd a r
own_given_in (ctx.Uv work) cmd a shown r = given_by_work (caller work) a shown r
own_given_in (ctx.Guest run) cmd a shown r = given_by_leaving a shown r

-- the value that an entry gives one of the hypervisor's registers on its CPU
abbrev pub own_given : Event → ℕ → Option ℕ
own_given e r = own_given_in e.saw.before e.trace.cmd e.trace.answer e.saw.shown r

-- the guest and the vCPU that are selected after a step of this vCPU: its own where it leaves
abbrev pub lpid_selected : Option Run → Answer → ℕ → ℕ
lpid_selected (Some run) (answer.Exit exit) old = run.lpid
lpid_selected vcpu a old = old

abbrev pub vid_selected : Option Run → Answer → ℕ → ℕ
vid_selected (Some run) (answer.Exit exit) old = run.vid
vid_selected vcpu a old = old

-- the guest that is selected after a step: the one that the hypervisor selects, or that of the vCPU that leaves
abbrev pub selected_lpid : Ctx → Cmd → Answer → ℕ → ℕ
selected_lpid ctx.Hv (HSelect lpid vid) answer.Done old = lpid
selected_lpid before cmd a old = lpid_selected (vcpu_in before) a old

-- the vCPU that is selected after a step
abbrev pub selected_vid : Ctx → Cmd → Answer → ℕ → ℕ
selected_vid ctx.Hv (HSelect lpid vid) answer.Done old = vid
selected_vid before cmd a old = vid_selected (vcpu_in before) a old

-- what a hypercall lets out that leaves with these registers: its number, and the inputs of the number's row
abbrev pub let_out_calling : List ℕ → Option Row → List ℕ
let_out_calling gpr (Some row) = let_out_by row gpr
let_out_calling gpr None = []

-- what a step of a vCPU with these registers lets out, by the normal frame that it tells: a hypercall its number, and its inputs where it leaves, a call of the hypervisor that came back its arguments, a store in a normal frame its value, a guest in normal memory that leaves all its registers, and every other step nothing
abbrev pub let_out_running : List ℕ → Cmd → Answer → Option ℕ → List ℕ
let_out_running gpr GHcall (answer.Ret code) frame = slice_index gpr 3 ∷ []
let_out_running gpr GHcall (answer.Exit (exit.Hcall n)) frame = let_out_calling gpr (row_of HCALLS (slice_index gpr 3))
let_out_running gpr GHcall (answer.Exit exit.Normal) frame = gpr
let_out_running gpr cmd (answer.Ret code) frame = arguments cmd
let_out_running gpr (GSt rs gpa) answer.Done (Some n) = slice_index gpr rs ∷ []
let_out_running gpr GIrq (answer.Exit exit.Normal) frame = gpr
let_out_running gpr cmd a frame = []

-- what a step lets out, by the guests that it finds: nothing where no vCPU runs
abbrev pub let_out : Plan → (ℕ → Guest) → Ctx → Cmd → Answer → Option ℕ → List ℕ
let_out plan guests (ctx.Guest run) cmd a frame = let_out_running ((guests run.lpid).registers run.vid).gpr cmd a frame
let_out plan guests before cmd a frame = []

-- what an entry makes of its CPU, and what it lets out
pub record LeavesCpu (plan : Plan) (past : List Event) (e : Event) : Type 0 where
  -- the CPU's context is the one that the entry tells
  pub after : (cpu_after plan e.trace.cpu (e ∷ past)).ctx ≡ e.saw.after
  -- a command of another context leaves the CPU as it is
  pub context : e.trace.answer ≡ answer.Context → cpu_after plan e.trace.cpu (e ∷ past) ≡ cpu_after plan e.trace.cpu past
  -- the last answer is the entry's where the hypervisor keeps it, and else as it was
  pub last : (cpu_after plan e.trace.cpu (e ∷ past)).last ≡ (if is_kept e.saw.before e.trace.answer e.saw.after then e.trace.answer else (cpu_after plan e.trace.cpu past).last)
  -- each of the hypervisor's registers has what the entry gives it, and else is as it was
  pub own : (r : ℕ) → r < 32 → slice_index (cpu_after plan e.trace.cpu (e ∷ past)).own r ≡ unwrap_or (own_given e r) (slice_index (cpu_after plan e.trace.cpu past).own r)
  -- the selected guest stays, but where one is selected or leaves
  pub lpid : (cpu_after plan e.trace.cpu (e ∷ past)).lpid ≡ selected_lpid e.saw.before e.trace.cmd e.trace.answer (cpu_after plan e.trace.cpu past).lpid
  -- and so does the selected vCPU
  pub vid : (cpu_after plan e.trace.cpu (e ∷ past)).vid ≡ selected_vid e.saw.before e.trace.cmd e.trace.answer (cpu_after plan e.trace.cpu past).vid
  -- the hand has the entry's bytes where a page-out begins or a page-in copies, and else stays
  pub hand : (cpu_after plan e.trace.cpu (e ∷ past)).hand ≡ (if takes_bytes e.saw.before e.trace.cmd e.trace.answer then e.bytes else (cpu_after plan e.trace.cpu past).hand)
  -- the entry shows what the step lets out
  pub shown : e.saw.shown ≡ let_out plan (λ lpid. guest_after plan lpid past) e.saw.before e.trace.cmd e.trace.answer e.saw.frame

abbrev pub EachEntryLeavesCpu : Type 0
EachEntryLeavesCpu = (plan : Plan) (past : List Event) (e : Event) → IsLegal plan (e ∷ past) → LeavesCpu plan past e

-- an entry is a step of a vCPU, or of its call in progress
pub record IsStepOf (lpid vid : ℕ) (run : Run) (e : Event) : Type 0 where
  pub before : vcpu_in e.saw.before ≡ Some run
  pub guest_is : run.lpid ≡ lpid
  pub vcpu_is : run.vid ≡ vid

-- an entry is UV_RETURN of the hypervisor that took up a vCPU
pub record TakesUp (lpid vid r0 r2 : ℕ) (outs : List ℕ) (e : Event) : Type 0 where
  pub before : e.saw.before ≡ ctx.Hv
  pub cmd_is : e.trace.cmd ≡ UReturn r0 r2 outs
  pub answer_is : e.trace.answer ≡ answer.Enter
  pub guest_is : e.saw.lpid ≡ lpid
  pub vcpu_is : e.saw.vid ≡ vid

-- an entry is h.enter that entered a vCPU
pub record Enters (lpid vid value : ℕ) (e : Event) : Type 0 where
  pub before : e.saw.before ≡ ctx.Hv
  pub cmd_is : e.trace.cmd ≡ HEnter lpid vid value
  pub answer_is : e.trace.answer ≡ answer.Enter

-- whether a vCPU goes on to its next instruction after a command of this answer: a register that is shown is no instruction, and a guest in normal memory has made its hypercall as it leaves
abbrev pub goes_on : Cmd → Answer → Bool
goes_on (Dump reg) (answer.Val value) = false
goes_on GHcall (answer.Exit exit.Normal) = true
goes_on cmd answer.Done = true
goes_on cmd (answer.Val value) = true
goes_on cmd (answer.Ret code) = true
goes_on cmd a = false

-- what a step of a vCPU makes of its registers beside R0 to R31
pub record Steps (cmd : Cmd) (a : Answer) (old new : Regs) : Type 0 where
  -- the next instruction is the one after where the step was done, and else the same
  pub nip : new.nip ≡ (if goes_on cmd a then (old.nip + 4) % 2 ^ 64 else old.nip)
  -- SRR0 stays
  pub srr0 : new.srr0 ≡ old.srr0

-- where a vCPU in this state goes on that was at this address: after its hypercall where that has its answer, and else where it was
abbrev pub goes_on_at : VState → ℕ → ℕ
goes_on_at (vstate.Parked (pending.Hcall n)) nip = (nip + 4) % 2 ^ 64
goes_on_at state nip = nip

-- R2 of UV_RETURN as it counts for a vCPU in this state: where the vCPU goes back into its call, R2 has no effect
abbrev pub r2_for : VState → ℕ → ℕ
r2_for (vstate.Parked (pending.Share gfn)) r2 = 0
r2_for (vstate.Parked (pending.Unshare gfn)) r2 = 0
r2_for (vstate.Parked (pending.UnshareAll gfn)) r2 = 0
r2_for (vstate.Parked pending.EsmStart) r2 = 0
r2_for (vstate.Parked (pending.EsmNeed gfn)) r2 = 0
r2_for (vstate.Parked pending.EsmDone) r2 = 0
r2_for state r2 = r2

-- what R2 of UV_RETURN makes of the registers of a vCPU that goes on at an address, beside R0 to R31
pub record IsInterrupted (r2 address : ℕ) (old new : Regs) : Type 0 where
  -- the next instruction is at the address in R2 where that isn't 0
  pub nip : new.nip ≡ (if r2 == 0 then address else r2)
  -- and then SRR0 has where the vCPU would have gone on; else it stays
  pub srr0 : new.srr0 ≡ (if r2 == 0 then old.srr0 else address)

-- the registers of a vCPU after a history
abbrev pub registers_of : Plan → List Event → ℕ → ℕ → Regs
registers_of plan past lpid vid = (guest_after plan lpid past).registers vid

-- whether UV_RETURN gives a vCPU in this state no value: it hasn't run yet, or waits in a secure guest for something else than the answer of a hypercall
abbrev pub takes_nothing : VState → Bool
takes_nothing vstate.Fresh = true
takes_nothing (vstate.Parked pending.Exit) = false
takes_nothing (vstate.Parked (pending.Hcall n)) = false
takes_nothing (vstate.Parked waits) = true
takes_nothing other = false

-- what holds of a guest while no step but of its own vCPUs, and the UV_RETURN that takes one up, changes a register: it has one generation, and isn't Starting
pub record KeepsRegisters (plan : Plan) (past : List Event) (e : Event) (lpid : ℕ) : Type 0 where
  pub generation : (guest_after plan lpid (e ∷ past)).part.generation ≡ (guest_after plan lpid past).part.generation
  pub starting : (guest_after plan lpid past).part.phase ≢ phase.Starting

-- an entry is h.enter of a vCPU that waits for the answer of a hypercall, in normal memory
abbrev pub IsAnswered : Plan → List Event → ℕ → ℕ → ℕ → Event → Type 0
IsAnswered plan past lpid vid value e = Enters lpid vid value e × (((guest_after plan lpid past).part.vcpus vid).state ≡ vstate.Parked pending.Exit)

-- what an entry makes of a vCPU's registers
pub record LeavesRegisters (plan : Plan) (past : List Event) (e : Event) (lpid vid : ℕ) : Type 0 where
  -- its own step moves it on
  pub own : (run : Run) → IsStepOf lpid vid run e → Steps e.trace.cmd e.trace.answer (registers_of plan past lpid vid) (registers_of plan (e ∷ past) lpid vid)
  -- UV_RETURN that takes it up lets it go on, or interrupts it where it goes on as a guest
  pub taken :
      (r0 r2 : ℕ) (outs : List ℕ) → TakesUp lpid vid r0 r2 outs e →
      IsInterrupted (r2_for ((guest_after plan lpid past).part.vcpus vid).state r2) (goes_on_at ((guest_after plan lpid past).part.vcpus vid).state (registers_of plan past lpid vid).nip) (registers_of plan past lpid vid) (registers_of plan (e ∷ past) lpid vid)
  -- h.enter that gives its hypercall an answer gives R3 the value, and leaves the others
  pub answered : (value : ℕ) → IsAnswered plan past lpid vid value e → registers_of plan (e ∷ past) lpid vid ≡ record (registers_of plan past lpid vid) { gpr = slice_set (registers_of plan past lpid vid).gpr 3 value }
  -- UV_WRITE_PATE that ends its guest leaves each register of it zero
  pub ended : (dw0 : ℕ) → e.saw.before ≡ ctx.Hv → e.trace.cmd ≡ UPate lpid dw0 0 → e.trace.answer ≡ answer.Ret USuccess → registers_of plan (e ∷ past) lpid vid ≡ fresh_registers
  -- no other entry changes a register of it
  pub others :
      KeepsRegisters plan past e lpid → ((run : Run) → IsStepOf lpid vid run e → ⊥) → ((r0 r2 : ℕ) (outs : List ℕ) → TakesUp lpid vid r0 r2 outs e → ⊥) → ((value : ℕ) → IsAnswered plan past lpid vid value e → ⊥) →
      registers_of plan (e ∷ past) lpid vid ≡ registers_of plan past lpid vid
  -- and no entry that isn't its own step changes one of R0 to R31
  pub gpr :
      KeepsRegisters plan past e lpid → ((run : Run) → IsStepOf lpid vid run e → ⊥) → ((value : ℕ) → IsAnswered plan past lpid vid value e → ⊥) →
      ((r0 r2 : ℕ) (outs : List ℕ) → TakesUp lpid vid r0 r2 outs e → takes_nothing ((guest_after plan lpid past).part.vcpus vid).state ≡ true) →
      (registers_of plan (e ∷ past) lpid vid).gpr ≡ (registers_of plan past lpid vid).gpr

abbrev pub EachEntryLeavesRegisters : Type 0
EachEntryLeavesRegisters = (plan : Plan) (past : List Event) (e : Event) (lpid vid : ℕ) → Extends plan past e → LeavesRegisters plan past e lpid vid

-- an entry tells what its step learnt of its CPU
pub record TellsItsCpu (e : Event) (cpu : CpuPart) : Type 0 where
  pub before : e.saw.before ≡ cpu.ctx
  -- the selected vCPU, and the last answer
  pub lpid : e.saw.lpid ≡ cpu.lpid
  pub vid : e.saw.vid ≡ cpu.vid
  pub last : e.saw.last ≡ cpu.last
  -- and the hand, as its bytes, where the step uses it
  pub ask : told e ≡ ask_of cpu e.trace.cmd

abbrev pub EachEntryTells : Type 0
EachEntryTells = (plan : Plan) (past : List Event) (e : Event) → Extends plan past e → TellsItsCpu e (cpu_after plan e.trace.cpu past)
