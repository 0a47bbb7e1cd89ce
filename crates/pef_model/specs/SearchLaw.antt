-- Laws of what a guest loads: the last store, as a search from the newest entry on.
use Rattle.std.specs.Prelude.{◌≡◌, ℕ, ◌+◌, ◌-◌, ◌/◌, ◌%◌, ◌^◌, ◌<◌, ◌==◌, nat_le, true, not, ◌&&◌, if◌then◌else◌, List, [], ◌∷◌, ◌++◌, take, Option, Some, None, slice_get, slice_index, bit_xor}
use Rattle.pef_model.specs.declared.state.Phase.TheVariants as phase
use Rattle.pef_model.specs.declared.state.Kind.TheVariants.{Secure}
use Rattle.pef_model.specs.declared.state.Pending.TheVariants as pending
use Rattle.pef_model.specs.declared.state.VState.{VState}
use Rattle.pef_model.specs.declared.state.VState.TheVariants as vstate
use Rattle.pef_model.specs.declared.state.Run.{Run}
use Rattle.pef_model.specs.declared.state.Ctx.{Ctx}
use Rattle.pef_model.specs.declared.state.Ctx.TheVariants as ctx
use Rattle.pef_model.specs.declared.command.Code.TheVariants.{HSuccess}
use Rattle.pef_model.specs.declared.command.Cmd.{Cmd}
use Rattle.pef_model.specs.declared.command.Cmd.TheVariants.{HEnter, UPate, UReturn, GLi, GAdd, GXor, GLd, GSt, GHcall}
use Rattle.pef_model.specs.declared.hypercall.TheConstants.{HCALLS}
use Rattle.pef_model.specs.declared.hypercall.Row.{Row}
use Rattle.pef_model.specs.declared.entry.Answer.{Answer}
use Rattle.pef_model.specs.declared.entry.Answer.TheVariants as answer
use Rattle.pef_model.specs.Plan.{Plan}
use Rattle.pef_model.specs.Event.{Event, newest}
use Rattle.pef_model.specs.Registers.{Call, number_of, call_of, value_returned}
use Rattle.pef_model.specs.Target.{caller, touches_guest}
use Rattle.pef_model.specs.Slots.{has_slot}
use Rattle.pef_model.specs.GuestPart.{page_of, is_private, ends_guest}
use Rattle.pef_model.specs.Guest.{Guest, next_word}
use Rattle.pef_model.specs.Hypercalls.{row_of}
use Rattle.pef_model.specs.History.{guest_after, last_store, reg, Extends, IsLegal}
use Rattle.pef_model.specs.StepLaw.{goes_on, goes_on_at, r2_for, registers_of}

-- what a step decides, by the normal frame and the bytes that it tells: a store of the guest to the address, in no frame, what was in its register
abbrev pub step_decides : Plan → ℕ → ℕ → List Event → Ctx → Cmd → Answer → Option ℕ → List ℕ → Option ℕ
step_decides plan lpid gpa past (ctx.Guest run) (GSt rs at) answer.Done None bytes = if (run.lpid == lpid) && (at == gpa) then Some (reg plan past lpid run.vid rs) else None
step_decides plan lpid gpa past before cmd a frame bytes = None

-- the value that an entry gives the doubleword at an address of a guest
abbrev pub decides_doubleword : Plan → ℕ → ℕ → List Event → Event → Option ℕ
decides_doubleword plan lpid gpa past e = step_decides plan lpid gpa past e.saw.before e.trace.cmd e.trace.answer e.saw.frame e.bytes

-- last_store is what the newest entry says that gave the doubleword a value, and 0 where none did
abbrev pub LastStoreIsNewest : Type 0
LastStoreIsNewest =
    (plan : Plan) (past : List Event) (lpid gpa : ℕ) →
    last_store plan past lpid gpa ≡ newest (decides_doubleword plan lpid gpa) 0 past

-- the value that a call of a vCPU which came back gives one of its registers
abbrev pub assigned_by_call : Option Call → Cmd → Answer → ℕ → Option ℕ
assigned_by_call (Some call) cmd (answer.Ret code) r = value_returned cmd code r
assigned_by_call call cmd a r = None

-- the value that a command of a vCPU gives one of its registers, by the guest that it finds
abbrev pub assigned_by_command : Guest → ℕ → Cmd → Answer → ℕ → Option ℕ
assigned_by_command g vid (GLi rd value) answer.Done r = if r == rd then Some value else None
assigned_by_command g vid (GAdd rd ra rb) answer.Done r = if r == rd then Some ((slice_index (g.registers vid).gpr ra + slice_index (g.registers vid).gpr rb) % 2 ^ 64) else None
assigned_by_command g vid (GXor rd ra rb) answer.Done r = if r == rd then Some (bit_xor (slice_index (g.registers vid).gpr ra) (slice_index (g.registers vid).gpr rb)) else None
assigned_by_command g vid (GLd rd gpa) (answer.Val value) r = if r == rd then Some value else None
assigned_by_command g vid GHcall (answer.Ret HSuccess) r = if r == 3 then Some (number_of HSuccess) else if r == 4 then Some (next_word g) else None
assigned_by_command g vid GHcall (answer.Ret code) r = if r == 3 then Some (number_of code) else None
assigned_by_command g vid cmd a r = assigned_by_call (call_of cmd) cmd a r

-- a call that comes back to a vCPU gives R3 its code
abbrev pub assigned_by_work : Option Run → ℕ → Answer → ℕ → Option ℕ
assigned_by_work (Some run) vid (answer.Ret code) r = if (vid == run.vid) && (r == 3) then Some (number_of code) else None
assigned_by_work caller vid a r = None

-- the value that h.enter gives a register of a vCPU in this state: R3 of one that waits for the answer of a hypercall
abbrev pub assigned_entering : VState → ℕ → ℕ → Option ℕ
assigned_entering (vstate.Parked pending.Exit) value r = if r == 3 then Some value else None
assigned_entering state value r = None

-- the value that comes back in a register with a hypercall of this row: an output the one of its place, from R4 on
abbrev pub output_in : Option Row → List ℕ → ℕ → Option ℕ
output_in None outs r = None
output_in (Some row) outs r = if nat_le 4 r then slice_get (take row.outputs outs) (r - 4) else None

-- the value that UV_RETURN gives a register of a vCPU in this state: of one that waits for the answer of a hypercall R3 the answer, and the row's outputs
abbrev pub assigned_returning : VState → ℕ → List ℕ → ℕ → Option ℕ
assigned_returning (vstate.Parked (pending.Hcall n)) r0 outs r = if r == 3 then Some r0 else output_in (row_of HCALLS n) outs r
assigned_returning state r0 outs r = None

-- the value that an entry gives a register of a vCPU of a guest, where this vCPU is selected
abbrev pub assigned_in : Ctx → Guest → ℕ → ℕ → Cmd → Answer → ℕ → Option ℕ
assigned_in ctx.Hv g selected vid (UPate lpid dw0 dw1) (answer.Ret code) r = if ends_guest code dw1 then Some 0 else None
assigned_in ctx.Hv g selected vid (HEnter lpid named value) answer.Enter r = if vid == named then assigned_entering (g.part.vcpus vid).state value r else None
assigned_in ctx.Hv g selected vid (UReturn r0 r2 outs) answer.Enter r = if vid == selected then assigned_returning (g.part.vcpus vid).state r0 outs r else None
assigned_in ctx.Hv g selected vid cmd a r = None
assigned_in (ctx.Uv work) g selected vid cmd a r = assigned_by_work (caller work) vid a r
assigned_in (ctx.Guest run) g selected vid cmd a r = if vid == run.vid then assigned_by_command g vid cmd a r else None

-- the value that an entry of a guest gives a register of its vCPU
abbrev pub decides_register : Plan → ℕ → ℕ → ℕ → List Event → Event → Option ℕ
decides_register plan lpid vid r past e = if touches_guest plan lpid e then assigned_in e.saw.before (guest_after plan lpid past) e.saw.vid vid e.trace.cmd e.trace.answer r else None

-- the address that a call that comes back to a vCPU gives its next instruction: the one after this
abbrev pub next_by_work : Option Run → ℕ → ℕ → Answer → Option ℕ
next_by_work (Some run) vid nip (answer.Ret code) = if vid == run.vid then Some ((nip + 4) % 2 ^ 64) else None
next_by_work caller vid nip a = None

-- the address that an entry gives the next instruction of a vCPU: the one after, R2 of UV_RETURN, 0 where the guest ends
abbrev pub next_in : Ctx → Guest → ℕ → ℕ → Cmd → Answer → Option ℕ
next_in ctx.Hv g selected vid (UPate lpid dw0 dw1) (answer.Ret code) = if ends_guest code dw1 then Some 0 else None
next_in ctx.Hv g selected vid (UReturn r0 r2 outs) answer.Enter =
    if vid == selected then Some (if r2_for (g.part.vcpus vid).state r2 == 0 then goes_on_at (g.part.vcpus vid).state (g.registers vid).nip else r2_for (g.part.vcpus vid).state r2) else None
next_in ctx.Hv g selected vid cmd a = None
next_in (ctx.Uv work) g selected vid cmd a = next_by_work (caller work) vid (g.registers vid).nip a
next_in (ctx.Guest run) g selected vid cmd a = if (vid == run.vid) && goes_on cmd a then Some (((g.registers vid).nip + 4) % 2 ^ 64) else None

-- what an entry gives SRR0: where the vCPU would have gone on, where R2 of UV_RETURN counts and isn't 0, and 0 where the guest ends
abbrev pub interrupted_in : Ctx → Guest → ℕ → ℕ → Cmd → Answer → Option ℕ
interrupted_in ctx.Hv g selected vid (UPate lpid dw0 dw1) (answer.Ret code) = if ends_guest code dw1 then Some 0 else None
interrupted_in ctx.Hv g selected vid (UReturn r0 r2 outs) answer.Enter =
    if (vid == selected) && not (r2_for (g.part.vcpus vid).state r2 == 0) then Some (goes_on_at (g.part.vcpus vid).state (g.registers vid).nip) else None
interrupted_in before g selected vid cmd a = None

-- the same of an entry of a guest
abbrev pub decides_nip : Plan → ℕ → ℕ → List Event → Event → Option ℕ
decides_nip plan lpid vid past e = if touches_guest plan lpid e then next_in e.saw.before (guest_after plan lpid past) e.saw.vid vid e.trace.cmd e.trace.answer else None

abbrev pub decides_srr0 : Plan → ℕ → ℕ → List Event → Event → Option ℕ
decides_srr0 plan lpid vid past e = if touches_guest plan lpid e then interrupted_in e.saw.before (guest_after plan lpid past) e.saw.vid vid e.trace.cmd e.trace.answer else None

-- each register of a vCPU is what the newest entry says that assigned it, whichever entry that was, and 0 where none did
pub record AreNewest (plan : Plan) (past : List Event) (lpid vid : ℕ) : Type 0 where
  pub gpr : (r : ℕ) → r < 32 → reg plan past lpid vid r ≡ newest (decides_register plan lpid vid r) 0 past
  pub nip : (registers_of plan past lpid vid).nip ≡ newest (decides_nip plan lpid vid) 0 past
  pub srr0 : (registers_of plan past lpid vid).srr0 ≡ newest (decides_srr0 plan lpid vid) 0 past

abbrev pub RegIsNewest : Type 0
RegIsNewest = (plan : Plan) (past : List Event) (lpid vid : ℕ) → IsLegal plan past → AreNewest plan past lpid vid

-- of a history and its entries since then, none of these gave the doubleword at the address a value
abbrev pub HasNoStore : Plan → ℕ → ℕ → List Event → List Event → Type 0
HasNoStore plan lpid gpa past [] = Unit {0}
HasNoStore plan lpid gpa past (e ∷ since) = (decides_doubleword plan lpid gpa (since ++ past) e ≡ None) × HasNoStore plan lpid gpa past since

-- an entry is this command of a vCPU, with this answer
pub record IsStep (run : Run) (cmd : Cmd) (a : Answer) (e : Event) : Type 0 where
  pub before : e.saw.before ≡ ctx.Guest run
  pub cmd_is : e.trace.cmd ≡ cmd
  pub answer_is : e.trace.answer ≡ a

-- a load of a private page that is done gives the last store
abbrev pub LoadGivesLastStore : Type 0
LoadGivesLastStore =
    (plan : Plan) (past : List Event) (e : Event) (run : Run) (rd gpa value : ℕ) →
    Extends plan past e → IsStep run (GLd rd gpa) (answer.Val value) e → is_private (guest_after plan run.lpid past).part (page_of plan gpa) ≡ true → value ≡ last_store plan past run.lpid gpa

-- the last store after a store, and entries that give the doubleword no value, is what was in the register
abbrev pub LastStoreIsStored : Type 0
LastStoreIsStored =
    (plan : Plan) (past since : List Event) (e : Event) (run : Run) (rs gpa : ℕ) →
    IsStep run (GSt rs gpa) answer.Done e → e.saw.frame ≡ None → HasNoStore plan run.lpid gpa (e ∷ past) since →
    last_store plan (since ++ e ∷ past) run.lpid gpa ≡ reg plan past run.lpid run.vid rs

-- where nothing was stored the last store is 0
abbrev pub LastStoreIsZero : Type 0
LastStoreIsZero = (plan : Plan) (past : List Event) (lpid gpa : ℕ) → HasNoStore plan lpid gpa [] past → last_store plan past lpid gpa ≡ 0

-- an access to an address in a page of the guest that lies in a slot, is Secure and at rest is done
pub record AccessIsDone (plan : Plan) (past : List Event) (e : Event) (run : Run) (gpa : ℕ) : Type 0 where
  pub load : (rd : ℕ) → e.trace.cmd ≡ GLd rd gpa → e.trace.answer ≡ answer.Val (last_store plan past run.lpid gpa)
  pub store : (rs : ℕ) → e.trace.cmd ≡ GSt rs gpa → e.trace.answer ≡ answer.Done

abbrev pub SecurePageIsReached : Type 0
SecurePageIsReached =
    (plan : Plan) (past : List Event) (e : Event) (run : Run) (gpa : ℕ) → Extends plan past e → e.saw.before ≡ ctx.Guest run → run.generation ≡ (guest_after plan run.lpid past).part.generation → (guest_after plan run.lpid past).part.phase ≡ phase.Secure →
    gpa % 8 ≡ 0 → gpa / 2 ^ plan.shift < plan.pages → has_slot (guest_after plan run.lpid past).part.slots (page_of plan gpa) ≡ true → ((guest_after plan run.lpid past).part.pages (page_of plan gpa)).kind ≡ Secure → ((guest_after plan run.lpid past).part.pages (page_of plan gpa)).mover ≡ None →
    AccessIsDone plan past e run gpa
