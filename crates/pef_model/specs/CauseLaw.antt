-- Laws of causes: where U_BUSY, Again, Hole, Context and Gone come.
use Rattle.std.specs.Prelude.{◌≡◌, ◌≢◌, ◌⊎◌, ◌↔◌, ℕ, ◌+◌, ◌/◌, ◌%◌, ◌^◌, ◌≤◌, ◌<◌, Bool, true, false, List, ◌∷◌, length, Option, Some, None, IsSome, is_some}
use Rattle.pef_model.specs.declared.state.Phase.{Phase}
use Rattle.pef_model.specs.declared.state.Phase.TheVariants.{Absent, Starting, Normal}
use Rattle.pef_model.specs.declared.state.Kind.{Kind}
use Rattle.pef_model.specs.declared.state.Kind.TheVariants.{Invalid, Secure, Shared}
use Rattle.pef_model.specs.declared.state.Run.{Run}
use Rattle.pef_model.specs.declared.state.Ctx.{Ctx}
use Rattle.pef_model.specs.declared.state.Ctx.TheVariants as ctx
use Rattle.pef_model.specs.declared.command.TheConstants.{PAGE_IN_FLAGS}
use Rattle.pef_model.specs.declared.hypercall.TheConstants.{HCALLS}
use Rattle.pef_model.specs.declared.hypercall.Row.{Row}
use Rattle.pef_model.specs.declared.hypercall.RowKind.TheVariants.{Reflected}
use Rattle.pef_model.specs.declared.command.Code.TheVariants.{USuccess, UBusy}
use Rattle.pef_model.specs.declared.command.Cmd.{Cmd}
use Rattle.pef_model.specs.declared.command.Cmd.TheVariants.{HLd, HSt, HSelect, HEnter, UPate, URegslot, UUnregslot, UPagein, UPageout, UReturn, GHcall, GIrq}
use Rattle.pef_model.specs.declared.entry.Exit.TheVariants as exit
use Rattle.pef_model.specs.declared.entry.Answer.TheVariants as answer
use Rattle.pef_model.specs.Plan.{Plan, IsWithin}
use Rattle.pef_model.specs.Event.{Event}
use Rattle.pef_model.specs.Registers.{zero_registers}
use Rattle.pef_model.specs.Hypercalls.{row_of}
use Rattle.pef_model.specs.Target.{frame_of, vcpu_in, guest_address_in, is_command_in}
use Rattle.pef_model.specs.Cpu.{CpuPart}
use Rattle.pef_model.specs.Slots.{has_slot, has_id, meets_slots}
use Rattle.pef_model.specs.GuestPart.{Page, GuestPart, page_of, has_place, is_shared}
use Rattle.pef_model.specs.PageOut.{may_page_out_in, can_go_out, has_frame, has_page}
use Rattle.pef_model.specs.PageIn.{may_page_in_in, may_come_in}
use Rattle.pef_model.specs.Entry.{can_be_entered}
use Rattle.pef_model.specs.SlotCalls.{may_change_slots_in, has_pages}
use Rattle.pef_model.specs.Deed.{may_return_in, is_waiting}
use Rattle.pef_model.specs.History.{cpu_after, pool_after, reg, Extends, part_after, page_after, ChangesNoMemory}

-- a page can't come in at present: it has a mover, or it isn't Shared and no secure frame is free
abbrev pub IsBusyIn : Page → ℕ → Type 0
IsBusyIn page free = IsSome page.mover ⊎ ((is_shared page.kind ≡ false) × (free ≡ 0))

-- a page that isn't Shared can't go out at present: its guest is Starting, or it has a mover
abbrev pub IsBusyOut : Phase → Page → Type 0
IsBusyOut phase page = (is_shared page.kind ≡ false) × ((phase ≡ Starting) ⊎ IsSome page.mover)

-- the operands of UV_PAGE_IN are right
pub record IsRightIn (plan : Plan) (past : List Event) (lpid src gpa flags order : ℕ) : Type 0 where
  pub guest : IsWithin 1 plan.guests lpid
  pub phase : may_page_in_in (part_after plan past lpid).phase ≡ true
  pub frame : has_frame plan src ≡ true
  pub page : may_come_in plan (part_after plan past lpid) gpa ≡ true
  pub flags_are : flags ≤ PAGE_IN_FLAGS
  pub order_is : order ≡ plan.shift

-- and those of UV_PAGE_OUT
pub record IsRightOut (plan : Plan) (past : List Event) (lpid dest gpa flags order : ℕ) : Type 0 where
  pub guest : IsWithin 1 plan.guests lpid
  pub phase : may_page_out_in (part_after plan past lpid).phase ≡ true
  pub frame : has_frame plan dest ≡ true
  pub page : has_page plan gpa ≡ true
  pub kind : can_go_out (page_after plan past lpid (page_of plan gpa)).kind ≡ true
  pub flags_are : flags ≡ 0
  pub order_is : order ≡ plan.shift

-- an entry is UV_PAGE_IN of the hypervisor with right operands, for a page that finds itself and the number of free frames so
pub record PageInFinds (IsFound : Page → ℕ → Type 0) (plan : Plan) (past : List Event) (e : Event) : Type 0 where
  pub lpid : ℕ
  pub src : ℕ
  pub gpa : ℕ
  pub flags : ℕ
  pub order : ℕ
  pub before : e.saw.before ≡ ctx.Hv
  pub cmd_is : e.trace.cmd ≡ UPagein lpid src gpa flags order
  pub right : IsRightIn plan past lpid src gpa flags order
  pub found : IsFound (page_after plan past lpid (page_of plan gpa)) (pool_after plan past)

-- an entry is UV_PAGE_OUT of the hypervisor with right operands, for a page that finds its guest's phase and itself so
pub record PageOutFinds (IsFound : Phase → Page → Type 0) (plan : Plan) (past : List Event) (e : Event) : Type 0 where
  pub lpid : ℕ
  pub dest : ℕ
  pub gpa : ℕ
  pub flags : ℕ
  pub order : ℕ
  pub before : e.saw.before ≡ ctx.Hv
  pub cmd_is : e.trace.cmd ≡ UPageout lpid dest gpa flags order
  pub right : IsRightOut plan past lpid dest gpa flags order
  pub found : IsFound (part_after plan past lpid).phase (page_after plan past lpid (page_of plan gpa))

-- what has U_BUSY as its answer, a case for each call: it finds a page that can't move at present
pub data BusyCause (plan : Plan) (past : List Event) (e : Event) : Type 0 where
  BusyPageIn : PageInFinds IsBusyIn plan past e → BusyCause plan past e
  BusyPageOut : PageOutFinds IsBusyOut plan past e → BusyCause plan past e

-- these entries answer U_BUSY, and nothing else does
abbrev pub BusyExactlyWhere : Type 0
BusyExactlyWhere = (plan : Plan) (past : List Event) (e : Event) → Extends plan past e → (e.trace.answer ≡ answer.Ret UBusy) ↔ BusyCause plan past e

-- a page can come in at present: it is at rest, and where it isn't Shared a secure frame is free
abbrev pub IsReadyIn : Page → ℕ → Type 0
IsReadyIn page free = (page.mover ≡ None) × (is_shared page.kind ≡ false → 0 < free)

-- a page that isn't Shared can go out at present: it is at rest, and its guest isn't Starting
abbrev pub IsReadyOut : Phase → Page → Type 0
IsReadyOut phase page = (is_shared page.kind ≡ false) × (phase ≢ Starting) × (page.mover ≡ None)

-- what begins a call of the hypervisor, a case for each call: it finds a page that can move at present
pub data BeginCause (plan : Plan) (past : List Event) (e : Event) : Type 0 where
  BeginsPageIn : PageInFinds IsReadyIn plan past e → BeginCause plan past e
  BeginsPageOut : PageOutFinds IsReadyOut plan past e → BeginCause plan past e

-- these entries begin a call, and no other command of the hypervisor does
abbrev pub BeginsExactlyWhere : Type 0
BeginsExactlyWhere =
    (plan : Plan) (past : List Event) (e : Event) → Extends plan past e → e.saw.before ≡ ctx.Hv →
    (e.trace.answer ≡ answer.Step) ↔ BeginCause plan past e

-- UV_RETURN of the hypervisor enters exactly where the selected guest is in a phase for it and the selected vCPU waits
abbrev pub EntersExactlyWhere : Type 0
EntersExactlyWhere =
    (plan : Plan) (past : List Event) (e : Event) (r0 r2 : ℕ) (outs : List ℕ) → Extends plan past e → e.saw.before ≡ ctx.Hv → e.trace.cmd ≡ UReturn r0 r2 outs →
    (e.trace.answer ≡ answer.Enter) ↔ ((may_return_in (part_after plan past e.saw.lpid).phase ≡ true) × (is_waiting ((part_after plan past e.saw.lpid).vcpus e.saw.vid).state ≡ true))

-- h.enter enters exactly where it names a vCPU of a guest of the machine that is Normal, and that vCPU hasn't run or waits
abbrev pub EntersNormalExactlyWhere : Type 0
EntersNormalExactlyWhere =
    (plan : Plan) (past : List Event) (e : Event) (lpid vid value : ℕ) → Extends plan past e → e.saw.before ≡ ctx.Hv → e.trace.cmd ≡ HEnter lpid vid value →
    (e.trace.answer ≡ answer.Enter)
    ↔ (IsWithin 1 plan.guests lpid × ((part_after plan past lpid).phase ≡ Normal) × (vid < plan.vcpus) × (can_be_entered ((part_after plan past lpid).vcpus vid).state ≡ true))

-- a partition entry may be written of a guest of the machine that is Absent or Normal
pub record MayBeWritten (plan : Plan) (past : List Event) (lpid dw0 dw1 : ℕ) : Type 0 where
  pub guest : IsWithin 1 plan.guests lpid
  pub phase : ((part_after plan past lpid).phase ≡ Absent) ⊎ ((part_after plan past lpid).phase ≡ Normal)
  -- from a normal frame on
  pub frame : has_frame plan dw0 ≡ true
  -- with at most as many pages as a guest has, and a normal frame for each
  pub pages : dw1 ≤ plan.pages
  pub frames : frame_of plan dw0 + dw1 ≤ plan.normal

-- UV_WRITE_PATE of the hypervisor writes it exactly there
abbrev pub WritesExactlyWhere : Type 0
WritesExactlyWhere =
    (plan : Plan) (past : List Event) (e : Event) (lpid dw0 dw1 : ℕ) → Extends plan past e → e.saw.before ≡ ctx.Hv → e.trace.cmd ≡ UPate lpid dw0 dw1 →
    (e.trace.answer ≡ answer.Ret USuccess) ↔ MayBeWritten plan past lpid dw0 dw1

-- a slot may be registered of a guest of the machine that is Starting or Secure
pub record MayBeRegistered (plan : Plan) (past : List Event) (lpid start size flags id : ℕ) : Type 0 where
  pub guest : IsWithin 1 plan.guests lpid
  pub phase : may_change_slots_in (part_after plan past lpid).phase ≡ true
  -- from one of its pages on, with one page or more, all its own
  pub page : has_page plan start ≡ true
  pub pages : has_pages plan (page_of plan start) size ≡ true
  -- none of which lies in a slot
  pub apart : meets_slots (part_after plan past lpid).slots (page_of plan start) (size / 2 ^ plan.shift) ≡ false
  pub flags_are : flags ≡ 0
  -- under an id of 16 bits that no slot has, where there are fewer than 32
  pub id_is : id < 2 ^ 16
  pub free : has_id (part_after plan past lpid).slots id ≡ false
  pub room : length (part_after plan past lpid).slots < 32

-- UV_REGISTER_MEM_SLOT of the hypervisor registers it exactly there
abbrev pub RegistersExactlyWhere : Type 0
RegistersExactlyWhere =
    (plan : Plan) (past : List Event) (e : Event) (lpid start size flags id : ℕ) → Extends plan past e → e.saw.before ≡ ctx.Hv → e.trace.cmd ≡ URegslot lpid start size flags id →
    (e.trace.answer ≡ answer.Ret USuccess) ↔ MayBeRegistered plan past lpid start size flags id

-- UV_UNREGISTER_MEM_SLOT takes one out exactly where a guest of the machine that is Starting or Secure has one of that id
abbrev pub UnregistersExactlyWhere : Type 0
UnregistersExactlyWhere =
    (plan : Plan) (past : List Event) (e : Event) (lpid id : ℕ) → Extends plan past e → e.saw.before ≡ ctx.Hv → e.trace.cmd ≡ UUnregslot lpid id →
    (e.trace.answer ≡ answer.Ret USuccess) ↔ (IsWithin 1 plan.guests lpid × (may_change_slots_in (part_after plan past lpid).phase ≡ true) × (has_id (part_after plan past lpid).slots id ≡ true))

-- h.select selects exactly a vCPU of a guest of the machine
abbrev pub SelectsExactlyWhere : Type 0
SelectsExactlyWhere =
    (plan : Plan) (past : List Event) (e : Event) (lpid vid : ℕ) → Extends plan past e → e.saw.before ≡ ctx.Hv → e.trace.cmd ≡ HSelect lpid vid →
    (e.trace.answer ≡ answer.Done) ↔ (IsWithin 1 plan.guests lpid × (vid < plan.vcpus))

-- an entry is a load or store of a vCPU at a guest address, under its guest's generation
pub record IsAccess (plan : Plan) (past : List Event) (e : Event) (run : Run) (gpa : ℕ) : Type 0 where
  pub before : e.saw.before ≡ ctx.Guest run
  pub address : guest_address_in e.trace.cmd ≡ Some gpa
  pub generation : run.generation ≡ (part_after plan past run.lpid).generation

-- an entry is such an access to a page with a mover, in a slot of a guest that isn't Normal
pub record MeetsMover (plan : Plan) (past : List Event) (e : Event) : Type 0 where
  pub run : Run
  pub gpa : ℕ
  pub access : IsAccess plan past e run gpa
  pub phase : (part_after plan past run.lpid).phase ≢ Normal
  pub place : has_place plan gpa ≡ true
  pub slot : has_slot (part_after plan past run.lpid).slots (page_of plan gpa) ≡ true
  pub mover : IsSome (page_after plan past run.lpid (page_of plan gpa)).mover

-- what has Again as its answer, a case for each kind of step
pub data AgainCause (plan : Plan) (past : List Event) (e : Event) : Type 0 where
  AtAccess : MeetsMover plan past e → AgainCause plan past e

-- these entries answer Again, and nothing else does
abbrev pub AgainExactlyWhere : Type 0
AgainExactlyWhere = (plan : Plan) (past : List Event) (e : Event) → Extends plan past e → (e.trace.answer ≡ answer.Again) ↔ AgainCause plan past e

-- the real address at which a command loads or stores
abbrev pub real_address_in : Cmd → Option ℕ
real_address_in (HLd ra) = Some ra
real_address_in (HSt ra value) = Some ra
real_address_in cmd = None

-- whether a command in a context loads or stores
abbrev pub is_access_in : Ctx → Cmd → Bool
is_access_in ctx.Hv cmd = is_some (real_address_in cmd)
is_access_in (ctx.Uv work) cmd = false
is_access_in (ctx.Guest run) cmd = is_some (guest_address_in cmd)

-- a real address is none of a doubleword of normal memory
abbrev pub IsOutside : Plan → ℕ → Type 0
IsOutside plan ra = (ra % 8 ≢ 0) ⊎ (plan.normal ≤ frame_of plan ra)

-- a page of this kind is out of reach: it is Out, or Shared without a frame, or Invalid and no secure frame is free
abbrev pub IsOutOfReach : Kind → ℕ → Type 0
IsOutOfReach Invalid free = free ≡ 0
IsOutOfReach Secure free = ⊥
IsOutOfReach (Shared (Some n) fresh) free = ⊥
IsOutOfReach other free = Unit {0}

-- an address of a guest that isn't Normal can't be accessed: it is none of a doubleword of a page, or its page lies in no slot, or is at rest and out of reach
abbrev pub CannotBeAccessed : Plan → GuestPart → ℕ → ℕ → Type 0
CannotBeAccessed plan g free gpa =
    (gpa % 8 ≢ 0) ⊎ ((plan.pages ≤ page_of plan gpa) ⊎ ((has_slot g.slots (page_of plan gpa) ≡ false) ⊎ (((g.pages (page_of plan gpa)).mover ≡ None) × IsOutOfReach (g.pages (page_of plan gpa)).kind free)))

-- an address is none of a doubleword of a page in a guest's partition entry
abbrev pub IsOutsideEntry : Plan → GuestPart → ℕ → Type 0
IsOutsideEntry plan g gpa = (gpa % 8 ≢ 0) ⊎ (g.entry.length_ ≤ page_of plan gpa)

-- where Hole comes
pub record HoleComes (plan : Plan) (past : List Event) (e : Event) : Type 0 where
  -- at a load or store of the hypervisor exactly outside normal memory
  pub hypervisor : (ra : ℕ) → e.saw.before ≡ ctx.Hv → real_address_in e.trace.cmd ≡ Some ra → (e.trace.answer ≡ answer.Hole) ↔ IsOutside plan ra
  -- at a load or store of a guest that isn't Normal exactly where the address can't be accessed
  pub guest : (run : Run) (gpa : ℕ) → IsAccess plan past e run gpa → (part_after plan past run.lpid).phase ≢ Normal →
      (e.trace.answer ≡ answer.Hole) ↔ CannotBeAccessed plan (part_after plan past run.lpid) (pool_after plan past) gpa
  -- at one of a Normal guest exactly outside its partition entry
  pub normal : (run : Run) (gpa : ℕ) → IsAccess plan past e run gpa → (part_after plan past run.lpid).phase ≡ Normal →
      (e.trace.answer ≡ answer.Hole) ↔ IsOutsideEntry plan (part_after plan past run.lpid) gpa
  -- at no other entry
  pub others : e.trace.answer ≡ answer.Hole → is_access_in e.saw.before e.trace.cmd ≡ true

abbrev pub HoleExactlyWhere : Type 0
HoleExactlyWhere = (plan : Plan) (past : List Event) (e : Event) → Extends plan past e → HoleComes plan past e

-- an entry is such a command of a vCPU, under its guest's generation, in a guest of such a phase
pub record IsBy (Is : Cmd → Type 0) (IsIn : Phase → Type 0) (plan : Plan) (past : List Event) (e : Event) : Type 0 where
  pub run : Run
  pub before : e.saw.before ≡ ctx.Guest run
  pub cmd_is : Is e.trace.cmd
  pub generation : run.generation ≡ (part_after plan past run.lpid).generation
  pub phase : IsIn (part_after plan past run.lpid).phase

-- an entry is a hypercall of a guest that isn't Normal, whose row has this number and is one that the hypervisor answers
pub record Reflects (n : ℕ) (plan : Plan) (past : List Event) (e : Event) : Type 0 where
  pub call : IsBy (λ cmd. cmd ≡ GHcall) (λ phase. phase ≢ Normal) plan past e
  pub row : Row
  pub row_is : row_of HCALLS (reg plan past call.run.lpid call.run.vid 3) ≡ Some row
  pub kind_is : row.kind ≡ Reflected
  pub number : row.number ≡ n

-- where a guest leaves: one that is Normal exactly so, by a hypercall or an interrupt, and every other exactly so
pub record ExitComes (plan : Plan) (past : List Event) (e : Event) : Type 0 where
  pub normal : (e.trace.answer ≡ answer.Exit exit.Normal) ↔ IsBy (λ cmd. (cmd ≡ GHcall) ⊎ (cmd ≡ GIrq)) (λ phase. phase ≡ Normal) plan past e
  pub irq : (e.trace.answer ≡ answer.Exit exit.Irq) ↔ IsBy (λ cmd. cmd ≡ GIrq) (λ phase. phase ≢ Normal) plan past e
  pub call : (n : ℕ) → (e.trace.answer ≡ answer.Exit (exit.Hcall n)) ↔ Reflects n plan past e

abbrev pub ExitsExactlyWhere : Type 0
ExitsExactlyWhere = (plan : Plan) (past : List Event) (e : Event) → Extends plan past e → ExitComes plan past e

-- where Context comes: exactly at a command that is none of its CPU's context, and nothing changes there
pub record ContextComes (plan : Plan) (past : List Event) (e : Event) : Type 0 where
  pub comes : (e.trace.answer ≡ answer.Context) ↔ (is_command_in e.saw.before e.trace.cmd ≡ false)
  pub cpus : e.trace.answer ≡ answer.Context → (n : ℕ) → cpu_after plan n (e ∷ past) ≡ cpu_after plan n past
  pub rest : e.trace.answer ≡ answer.Context → ChangesNoMemory plan past e

abbrev pub ContextExactlyWhere : Type 0
ContextExactlyWhere = (plan : Plan) (past : List Event) (e : Event) → Extends plan past e → ContextComes plan past e

-- an entry is a command of a vCPU, or a step of its call in progress, under another generation than its guest's
pub record IsOfAnEndedGuest (plan : Plan) (past : List Event) (e : Event) : Type 0 where
  pub run : Run
  pub before : vcpu_in e.saw.before ≡ Some run
  pub cmd_is : is_command_in e.saw.before e.trace.cmd ≡ true
  pub generation : run.generation ≢ (part_after plan past run.lpid).generation

-- the CPU of a guest that has ended: the hypervisor runs, and its registers show zeros
abbrev pub gone_cpu : CpuPart → CpuPart
gone_cpu cpu = record cpu { ctx = ctx.Hv; own = zero_registers; last = answer.Gone }

-- where Gone comes: exactly at these commands, which change their CPU alone
pub record GoneComes (plan : Plan) (past : List Event) (e : Event) : Type 0 where
  pub comes : (e.trace.answer ≡ answer.Gone) ↔ IsOfAnEndedGuest plan past e
  pub cpu : e.trace.answer ≡ answer.Gone → cpu_after plan e.trace.cpu (e ∷ past) ≡ gone_cpu (cpu_after plan e.trace.cpu past)
  pub rest : e.trace.answer ≡ answer.Gone → ChangesNoMemory plan past e

abbrev pub GoneExactlyWhere : Type 0
GoneExactlyWhere = (plan : Plan) (past : List Event) (e : Event) → Extends plan past e → GoneComes plan past e
