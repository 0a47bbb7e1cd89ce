-- A guest's public part, and what an entry makes of it.
use Rattle.std.specs.Prelude.{ℕ, zero, suc, ◌+◌, ◌-◌, ◌/◌, ◌%◌, ◌^◌, ◌==◌, nat_lt, Bool, true, false, not, ◌&&◌, ◌||◌, if◌then◌else◌, List, [], ◌∷◌, ◌++◌, filter, Option, Some, None, is_some}
use Rattle.pef_model.specs.declared.state.Phase.{Phase}
use Rattle.pef_model.specs.declared.state.Phase.TheVariants as phase
use Rattle.pef_model.specs.declared.state.Kind.{Kind}
use Rattle.pef_model.specs.declared.state.Kind.TheVariants as kind
use Rattle.pef_model.specs.declared.state.Way.TheVariants as way
use Rattle.pef_model.specs.declared.state.Mover.{Mover}
use Rattle.pef_model.specs.declared.state.Pending.{Pending}
use Rattle.pef_model.specs.declared.state.Pending.TheVariants as pending
use Rattle.pef_model.specs.declared.state.VState.{VState}
use Rattle.pef_model.specs.declared.state.VState.TheVariants as vstate
use Rattle.pef_model.specs.declared.state.Slot.{Slot}
use Rattle.pef_model.specs.declared.state.Work.{Work}
use Rattle.pef_model.specs.declared.state.Work.TheVariants.{Inward, Outward, Share, Unshare, UnshareAll, Esm}
use Rattle.pef_model.specs.declared.state.Run.{Run}
use Rattle.pef_model.specs.declared.state.Ctx.{Ctx}
use Rattle.pef_model.specs.declared.state.Ctx.TheVariants as ctx
use Rattle.pef_model.specs.declared.command.Cmd.{Cmd}
use Rattle.pef_model.specs.declared.command.Cmd.TheVariants.{HEnter, UPate, URegslot, UUnregslot, UPagein, UPageout, UInval, UReturn, GLd, GSt, GHcall, GIrq}
use Rattle.pef_model.specs.declared.command.Code.{Code}
use Rattle.pef_model.specs.declared.command.Code.TheVariants.{USuccess, UP2, HSuccess}
use Rattle.pef_model.specs.declared.entry.Exit.{Exit}
use Rattle.pef_model.specs.declared.entry.Exit.TheVariants as exit
use Rattle.pef_model.specs.declared.entry.Answer.{Answer}
use Rattle.pef_model.specs.declared.entry.Answer.TheVariants as answer
use Rattle.pef_model.specs.declared.entry.PoolSaw.{PoolSaw}
use Rattle.pef_model.specs.Plan.{Plan}
use Rattle.pef_model.specs.Event.{Event}
use Rattle.pef_model.specs.Target.{frame_of}
use Rattle.pef_model.specs.Slots.{has_slot, start_slots, registered_by, unregistered_by}

-- a page, as far as it is public: its kind; who moves it; how often it was paged out, begun page-outs included; where it is Out what was last sealed of it; where it moves outward what is to be that; its bytes where it is Secure in a guest that isn't secure yet, or no longer
pub record Page : Type 0 where
  pub kind : Kind
  pub mover : Option Mover
  pub version : ℕ
  pub sealed : Option (List ℕ)
  pub pending : Option (List ℕ)
  pub plain : Option (List ℕ)

-- a vCPU, as far as it is public: its state, and the guest's generation when it was taken up
pub record VcpuPart : Type 0 where
  pub state : VState
  pub generation : ℕ

-- a partition entry: the real address of its first normal frame, and the number of its frames, one for each page from page 0 on
pub record PartitionEntry : Type 0 where
  pub base : ℕ
  pub length_ : ℕ

-- a guest, without what it keeps to itself; words is the number of entropy words that are left, order has its Secure pages, the one that became so first in front
pub record GuestPart : Type 0 where
  pub phase : Phase
  pub generation : ℕ
  pub entry : PartitionEntry
  pub slots : List Slot
  pub words : ℕ
  pub pages : ℕ → Page
  pub vcpus : ℕ → VcpuPart
  pub order : List ℕ

-- the function with another value at one place
abbrev pub put : {X : Type 0} → (ℕ → X) → ℕ → X → ℕ → X
put f at x n = if n == at then x else f n

-- a page that has no frame yet, and was never paged out
abbrev pub invalid_page : Page
invalid_page = record { kind = kind.Invalid; mover = None; version = 0; sealed = None; pending = None; plain = None }

-- a page that was put into a secure frame; its version stays
abbrev pub secured : Page → Page
secured page = record { kind = kind.Secure; mover = None; version = page.version; sealed = None; pending = None; plain = None }

-- a page that a CPU begins to move outward: its version rises, and the bytes of the begin are pending
abbrev pub begun_out : Page → ℕ → List ℕ → Page
begun_out page cpu bytes = record page { mover = Some (record { cpu = cpu; way = way.Outward }); version = page.version + 1; pending = Some bytes }

-- a page that has moved outward: it is Out, and what was pending is what was last sealed
abbrev pub ended_out : Page → Page
ended_out page = record { kind = kind.Out; mover = None; version = page.version; sealed = page.pending; pending = None; plain = None }

-- a vCPU in this state that was never taken up
abbrev pub new_vcpu : VState → VcpuPart
new_vcpu state = record { state = state; generation = 0 }

-- no partition entry
abbrev pub no_entry : PartitionEntry
no_entry = record { base = 0; length_ = 0 }

-- the phase in which a guest begins, by whether it is born secure
abbrev pub start_phase : Bool → Phase
start_phase true = phase.Secure
start_phase false = phase.Absent

-- and the state of its vCPUs
abbrev pub start_state : Bool → VState
start_state true = vstate.Fresh
start_state false = vstate.Idle

-- a guest's public part at the start
abbrev pub start_part : Plan → ℕ → GuestPart
start_part plan lpid = record {
  phase = start_phase (plan.is_born lpid);
  generation = 1;
  entry = no_entry;
  slots = start_slots plan (plan.is_born lpid);
  words = plan.words lpid;
  pages = λ gfn. invalid_page;
  vcpus = λ vid. new_vcpu (start_state (plan.is_born lpid));
  order = [];
}

-- the page of a guest address
abbrev pub page_of : Plan → ℕ → ℕ
page_of plan gpa = gpa / 2 ^ plan.shift

-- whether a guest address is that of a doubleword in a page of the guest
abbrev pub has_place : Plan → ℕ → Bool
has_place plan gpa = (gpa % 8 == 0) && nat_lt (page_of plan gpa) plan.pages

-- whether it is that of a doubleword in a page of one of the guest's slots
abbrev pub is_in_slot : Plan → GuestPart → ℕ → Bool
is_in_slot plan g gpa = has_place plan gpa && has_slot g.slots (page_of plan gpa)

-- whether a page of this kind is Shared
abbrev pub is_shared : Kind → Bool
is_shared kind.Invalid = false
is_shared kind.Secure = false
is_shared kind.Out = false
is_shared (kind.Shared frame fresh) = true

-- whether a page of this kind is private in a guest of this phase: a Normal guest has none, and a Shared page is none
abbrev pub is_private_in : Phase → Kind → Bool
is_private_in phase.Normal page_kind = false
is_private_in other page_kind = not (is_shared page_kind)

-- whether a page of a guest is private
abbrev pub is_private : GuestPart → ℕ → Bool
is_private g gfn = is_private_in g.phase (g.pages gfn).kind

-- what an access to a guest address meets
pub data Meeting : Type 0 where
  -- no doubleword of a page that the guest has
  NoPlace : Meeting
  -- a page on the move
  Moves : Meeting
  -- its secure frame
  Private : Meeting
  -- the normal frame of this number, through the partition entry or Shared
  Normal : ℕ → Meeting
  -- a Shared page without a frame
  Unshared : Meeting
  -- an Invalid page
  Unbacked : Meeting
  -- a page that is Out
  Away : Meeting

-- what an access to a page at rest meets
abbrev pub meets_kind : Kind → Meeting
meets_kind kind.Invalid = Unbacked
meets_kind kind.Secure = Private
meets_kind kind.Out = Away
meets_kind (kind.Shared (Some n) fresh) = Normal n
meets_kind (kind.Shared None fresh) = Unshared

-- what an access to a page meets: nothing is done with one that moves
abbrev pub meets_page : Page → Meeting
meets_page page = if is_some page.mover then Moves else meets_kind page.kind

-- what an access through a partition entry meets
abbrev pub meets_entry : Plan → PartitionEntry → ℕ → Meeting
meets_entry plan entry gfn = if nat_lt gfn entry.length_ then Normal (frame_of plan entry.base + gfn) else NoPlace

-- by the guest's phase: a Normal guest goes through its partition entry, and every other has the pages in its slots
abbrev pub meets_in : Phase → Plan → GuestPart → ℕ → Meeting
meets_in phase.Normal plan g gpa = if gpa % 8 == 0 then meets_entry plan g.entry (page_of plan gpa) else NoPlace
meets_in phase plan g gpa = if is_in_slot plan g gpa then meets_page (g.pages (page_of plan gpa)) else NoPlace

-- what an access of a guest meets
abbrev pub meets : Plan → GuestPart → ℕ → Meeting
meets plan g gpa = meets_in g.phase plan g gpa

-- whether a page is Invalid
abbrev pub is_invalid : Page → Bool
is_invalid page = is_invalid_kind page.kind where
  is_invalid_kind : Kind → Bool
  is_invalid_kind kind.Invalid = true
  is_invalid_kind kind.Secure = false
  is_invalid_kind kind.Out = false
  is_invalid_kind (kind.Shared frame fresh) = false

-- whether a page lies in a secure frame, or moves out of it
abbrev pub is_secure : Page → Bool
is_secure page = is_secure_kind page.kind where
  is_secure_kind : Kind → Bool
  is_secure_kind kind.Invalid = false
  is_secure_kind kind.Secure = true
  is_secure_kind kind.Out = false
  is_secure_kind (kind.Shared frame fresh) = false

-- whether a page has a secure frame: it is Secure, or moves inward
abbrev pub has_secure_frame : Page → Bool
has_secure_frame page = is_secure page || is_some page.mover

-- the sum of f 0 to f (n - 1)
abbrev pub sum_below : ℕ → (ℕ → ℕ) → ℕ
sum_below zero f = 0
sum_below (suc n) f = sum_below n f + f n

-- how many pages of a guest have a secure frame
abbrev pub frames_in : Plan → GuestPart → ℕ
frames_in plan g = sum_below plan.pages (λ gfn. if has_secure_frame (g.pages gfn) then 1 else 0)

-- a page that becomes Secure is the last in the order
abbrev pub with_secure_page : GuestPart → ℕ → GuestPart
with_secure_page g gfn = record g { pages = put g.pages gfn (secured (g.pages gfn)); order = g.order ++ gfn ∷ [] }

-- a vCPU that is taken up runs on the CPU under the guest's generation
abbrev pub with_running_vcpu : GuestPart → ℕ → ℕ → GuestPart
with_running_vcpu g vid cpu = record g { vcpus = put g.vcpus vid (record (g.vcpus vid) { state = vstate.Running cpu; generation = g.generation }) }

-- the call of a guest in which its vCPU waits that waits for this, by the vCPU; None where it waits in none
abbrev pub call_left : Pending → Option (Run → Work)
call_left (pending.Share gfn) = Some Share
call_left (pending.Unshare gfn) = Some Unshare
call_left (pending.UnshareAll gfn) = Some UnshareAll
call_left pending.EsmStart = Some Esm
call_left (pending.EsmNeed gfn) = Some Esm
call_left pending.EsmDone = Some Esm
call_left waits = None

-- the same, of a vCPU in this state
abbrev pub call_of_state : VState → Option (Run → Work)
call_of_state (vstate.Parked waits) = call_left waits
call_of_state state = None

-- a vCPU that leaves is parked, in the generation in which it was taken up
abbrev pub with_parked_vcpu : GuestPart → ℕ → Pending → GuestPart
with_parked_vcpu g vid pending = record g { vcpus = put g.vcpus vid (record (g.vcpus vid) { state = vstate.Parked pending }) }

-- a page that a CPU begins to move inward; what was last sealed of it stays until it has come in
abbrev pub begun_in : Page → ℕ → Page
begun_in page cpu = record page { mover = Some (record { cpu = cpu; way = way.Inward }) }

-- a page that was refused as it came in: it is as before, at rest
abbrev pub refused_in : Page → Page
refused_in page = record page { mover = None }

-- a page begins to move outward; it keeps its place in the order
abbrev pub with_page_leaving : GuestPart → ℕ → ℕ → List ℕ → GuestPart
with_page_leaving g gfn cpu bytes = record g { pages = put g.pages gfn (begun_out (g.pages gfn) cpu bytes) }

-- a page has moved outward, and leaves the order
abbrev pub with_page_out : GuestPart → ℕ → GuestPart
with_page_out g gfn = record g { pages = put g.pages gfn (ended_out (g.pages gfn)); order = filter (λ n. not (n == gfn)) g.order }

-- a page begins to move inward
abbrev pub with_page_coming : GuestPart → ℕ → ℕ → GuestPart
with_page_coming g gfn cpu = record g { pages = put g.pages gfn (begun_in (g.pages gfn) cpu) }

-- a page was refused
abbrev pub with_page_refused : GuestPart → ℕ → GuestPart
with_page_refused g gfn = record g { pages = put g.pages gfn (refused_in (g.pages gfn)) }

-- a kind without a normal frame: a Shared page loses its own and keeps its mark, and every other has none
abbrev pub unmapped_kind : Kind → Kind
unmapped_kind kind.Invalid = kind.Invalid
unmapped_kind kind.Secure = kind.Secure
unmapped_kind kind.Out = kind.Out
unmapped_kind (kind.Shared frame fresh) = kind.Shared None fresh

-- a page that has lost its normal frame, if it is Shared
abbrev pub unmapped : Page → Page
unmapped page = record page { kind = unmapped_kind page.kind }

-- a page loses its normal frame
abbrev pub with_page_unmapped : GuestPart → ℕ → GuestPart
with_page_unmapped g gfn = record g { pages = put g.pages gfn (unmapped (g.pages gfn)) }

-- after UV_PAGE_INVAL of a page, by the code with which it comes back
abbrev pub part_of_inval : GuestPart → Code → ℕ → GuestPart
part_of_inval g USuccess gfn = with_page_unmapped g gfn
part_of_inval g code gfn = g

-- whether UV_WRITE_PATE of this length, by the code with which it comes back, ends its guest
abbrev pub ends_guest : Code → ℕ → Bool
ends_guest USuccess dw1 = dw1 == 0
ends_guest code dw1 = false

-- a guest that ends in normal memory: its generation rises, and no vCPU of it runs or waits
abbrev pub ended_normal : GuestPart → GuestPart
ended_normal g = record g { phase = phase.Absent; generation = g.generation + 1; vcpus = λ vid. new_vcpu vstate.Idle }

-- a partition entry is set: with a page the guest is in normal memory, and with none it ends
abbrev pub with_entry : GuestPart → ℕ → ℕ → GuestPart
with_entry g dw0 dw1 = if dw1 == 0 then ended_normal (record g { entry = record { base = dw0; length_ = dw1 } }) else record g { entry = record { base = dw0; length_ = dw1 }; phase = phase.Normal }

-- after UV_WRITE_PATE, by the code with which it comes back
abbrev pub part_of_write : GuestPart → Code → ℕ → ℕ → GuestPart
part_of_write g USuccess dw0 dw1 = with_entry g dw0 dw1
part_of_write g code dw0 dw1 = g

-- the slot that UV_REGISTER_MEM_SLOT asks for: from a start on, of a size, both in bytes
abbrev pub slot_asked : Plan → ℕ → ℕ → ℕ → Slot
slot_asked plan start size id = record { id = id; first = page_of plan start; count = size / 2 ^ plan.shift }

-- after a step of the hypervisor
abbrev pub part_of_hypervisor : Plan → GuestPart → ℕ → ℕ → List ℕ → Answer → Cmd → GuestPart
part_of_hypervisor plan g vid cpu bytes answer.Step (UPageout lpid dest gpa flags order) = with_page_leaving g (page_of plan gpa) cpu bytes
part_of_hypervisor plan g vid cpu bytes answer.Step (UPagein lpid src gpa flags order) = with_page_coming g (page_of plan gpa) cpu
part_of_hypervisor plan g vid cpu bytes answer.Enter (UReturn r0 r2 outs) = with_running_vcpu g vid cpu
part_of_hypervisor plan g vid cpu bytes answer.Enter (HEnter lpid named value) = with_running_vcpu g named cpu
part_of_hypervisor plan g vid cpu bytes (answer.Ret code) (UPate lpid dw0 dw1) = part_of_write g code dw0 dw1
part_of_hypervisor plan g vid cpu bytes (answer.Ret code) (URegslot lpid start size flags id) = record g { slots = registered_by code g.slots (slot_asked plan start size id) }
part_of_hypervisor plan g vid cpu bytes (answer.Ret code) (UUnregslot lpid id) = record g { slots = unregistered_by code g.slots id }
part_of_hypervisor plan g vid cpu bytes (answer.Ret code) (UInval lpid gpa order) = part_of_inval g code (page_of plan gpa)
part_of_hypervisor plan g vid cpu bytes a cmd = g

-- after a step of a call in progress
abbrev pub part_of_work : GuestPart → List ℕ → Answer → Work → GuestPart
part_of_work g bytes (answer.Ret USuccess) (Outward move) = with_page_out g move.gfn
part_of_work g bytes (answer.Ret USuccess) (Inward move) = with_secure_page g move.gfn
part_of_work g bytes (answer.Ret UP2) (Inward move) = with_page_refused g move.gfn
part_of_work g bytes a work = g

-- after an access that was done: the page is backed where it took a frame
abbrev pub part_of_access : GuestPart → ℕ → Option PoolSaw → GuestPart
part_of_access g gfn (Some saw) = with_secure_page g gfn
part_of_access g gfn None = g

-- for what a vCPU waits after a hypercall that leaves so
abbrev pub waits_for : Exit → Pending
waits_for exit.Normal = pending.Exit
waits_for exit.Irq = pending.Irq
waits_for (exit.Hcall n) = pending.Hcall n

-- whether a hypercall that comes back with this code has the guest's next entropy word
abbrev pub has_word : Code → Bool
has_word HSuccess = true
has_word code = false

-- after a step of a guest's vCPU
abbrev pub part_of_guest : Plan → GuestPart → ℕ → Answer → Cmd → Option PoolSaw → GuestPart
part_of_guest plan g vid (answer.Val value) (GLd rd gpa) pool = part_of_access g (page_of plan gpa) pool
part_of_guest plan g vid answer.Done (GSt rs gpa) pool = part_of_access g (page_of plan gpa) pool
part_of_guest plan g vid (answer.Ret code) GHcall pool = record g { words = if has_word code then g.words - 1 else g.words }
part_of_guest plan g vid (answer.Exit why) GHcall pool = with_parked_vcpu g vid (waits_for why)
part_of_guest plan g vid (answer.Exit why) GIrq pool = with_parked_vcpu g vid pending.Irq
part_of_guest plan g vid a cmd pool = g

-- by the context before the step
abbrev pub part_in : Plan → GuestPart → Ctx → Answer → Cmd → Option PoolSaw → ℕ → ℕ → List ℕ → GuestPart
part_in plan g ctx.Hv a cmd pool vid cpu bytes = part_of_hypervisor plan g vid cpu bytes a cmd
part_in plan g (ctx.Uv work) a cmd pool vid cpu bytes = part_of_work g bytes a work
part_in plan g (ctx.Guest run) a cmd pool vid cpu bytes = part_of_guest plan g run.vid a cmd pool

-- a guest's public part after an entry that touches it
abbrev pub next_part : Plan → GuestPart → Event → GuestPart
next_part plan g e = part_in plan g e.saw.before e.trace.answer e.trace.cmd e.saw.pool e.saw.vid e.trace.cpu e.bytes
