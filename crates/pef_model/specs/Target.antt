-- At what a step aims, and which objects an entry touches.
use Rattle.std.specs.Prelude.{ℕ, ◌/◌, ◌%◌, ◌^◌, ◌==◌, nat_lt, nat_le, Bool, true, false, ◌&&◌, if◌then◌else◌, List, [], Option, Some, None, is_some}
use Rattle.pef_model.specs.declared.state.Way.{Way}
use Rattle.pef_model.specs.declared.state.Way.TheVariants as way
use Rattle.pef_model.specs.declared.state.Move.{Move}
use Rattle.pef_model.specs.declared.state.Run.{Run}
use Rattle.pef_model.specs.declared.state.Work.{Work}
use Rattle.pef_model.specs.declared.state.Work.TheVariants.{Inward, Outward, Share, Unshare, UnshareAll, Esm}
use Rattle.pef_model.specs.declared.state.Ctx.{Ctx}
use Rattle.pef_model.specs.declared.state.Ctx.TheVariants as ctx
use Rattle.pef_model.specs.declared.aim.Aim.{Aim}
use Rattle.pef_model.specs.declared.aim.Aim.TheVariants as aim
use Rattle.pef_model.specs.declared.command.Cmd.{Cmd}
use Rattle.pef_model.specs.declared.command.Cmd.TheVariants.{HLd, HSt, HSelect, HEnter, UPate, URegslot, UUnregslot, UPagein, UPageout, UInval, UReturn, GLi, GAdd, GXor, GLd, GSt, GHcall, GIrq, Go, Dump}
use Rattle.pef_model.specs.declared.entry.Answer.{Answer}
use Rattle.pef_model.specs.declared.entry.Answer.TheVariants as answer
use Rattle.pef_model.specs.Plan.{Plan}
use Rattle.pef_model.specs.Event.{Event}

-- whether the hypervisor runs
abbrev pub is_hypervisor : Ctx → Bool
is_hypervisor ctx.Hv = true
is_hypervisor (ctx.Uv work) = false
is_hypervisor (ctx.Guest run) = false

-- whether a command is one of a context; of a guest's call in progress no step is here yet
abbrev pub is_command_in : Ctx → Cmd → Bool
is_command_in ctx.Hv (HLd ra) = true
is_command_in ctx.Hv (HSt ra value) = true
is_command_in ctx.Hv (HSelect lpid vid) = true
is_command_in ctx.Hv (HEnter lpid vid value) = true
is_command_in ctx.Hv (UPate lpid dw0 dw1) = true
is_command_in ctx.Hv (URegslot lpid start size flags id) = true
is_command_in ctx.Hv (UUnregslot lpid id) = true
is_command_in ctx.Hv (UPagein lpid src gpa flags order) = true
is_command_in ctx.Hv (UPageout lpid dest gpa flags order) = true
is_command_in ctx.Hv (UInval lpid gpa order) = true
is_command_in ctx.Hv (UReturn r0 r2 outs) = true
is_command_in ctx.Hv (Dump reg) = true
is_command_in (ctx.Uv (Inward move)) Go = true
is_command_in (ctx.Uv (Outward move)) Go = true
is_command_in (ctx.Guest run) (UPate lpid dw0 dw1) = true
is_command_in (ctx.Guest run) (URegslot lpid start size flags id) = true
is_command_in (ctx.Guest run) (UUnregslot lpid id) = true
is_command_in (ctx.Guest run) (UPagein lpid src gpa flags order) = true
is_command_in (ctx.Guest run) (UPageout lpid dest gpa flags order) = true
is_command_in (ctx.Guest run) (UInval lpid gpa order) = true
is_command_in (ctx.Guest run) (UReturn r0 r2 outs) = true
is_command_in (ctx.Guest run) (GLi rd value) = true
is_command_in (ctx.Guest run) (GAdd rd ra rb) = true
is_command_in (ctx.Guest run) (GXor rd ra rb) = true
is_command_in (ctx.Guest run) (GLd rd gpa) = true
is_command_in (ctx.Guest run) (GSt rs gpa) = true
is_command_in (ctx.Guest run) GHcall = true
is_command_in (ctx.Guest run) GIrq = true
is_command_in (ctx.Guest run) (Dump reg) = true
is_command_in before cmd = false

-- the guest address at which a command loads or stores
abbrev pub guest_address_in : Cmd → Option ℕ
guest_address_in (GLd rd gpa) = Some gpa
guest_address_in (GSt rs gpa) = Some gpa
guest_address_in cmd = None

-- the work of moving a page this way
abbrev pub work_by : Way → Move → Work
work_by way.Inward move = Inward move
work_by way.Outward move = Outward move

-- the vCPU whose call is in progress; None where it is one of the hypervisor
abbrev pub caller : Work → Option Run
caller (Inward move) = None
caller (Outward move) = None
caller (Share run) = Some run
caller (Unshare run) = Some run
caller (UnshareAll run) = Some run
caller (Esm run) = Some run

-- the vCPU whose step it is: the one that runs, or the one whose call is in progress
abbrev pub vcpu_in : Ctx → Option Run
vcpu_in ctx.Hv = None
vcpu_in (ctx.Uv work) = caller work
vcpu_in (ctx.Guest run) = Some run

-- whether a step begins a page-out, which seals the page
abbrev pub is_sealing : Ctx → Cmd → Answer → Bool
is_sealing ctx.Hv (UPageout lpid dest gpa flags order) answer.Step = true
is_sealing before cmd a = false

-- whether a step puts its bytes into the CPU's hand: the begin of a page-out, and the copy of a page-in
abbrev pub takes_bytes : Ctx → Cmd → Answer → Bool
takes_bytes (ctx.Uv (Inward move)) cmd answer.Step = true
takes_bytes before cmd a = is_sealing before cmd a

-- whether a step writes its bytes into a normal frame: the copy of a page-out
abbrev pub is_copying : Ctx → Cmd → Answer → Bool
is_copying (ctx.Uv (Outward move)) Go answer.Step = true
is_copying before cmd a = false

-- whether the next step of a call in progress uses the page in its CPU's hand: those of a page-out do, the end of a page-in, and none of a guest's call
abbrev pub work_uses_hand : Work → Bool
work_uses_hand (Inward move) = move.copied
work_uses_hand (Outward move) = true
work_uses_hand work = false

-- whether a step uses the page in its CPU's hand
abbrev pub uses_hand : Ctx → Cmd → Bool
uses_hand (ctx.Uv work) Go = work_uses_hand work
uses_hand before cmd = false

-- whether a step shows one of its CPU's registers
abbrev pub shows_register : Ctx → Cmd → Bool
shows_register ctx.Hv (Dump reg) = true
shows_register before cmd = false

-- the value of an answer that has one
abbrev pub value_in : Answer → ℕ
value_in (answer.Val value) = value
value_in a = 0

-- what a step learns of its CPU: the context, the selected vCPU, the last answer, the hand where it uses it, and the register that it shows
pub record Ask : Type 0 where
  pub before : Ctx
  pub lpid : ℕ
  pub vid : ℕ
  pub last : Answer
  pub hand : List ℕ
  pub register : ℕ

-- the same, as an entry tells it: the hand is the bytes of a step that uses it, a register the value that is shown
abbrev pub told : Event → Ask
told e = record {
  before = e.saw.before;
  lpid = e.saw.lpid;
  vid = e.saw.vid;
  last = e.saw.last;
  hand = if uses_hand e.saw.before e.trace.cmd then e.bytes else [];
  register = if shows_register e.saw.before e.trace.cmd then value_in e.trace.answer else 0;
}

-- the object whose state decides a step's answer
pub data Target : Type 0 where
  Alone : Target
  AtGuest : ℕ → Target
  AtFrame : ℕ → Target

-- the normal frame of a real address
abbrev pub frame_of : Plan → ℕ → ℕ
frame_of plan ra = ra / 2 ^ plan.shift

-- whether a real address is that of a doubleword in a normal frame
abbrev pub has_real_place : Plan → ℕ → Bool
has_real_place plan ra = (ra % 8 == 0) && nat_lt (frame_of plan ra) plan.normal

-- in the hypervisor UV_RETURN aims at the selected guest, h.enter, UV_WRITE_PATE, the calls for slots and for pages at the one that they name, a load or store at its address, and every other command at nothing
abbrev pub aim_of_hypervisor : ℕ → Cmd → Aim
aim_of_hypervisor selected (HLd ra) = aim.Address ra
aim_of_hypervisor selected (HSt ra value) = aim.Address ra
aim_of_hypervisor selected (HEnter lpid vid value) = aim.NamedGuest lpid
aim_of_hypervisor selected (UPate lpid dw0 dw1) = aim.NamedGuest lpid
aim_of_hypervisor selected (URegslot lpid start size flags id) = aim.NamedGuest lpid
aim_of_hypervisor selected (UUnregslot lpid id) = aim.NamedGuest lpid
aim_of_hypervisor selected (UPagein lpid src gpa flags order) = aim.NamedGuest lpid
aim_of_hypervisor selected (UPageout lpid dest gpa flags order) = aim.NamedGuest lpid
aim_of_hypervisor selected (UInval lpid gpa order) = aim.NamedGuest lpid
aim_of_hypervisor selected (UReturn r0 r2 outs) = aim.Guest selected
aim_of_hypervisor selected cmd = aim.Nothing

-- the next step of a page's move aims at the page, and every other command at nothing
abbrev pub aim_of_work : Work → Cmd → Aim
aim_of_work (Inward move) Go = aim.Move move
aim_of_work (Outward move) Go = aim.Move move
aim_of_work work cmd = aim.Nothing

-- a guest's own commands aim at the guest, whatever they name, and every other command at nothing
abbrev pub aim_of_running : ℕ → Cmd → Aim
aim_of_running lpid (HLd ra) = aim.Nothing
aim_of_running lpid (HSt ra value) = aim.Nothing
aim_of_running lpid (HSelect named vid) = aim.Nothing
aim_of_running lpid (HEnter named vid value) = aim.Nothing
aim_of_running lpid Go = aim.Nothing
aim_of_running lpid cmd = aim.Guest lpid

-- at what a command aims, by its CPU's context and the guest that is selected there
abbrev pub aim_in : Ctx → ℕ → Cmd → Aim
aim_in ctx.Hv selected cmd = aim_of_hypervisor selected cmd
aim_in (ctx.Uv work) selected cmd = aim_of_work work cmd
aim_in (ctx.Guest run) selected cmd = aim_of_running run.lpid cmd

-- the object of an aim: none where a call names no guest of the machine or an address has no place, and of a page on the move its normal frame until it is copied, and then its guest
abbrev pub target_of_aim : Plan → Aim → Target
target_of_aim plan aim.Nothing = Alone
target_of_aim plan (aim.NamedGuest lpid) = if nat_le 1 lpid && nat_le lpid plan.guests then AtGuest lpid else Alone
target_of_aim plan (aim.Guest lpid) = AtGuest lpid
target_of_aim plan (aim.Address ra) = if has_real_place plan ra then AtFrame (frame_of plan ra) else Alone
target_of_aim plan (aim.Move move) = if move.copied then AtGuest move.lpid else AtFrame move.frame

-- the target of a step
abbrev pub target_in : Plan → Ctx → ℕ → Cmd → Target
target_in plan before lpid cmd = target_of_aim plan (aim_in before lpid cmd)

-- the target of an entry's step
abbrev pub target_of : Plan → Event → Target
target_of plan e = target_in plan e.saw.before e.saw.lpid e.trace.cmd

-- whether a target is a certain guest
abbrev pub is_guest : ℕ → Target → Bool
is_guest lpid Alone = false
is_guest lpid (AtGuest l) = l == lpid
is_guest lpid (AtFrame n) = false

-- whether an optional number is a certain one
abbrev pub is_number : ℕ → Option ℕ → Bool
is_number n None = false
is_number n (Some m) = m == n

-- an entry touches its CPU
abbrev pub touches_cpu : ℕ → Event → Bool
touches_cpu n e = e.trace.cpu == n

-- it touches the guest at which its step aims
abbrev pub touches_guest : Plan → ℕ → Event → Bool
touches_guest plan lpid e = is_guest lpid (target_of plan e)

-- it touches the pool where the number of free frames was read or changed
abbrev pub touches_pool : Event → Bool
touches_pool e = is_some e.saw.pool

-- it touches the normal frame that was read or written
abbrev pub touches_frame : ℕ → Event → Bool
touches_frame n e = is_number n e.saw.frame
