-- Laws of transitions: which entries change a page's kind, which a vCPU's state, which how a guest lives, and which its slots.
use Rattle.std.specs.Prelude.{◌≡◌, ℕ, ◌+◌, ◌==◌, Bool, false, ◌&&◌, if◌then◌else◌, List, [], ◌∷◌, ◌++◌, Option, Some, None, unwrap_or, option_map}
use Rattle.pef_model.specs.declared.state.Phase.{Phase}
use Rattle.pef_model.specs.declared.state.Phase.TheVariants.{Absent, Normal}
use Rattle.pef_model.specs.declared.state.Kind.{Kind}
use Rattle.pef_model.specs.declared.state.Kind.TheVariants.{Secure, Out}
use Rattle.pef_model.specs.declared.state.Pending.{Pending}
use Rattle.pef_model.specs.declared.state.Pending.TheVariants as pending
use Rattle.pef_model.specs.declared.state.VState.{VState}
use Rattle.pef_model.specs.declared.state.VState.TheVariants.{Idle, Running, Parked}
use Rattle.pef_model.specs.declared.state.Work.TheVariants.{Inward, Outward}
use Rattle.pef_model.specs.declared.state.Run.{Run}
use Rattle.pef_model.specs.declared.state.Slot.{Slot}
use Rattle.pef_model.specs.declared.state.Ctx.{Ctx}
use Rattle.pef_model.specs.declared.state.Ctx.TheVariants as ctx
use Rattle.pef_model.specs.declared.command.Cmd.{Cmd}
use Rattle.pef_model.specs.declared.command.Cmd.TheVariants.{HEnter, UPate, URegslot, UUnregslot, UInval, UReturn, GLd, GSt, GHcall}
use Rattle.pef_model.specs.declared.command.Code.TheVariants.{USuccess}
use Rattle.pef_model.specs.declared.entry.Exit.TheVariants as exit
use Rattle.pef_model.specs.declared.entry.Answer.{Answer}
use Rattle.pef_model.specs.declared.entry.Answer.TheVariants as answer
use Rattle.pef_model.specs.declared.entry.PoolSaw.{PoolSaw}
use Rattle.pef_model.specs.Plan.{Plan}
use Rattle.pef_model.specs.Event.{Event}
use Rattle.pef_model.specs.Target.{vcpu_in}
use Rattle.pef_model.specs.Slots.{without}
use Rattle.pef_model.specs.GuestPart.{GuestPart, PartitionEntry, page_of, unmapped_kind, ends_guest, slot_asked}
use Rattle.pef_model.specs.History.{guest_after, Extends, page_after}

-- a kind for one page of a guest, and none for another
abbrev pub for_page : ℕ → ℕ → ℕ → ℕ → Kind → Option Kind
for_page lpid gfn at_lpid at_gfn new = if (at_lpid == lpid) && (at_gfn == gfn) then Some new else None

-- the kind that a step gives a guest's page, by the guest that it finds: Secure to one that an access backed and to one whose page-in is accepted, Out to one whose page-out ends, and a Shared one without a frame where UV_PAGE_INVAL is accepted; None where it gives it none
abbrev pub kind_given : Plan → GuestPart → ℕ → ℕ → Ctx → Cmd → Answer → Option PoolSaw → Option Kind
kind_given plan g lpid gfn (ctx.Guest run) (GLd rd gpa) (answer.Val value) (Some saw) = for_page lpid gfn run.lpid (page_of plan gpa) Secure
kind_given plan g lpid gfn (ctx.Guest run) (GSt rs gpa) answer.Done (Some saw) = for_page lpid gfn run.lpid (page_of plan gpa) Secure
kind_given plan g lpid gfn (ctx.Uv (Inward move)) cmd (answer.Ret USuccess) pool = for_page lpid gfn move.lpid move.gfn Secure
kind_given plan g lpid gfn (ctx.Uv (Outward move)) cmd (answer.Ret USuccess) pool = for_page lpid gfn move.lpid move.gfn Out
kind_given plan g lpid gfn ctx.Hv (UInval named gpa order) (answer.Ret USuccess) pool = for_page lpid gfn named (page_of plan gpa) (unmapped_kind (g.pages gfn).kind)
kind_given plan g lpid gfn before cmd a pool = None

-- the kind of a page after an entry: the one that its step gives it, and else as it was
abbrev pub kind_by : Plan → GuestPart → Event → ℕ → ℕ → Kind
kind_by plan g e lpid gfn = unwrap_or (kind_given plan g lpid gfn e.saw.before e.trace.cmd e.trace.answer e.saw.pool) (g.pages gfn).kind

abbrev pub EachEntryLeavesKinds : Type 0
EachEntryLeavesKinds =
    (plan : Plan) (past : List Event) (e : Event) (lpid gfn : ℕ) → Extends plan past e → (page_after plan (e ∷ past) lpid gfn).kind ≡ kind_by plan (guest_after plan lpid past).part e lpid gfn

-- for what a vCPU waits after a step of its own with which it leaves; None after another step
abbrev pub waits_by : GuestPart → ℕ → Ctx → Cmd → Answer → Option Pending
waits_by g vid before GHcall (answer.Exit exit.Normal) = Some pending.Exit
waits_by g vid before cmd (answer.Exit exit.Normal) = Some pending.Irq
waits_by g vid before cmd (answer.Exit exit.Irq) = Some pending.Irq
waits_by g vid before cmd (answer.Exit (exit.Hcall n)) = Some (pending.Hcall n)
waits_by g vid before cmd a = None

-- whether this vCPU is the one whose step it is
abbrev pub is_vcpu : ℕ → ℕ → Option Run → Bool
is_vcpu lpid vid None = false
is_vcpu lpid vid (Some run) = (run.lpid == lpid) && (run.vid == vid)

-- the state that a step gives a vCPU, by the guest and the selected vCPU that it finds: it runs where UV_RETURN or h.enter takes it up, is Idle where UV_WRITE_PATE ends its guest, and is parked where it leaves to wait; None where the step gives it none
abbrev pub state_given : GuestPart → ℕ → ℕ → ℕ → ℕ → ℕ → Ctx → Cmd → Answer → Option VState
state_given g lpid vid selected_lpid selected_vid cpu ctx.Hv (UReturn r0 r2 outs) answer.Enter = if (selected_lpid == lpid) && (selected_vid == vid) then Some (Running cpu) else None
state_given g lpid vid selected_lpid selected_vid cpu ctx.Hv (HEnter named entered value) answer.Enter = if (named == lpid) && (entered == vid) then Some (Running cpu) else None
state_given g lpid vid selected_lpid selected_vid cpu ctx.Hv (UPate named dw0 dw1) (answer.Ret code) = if (named == lpid) && ends_guest code dw1 then Some Idle else None
state_given g lpid vid selected_lpid selected_vid cpu before cmd a = if is_vcpu lpid vid (vcpu_in before) then option_map Parked (waits_by g vid before cmd a) else None

-- the state of a vCPU after an entry: the one that its step gives it, and else as it was
abbrev pub state_by : Plan → GuestPart → Event → ℕ → ℕ → VState
state_by plan g e lpid vid = unwrap_or (state_given g lpid vid e.saw.lpid e.saw.vid e.trace.cpu e.saw.before e.trace.cmd e.trace.answer) (g.vcpus vid).state

-- the generation in which a vCPU was taken up, as a step gives it: the guest's where UV_RETURN or h.enter takes it up, and 0 where UV_WRITE_PATE ends its guest; None where the step gives it none
abbrev pub taken_given : GuestPart → ℕ → ℕ → ℕ → ℕ → Ctx → Cmd → Answer → Option ℕ
taken_given g lpid vid selected_lpid selected_vid ctx.Hv (UReturn r0 r2 outs) answer.Enter = if (selected_lpid == lpid) && (selected_vid == vid) then Some g.generation else None
taken_given g lpid vid selected_lpid selected_vid ctx.Hv (HEnter named entered value) answer.Enter = if (named == lpid) && (entered == vid) then Some g.generation else None
taken_given g lpid vid selected_lpid selected_vid ctx.Hv (UPate named dw0 dw1) (answer.Ret code) = if (named == lpid) && ends_guest code dw1 then Some 0 else None
taken_given g lpid vid selected_lpid selected_vid before cmd a = None

-- the generation in which a vCPU was last taken up, after an entry
abbrev pub taken_by : Plan → GuestPart → Event → ℕ → ℕ → ℕ
taken_by plan g e lpid vid = unwrap_or (taken_given g lpid vid e.saw.lpid e.saw.vid e.saw.before e.trace.cmd e.trace.answer) (g.vcpus vid).generation

-- the state of a guest's vCPU after a history
abbrev pub state_after : Plan → List Event → ℕ → ℕ → VState
state_after plan past lpid vid = ((guest_after plan lpid past).part.vcpus vid).state

-- the generation in which a guest's vCPU was last taken up
abbrev pub taken_in : Plan → List Event → ℕ → ℕ → ℕ
taken_in plan past lpid vid = ((guest_after plan lpid past).part.vcpus vid).generation

-- what an entry makes of a guest's vCPU
pub record LeavesVcpu (plan : Plan) (past : List Event) (e : Event) (lpid vid : ℕ) : Type 0 where
  pub state : state_after plan (e ∷ past) lpid vid ≡ state_by plan (guest_after plan lpid past).part e lpid vid
  pub generation : taken_in plan (e ∷ past) lpid vid ≡ taken_by plan (guest_after plan lpid past).part e lpid vid

abbrev pub EachEntryLeavesStates : Type 0
EachEntryLeavesStates = (plan : Plan) (past : List Event) (e : Event) (lpid vid : ℕ) → Extends plan past e → LeavesVcpu plan past e lpid vid

-- how a guest lives: its phase, its generation, its partition entry
pub record Life : Type 0 where
  pub phase : Phase
  pub generation : ℕ
  pub entry : PartitionEntry

-- that of a guest's public part
abbrev pub life_of : GuestPart → Life
life_of g = record { phase = g.phase; generation = g.generation; entry = g.entry }

-- that of a guest whose partition entry is set: with a page it is in normal memory, and with none it is Absent, in another generation
abbrev pub life_written : GuestPart → PartitionEntry → Life
life_written g entry = if entry.length_ == 0 then record { phase = Absent; generation = g.generation + 1; entry = entry } else record { phase = Normal; generation = g.generation; entry = entry }

-- how a guest lives after a step, by the guest that it finds: UV_WRITE_PATE that is accepted sets its partition entry, and every other step leaves all three
abbrev pub life_given : GuestPart → ℕ → Ctx → Cmd → Answer → Life
life_given g lpid ctx.Hv (UPate named dw0 dw1) (answer.Ret USuccess) = if named == lpid then life_written g (record { base = dw0; length_ = dw1 }) else life_of g
life_given g lpid before cmd a = life_of g

abbrev pub EachEntryLeavesLives : Type 0
EachEntryLeavesLives =
    (plan : Plan) (past : List Event) (e : Event) (lpid : ℕ) → Extends plan past e →
    life_of (guest_after plan lpid (e ∷ past)).part ≡ life_given (guest_after plan lpid past).part lpid e.saw.before e.trace.cmd e.trace.answer

-- a guest's slots after a step, by the guest that it finds: UV_REGISTER_MEM_SLOT that is accepted puts one behind them, UV_UNREGISTER_MEM_SLOT takes one out, and every other step leaves them
abbrev pub slots_given : Plan → GuestPart → ℕ → Ctx → Cmd → Answer → List Slot
slots_given plan g lpid ctx.Hv (URegslot named start size flags id) (answer.Ret USuccess) = if named == lpid then g.slots ++ slot_asked plan start size id ∷ [] else g.slots
slots_given plan g lpid ctx.Hv (UUnregslot named id) (answer.Ret USuccess) = if named == lpid then without g.slots id else g.slots
slots_given plan g lpid before cmd a = g.slots

abbrev pub EachEntryLeavesSlots : Type 0
EachEntryLeavesSlots =
    (plan : Plan) (past : List Event) (e : Event) (lpid : ℕ) → Extends plan past e →
    (guest_after plan lpid (e ∷ past)).part.slots ≡ slots_given plan (guest_after plan lpid past).part lpid e.saw.before e.trace.cmd e.trace.answer
