-- What a step at a guest is lent beside the guest and its CPU.
use Rattle.std.specs.Prelude.{◌≡◌, ℕ, ◌^◌, ◌==◌, if◌then◌else◌, Bool, true, false, List, [], ◌∷◌, length, slice_index, Option, Some, None, ◌⊎◌}
use Rattle.std.proofs.Common.{inl, inr}
use Rattle.std.specs.Borrow.{MutBor}
use Rattle.pef_model.specs.declared.state.Work.TheVariants.{Inward, Outward}
use Rattle.pef_model.specs.declared.state.Ctx.{Ctx}
use Rattle.pef_model.specs.declared.state.Ctx.TheVariants as ctx
use Rattle.pef_model.specs.declared.state.Tag.{Tag}
use Rattle.pef_model.specs.declared.command.Cmd.{Cmd}
use Rattle.pef_model.specs.declared.command.Cmd.TheVariants.{UPagein, UPageout, UInval, GLd, GSt}
use Rattle.pef_model.specs.Plan.{Plan}
use Rattle.pef_model.specs.Event.{Mark}
use Rattle.pef_model.specs.Target.{touches_pool}
use Rattle.pef_model.specs.Cpu.{CpuPart}
use Rattle.pef_model.specs.Guest.{Guest as GuestWhole}
use Rattle.pef_model.specs.Clash.{clashes}
use Rattle.pef_model.specs.Memory.{write_in, after_writes}
use Rattle.pef_model.specs.Seal.{doublewords}
use Rattle.pef_model.specs.declared.entry.Answer.{Answer}
use Rattle.pef_frames.specs.Pool.{PoolState}
use Rattle.pef_guest.specs.declared.cpu.Cpu.{Cpu}
use Rattle.pef_guest.specs.declared.guest.Guest.{Guest}
use Rattle.pef_guest.specs.Shows.{ShowsCpu, vcpu_at, Shows}
use Rattle.pef_guest.specs.Ready.{IsReadyPool}
use Rattle.pef_guest.specs.Does.{NormalPart, entry_at_guest}
use Rattle.pef_move.specs.Route.{are_right_in}
use Rattle.pef_move.specs.PageIn.{IsRefusedIn}
use Rattle.pef_access.specs.Access.{asks_at, through_at}
use Rattle.pef_core.specs.declared.lent.Want.{Want}
use Rattle.pef_core.specs.declared.lent.Want.TheVariants as want
use Rattle.pef_core.specs.declared.lent.Inner.{Inner}
use Rattle.pef_core.specs.declared.lent.Inner.TheVariants.{Nothing, Pool, Frame}

-- whether a step needs the pool
abbrev pub is_pool : Want → Bool
is_pool want.Nothing = false
is_pool want.Pool = true
is_pool (want.Frame n) = false

-- the normal frame that a step needs, by its number
abbrev pub frame_wanted : Want → Option ℕ
frame_wanted want.Nothing = None
frame_wanted want.Pool = None
frame_wanted (want.Frame n) = Some n

-- whether a call of the hypervisor is for a page
abbrev pub is_page_call : Cmd → Bool
is_page_call (UPagein lpid src gpa flags order) = true
is_page_call (UPageout lpid dest gpa flags order) = true
is_page_call (UInval lpid gpa order) = true
is_page_call cmd = false

-- whether a call of the hypervisor asks for a free frame: UV_PAGE_IN does, where its operands are right
abbrev pub call_asks : {S : Type 0} → Guest S → Cmd → Bool
call_asks guest (UPagein lpid src gpa flags order) = are_right_in guest (record { lpid = lpid; ra = src; gpa = gpa; flags = flags; order = order })
call_asks guest cmd = false

-- whether a command of a vCPU does: a load or store, where its page is Invalid
abbrev pub command_asks : {S : Type 0} → Guest S → Cmd → Bool
command_asks guest (GLd rd gpa) = asks_at guest gpa
command_asks guest (GSt rs gpa) = asks_at guest gpa
command_asks guest cmd = false

-- the normal frame into which a command of a vCPU goes: a load or store of a guest in normal memory, through its partition entry
abbrev pub command_goes : {S : Type 0} → Guest S → Cmd → Option ℕ
command_goes guest (GLd rd gpa) = through_at guest gpa
command_goes guest (GSt rs gpa) = through_at guest gpa
command_goes guest cmd = None

-- by the context: the normal frame that a step at a guest touches
abbrev pub frame_needed : {S : Type 0} → Guest S → Ctx → Cmd → Option ℕ
frame_needed guest (ctx.Guest run) cmd = if run.generation == guest.generation then command_goes guest cmd else None
frame_needed guest before cmd = None

-- by the context: a step at a guest takes a free frame or gives one back, or would if one were free
abbrev pub WantsPool : {S : Type 0} → Guest S → Cpu → Ctx → Cmd → Type 0
WantsPool guest cpu ctx.Hv cmd = call_asks guest cmd ≡ true
WantsPool guest cpu (ctx.Uv (Inward move)) cmd = IsRefusedIn guest cpu.hand move
WantsPool guest cpu (ctx.Uv (Outward move)) cmd = move.generation ≡ guest.generation
WantsPool guest cpu (ctx.Uv work) cmd = ⊥
WantsPool guest cpu (ctx.Guest run) cmd = (run.generation ≡ guest.generation) × (command_asks guest cmd ≡ true)

-- a step at a guest touches the pool exactly where this says so, whatever guest and CPU of the model are shown, unless it is a digest collision
abbrev pub TouchesPool : {S : Type 0} → (S → Tag → List ℕ → List ℕ → Type 0) → (S → Tag → List ℕ → List ℕ) → Guest S → Cpu → Cmd → Bool → Type 0
TouchesPool stands image guest cpu cmd touched =
    (plan : Plan) (g : GuestWhole) (found : ℕ → ℕ → ℕ) (any : Bool) (c : CpuPart) (mark : Mark) → Shows stands image plan guest g → ShowsCpu cpu c →
    clashes g.part (entry_at_guest plan g found any c mark cmd) ≡ false → touches_pool (entry_at_guest plan g found any c mark cmd) ≡ touched

-- a step at a guest touches this normal frame, or none, whatever guest and CPU of the model are shown
abbrev pub TouchesFrame : {S : Type 0} → (S → Tag → List ℕ → List ℕ → Type 0) → (S → Tag → List ℕ → List ℕ) → Guest S → Cpu → Cmd → Option ℕ → Type 0
TouchesFrame stands image guest cpu cmd touched =
    (plan : Plan) (g : GuestWhole) (found : ℕ → ℕ → ℕ) (any : Bool) (c : CpuPart) (mark : Mark) → Shows stands image plan guest g → ShowsCpu cpu c → (entry_at_guest plan g found any c mark cmd).saw.frame ≡ touched

-- a step at a guest touches beside it what it needs, and nothing else: its entry tells of the pool exactly where it needs the pool, and of the frame that it needs
abbrev pub Touches : {S : Type 0} → (S → Tag → List ℕ → List ℕ → Type 0) → (S → Tag → List ℕ → List ℕ) → Guest S → Cpu → Cmd → Want → Type 0
Touches stands image guest cpu cmd wanted =
    (plan : Plan) (g : GuestWhole) (found : ℕ → ℕ → ℕ) (any : Bool) (c : CpuPart) (mark : Mark) → Shows stands image plan guest g → ShowsCpu cpu c →
    clashes g.part (entry_at_guest plan g found any c mark cmd) ≡ false →
    (touches_pool (entry_at_guest plan g found any c mark cmd) ≡ is_pool wanted) × ((entry_at_guest plan g found any c mark cmd).saw.frame ≡ frame_wanted wanted)

-- the pool before the step: the one that is lent, or else any
abbrev pub pool_of : PoolState → Inner → PoolState
pool_of pool Nothing = pool
pool_of pool (Pool p) = p.now
pool_of pool (Frame number f) = pool

-- what is lent, at the return
abbrev pub Left : Type 0
Left = Unit {0} ⊎ ((MutBor PoolState × Unit {0}) ⊎ ((ℕ × (MutBor (List ℕ) × Unit {0})) ⊎ ⊥))

-- the pool after the step
abbrev pub pool_left : PoolState → Left → PoolState
pool_left pool (inl u) = pool
pool_left pool (inr (inl p)) = p.0.now
pool_left pool (inr (inr f)) = pool

-- the normal frame before the step, and its bytes after it, where one is lent
abbrev pub frame_of : Inner → Option NormalPart
frame_of Nothing = None
frame_of (Pool p) = None
frame_of (Frame number f) = Some (record { number = number; bytes = f.now })

abbrev pub frame_left : Left → List ℕ
frame_left (inl u) = []
frame_left (inr (inl p)) = []
frame_left (inr (inr (inl f))) = f.1.0.now
frame_left (inr (inr (inr f))) = []

-- the bytes that a command of a vCPU writes into a normal frame: those of a store's register
abbrev pub bytes_stored : {S : Type 0} → Guest S → Ctx → Cmd → List ℕ
bytes_stored guest (ctx.Guest run) (GSt rs gpa) = doublewords (slice_index (vcpu_at guest run.vid).regs.gpr rs ∷ [])
bytes_stored guest before cmd = []

-- a step at a guest leaves in the normal frame that it is lent what the definitions say of such an entry with these bytes
pub record LeavesIn {S : Type 0} (guest : Guest S) (cpu : Cpu) (cmd : Cmd) (a : Answer) (frame : NormalPart) (left : List ℕ) : Type 0 where
  pub size : length left ≡ length frame.bytes
  pub written : left ≡ after_writes frame.number frame.bytes (write_in guest.shift cpu.ctx cmd a (bytes_stored guest cpu.ctx cmd) frame.number)

-- the same of a step that may be lent none
abbrev pub LeavesLent : {S : Type 0} → Guest S → Cpu → Cmd → Answer → Option NormalPart → List ℕ → Type 0
LeavesLent guest cpu cmd a None left = Unit {0}
LeavesLent guest cpu cmd a (Some frame) left = LeavesIn guest cpu cmd a frame left

-- a step is lent what it needs: the pool in the state in which it needs it, or the normal frame that it touches
abbrev pub IsLent : {S : Type 0} → Guest S → Cpu → Cmd → Inner → Type 0
IsLent guest cpu cmd Nothing = (WantsPool guest cpu cpu.ctx cmd → ⊥) × (frame_needed guest cpu.ctx cmd ≡ None)
IsLent guest cpu cmd (Pool p) = WantsPool guest cpu cpu.ctx cmd × IsReadyPool guest cpu p.now
IsLent guest cpu cmd (Frame number f) = (frame_needed guest cpu.ctx cmd ≡ Some number) × (length f.now ≡ 2 ^ guest.shift)
