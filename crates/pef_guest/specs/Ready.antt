-- What a step at a guest needs, and what its CPU does after it.
use Rattle.std.specs.Prelude.{◌≡◌, ℕ, ◌^◌, ◌<◌, Bool, true, false, length, Option, Some, None, ◌⊎◌}
use Rattle.pef_model.specs.declared.state.Phase.{Phase}
use Rattle.pef_model.specs.declared.state.Phase.TheVariants as phase
use Rattle.pef_model.specs.declared.state.Way.{Way}
use Rattle.pef_model.specs.declared.state.Way.TheVariants as way
use Rattle.pef_model.specs.declared.state.Move.{Move}
use Rattle.pef_model.specs.declared.state.Run.{Run}
use Rattle.pef_model.specs.declared.state.Work.TheVariants.{Inward, Outward}
use Rattle.pef_model.specs.declared.state.Ctx.{Ctx}
use Rattle.pef_model.specs.declared.state.Ctx.TheVariants as ctx
use Rattle.pef_model.specs.declared.command.Cmd.{Cmd}
use Rattle.pef_model.specs.Target.{caller}
use Rattle.pef_frames.specs.Pool.{PoolState}
use Rattle.pef_pages.specs.Pages.{mover_at}
use Rattle.pef_guest.specs.declared.cpu.Cpu.{Cpu}
use Rattle.pef_guest.specs.declared.guest.Guest.{Guest}
use Rattle.pef_guest.specs.Whole.{IsWhole}
use Rattle.pef_guest.specs.Keeps.{IsPoolOf}
use Rattle.pef_guest.specs.Aims.{guest_aimed}

-- whether a vCPU runs in this phase: one in normal memory does, and one that is secure or is to be
abbrev pub may_run_in : Phase → Bool
may_run_in phase.Absent = false
may_run_in phase.Normal = true
may_run_in phase.Starting = true
may_run_in phase.Secure = true
may_run_in phase.Aborting = false

-- a page of a guest is moved by a CPU this way
abbrev pub IsMovedBy : {S : Type 0} → Guest S → Cpu → Way → ℕ → Type 0
IsMovedBy guest cpu heading gfn = mover_at guest.pages gfn ≡ Some (record { cpu = cpu.number; way = heading })

-- a page whose move is of the guest's generation is moved by the CPU
abbrev pub MayEnd : {S : Type 0} → Guest S → Cpu → Way → Move → Type 0
MayEnd guest cpu heading move = move.generation ≡ guest.generation → IsMovedBy guest cpu heading move.gfn

-- the pool has room for the frame of a page whose move is of the guest's generation
abbrev pub HasRoomFor : {S : Type 0} → Guest S → PoolState → Move → Type 0
HasRoomFor guest pool move = move.generation ≡ guest.generation → length pool.free < pool.count

-- a vCPU that runs, or whose call is in progress, is one of the guest's, and its phase lets it run
abbrev pub MayRun : {S : Type 0} → Guest S → Option Run → Type 0
MayRun guest None = Unit {0}
MayRun guest (Some run) = (run.vid < length guest.vcpus.items) × (run.generation ≡ guest.generation → may_run_in guest.phase ≡ true)

-- by the context: a move may end; a vCPU may run, or go on with its call; one that is selected is one of the guest's
abbrev pub ReadyIn : {S : Type 0} → Guest S → Cpu → Ctx → Type 0
ReadyIn guest cpu ctx.Hv = cpu.lpid ≡ guest.lpid → cpu.vid < length guest.vcpus.items
ReadyIn guest cpu (ctx.Uv (Inward move)) = MayEnd guest cpu way.Inward move
ReadyIn guest cpu (ctx.Uv (Outward move)) = MayEnd guest cpu way.Outward move
ReadyIn guest cpu (ctx.Uv work) = MayRun guest (caller work)
ReadyIn guest cpu (ctx.Guest run) = MayRun guest (Some run)

-- a CPU runs a vCPU of a guest, in its generation, and its phase lets it run
pub record IsRunning {S : Type 0} (cpu : Cpu) (guest : Guest S) (run : Run) : Type 0 where
  pub ctx : cpu.ctx ≡ ctx.Guest run
  pub lpid : run.lpid ≡ guest.lpid
  pub generation : run.generation ≡ guest.generation
  pub vid : run.vid < length guest.vcpus.items
  pub phase : may_run_in guest.phase ≡ true

-- what every step at a guest needs of it and of its CPU
pub record IsReadyFor {S : Type 0} (takes : S → ℕ → ℕ → Type 0) (cmd : Cmd) (guest : Guest S) (cpu : Cpu) : Type 0 where
  pub aims : guest_aimed cpu.ctx cpu.lpid cmd ≡ Some guest.lpid
  pub whole : IsWhole takes guest
  pub hand : length cpu.hand ≡ 2 ^ guest.shift
  pub works : ReadyIn guest cpu cpu.ctx
  pub steps : guest.steps < 2 ^ 63

-- by the context: the pool has room for the frame that a move gives back
abbrev pub RoomIn : {S : Type 0} → Guest S → PoolState → Ctx → Type 0
RoomIn guest pool (ctx.Uv (Inward move)) = HasRoomFor guest pool move
RoomIn guest pool (ctx.Uv (Outward move)) = HasRoomFor guest pool move
RoomIn guest pool before = Unit {0}

-- what a step at a guest needs of the pool that it is lent
pub record IsReadyPool {S : Type 0} (guest : Guest S) (cpu : Cpu) (pool : PoolState) : Type 0 where
  pub pool_is : IsPoolOf guest pool
  pub room : RoomIn guest pool cpu.ctx

-- a page of the guest, in its generation, is moved by the CPU, from or into a normal frame of the machine
pub record MovesAt {S : Type 0} (guest : Guest S) (cpu : Cpu) (heading : Way) (move : Move) : Type 0 where
  pub lpid : move.lpid ≡ guest.lpid
  pub generation : move.generation ≡ guest.generation
  pub mover : IsMovedBy guest cpu heading move.gfn
  pub frame : move.frame < guest.normal

-- a vCPU that runs, or whose call is in progress, does so in the guest's generation, and its phase lets it
abbrev pub RunsAt : {S : Type 0} → Guest S → Option Run → Type 0
RunsAt guest None = Unit {0}
RunsAt guest (Some run) = (run.lpid ≡ guest.lpid) × (run.generation ≡ guest.generation) × (run.vid < length guest.vcpus.items) × (may_run_in guest.phase ≡ true)

-- what a CPU does after a step at a guest: the hypervisor runs, a page of the guest moves, or a vCPU of it runs or goes on with its call
abbrev pub WorksAt : {S : Type 0} → Guest S → Cpu → Ctx → Type 0
WorksAt guest cpu ctx.Hv = Unit {0}
WorksAt guest cpu (ctx.Uv (Inward move)) = MovesAt guest cpu way.Inward move
WorksAt guest cpu (ctx.Uv (Outward move)) = MovesAt guest cpu way.Outward move
WorksAt guest cpu (ctx.Uv work) = RunsAt guest (caller work)
WorksAt guest cpu (ctx.Guest run) = RunsAt guest (Some run)

-- what a step at a guest keeps of its CPU: its number, the size of its hand, and its selection, unless it selects a vCPU of the guest
pub record KeepsOwn {S : Type 0} (guest : Guest S) (old new : Cpu) : Type 0 where
  pub number : new.number ≡ old.number
  pub hand : length new.hand ≡ length old.hand
  pub selects : ((new.lpid ≡ old.lpid) × (new.vid ≡ old.vid)) ⊎ ((new.lpid ≡ guest.lpid) × (new.vid < length guest.vcpus.items))
