-- The machine as its clauses see it, and what its type keeps.
use Rattle.std.specs.Prelude.{◌≡◌, ℕ, ◌+◌, ◌-◌, ◌^◌, ◌==◌, ◌<◌, ◌≤◌, nat_lt, true, if◌then◌else◌, List, ◌++◌, length, Option, Some, None, slice_get}
use Rattle.std.specs.List.{count_by, flat_map}
use Rattle.pef_model.specs.declared.state.Way.TheVariants as way
use Rattle.pef_model.specs.declared.state.Mover.{Mover}
use Rattle.pef_model.specs.declared.state.Move.{Move}
use Rattle.pef_model.specs.declared.state.Run.{Run}
use Rattle.pef_model.specs.declared.state.Work.TheVariants.{Inward, Outward}
use Rattle.pef_model.specs.declared.state.Ctx.{Ctx}
use Rattle.pef_model.specs.declared.state.Ctx.TheVariants as ctx
use Rattle.pef_model.specs.Target.{caller}
use Rattle.pef_frames.specs.Frame.{numbers_of}
use Rattle.pef_frames.specs.Pool.{PoolState}
use Rattle.pef_pages.specs.Pages.{mover_at, held}
use Rattle.pef_guest.specs.declared.cpu.Cpu.{Cpu}
use Rattle.pef_guest.specs.declared.guest.Guest.{Guest}
use Rattle.pef_guest.specs.Whole.{IsWhole}
use Rattle.pef_guest.specs.Ready.{may_run_in}
use Rattle.pef_core.specs.Normal.{NormalState}

-- the CPUs from number 0 on, the guests from number 1 on, how many vCPUs each has, the free secure frames, the normal frames, the number of steps so far
pub record State (S : Type 0) : Type 0 where
  pub cpus : List Cpu
  pub guests : List (Guest S)
  pub vcpus : ℕ
  pub pool : PoolState
  pub normal : NormalState
  pub steps : ℕ

-- a guest by its number
abbrev pub guest_at : {S : Type 0} → List (Guest S) → ℕ → Option (Guest S)
guest_at guests lpid = slice_get guests (lpid - 1)

-- a guest has a vCPU of this number
abbrev pub HasVcpu : {S : Type 0} → Option (Guest S) → ℕ → Type 0
HasVcpu None vid = ⊥
HasVcpu (Some guest) vid = vid < length guest.vcpus.items

-- a guest and a vCPU of it, by their numbers
pub record IsVcpu {S : Type 0} (guests : List (Guest S)) (lpid vid : ℕ) : Type 0 where
  pub least : 1 ≤ lpid
  pub has : HasVcpu (guest_at guests lpid) vid

-- a generation is none that a guest has yet to come to, and where the guest is still in it, its phase lets a vCPU run
abbrev pub MayRun : {S : Type 0} → Option (Guest S) → ℕ → Type 0
MayRun None generation = ⊥
MayRun (Some guest) generation = (generation ≤ guest.generation) × (generation ≡ guest.generation → may_run_in guest.phase ≡ true)

-- a generation is none that a guest has yet to come to, and where the guest is still in it, this CPU moves its page of this number this way
abbrev pub MovesPage : {S : Type 0} → Option (Guest S) → ℕ → ℕ → Mover → Type 0
MovesPage None generation gfn mover = ⊥
MovesPage (Some guest) generation gfn mover = (generation ≤ guest.generation) × (generation ≡ guest.generation → mover_at guest.pages gfn ≡ Some mover)

-- a move of a CPU is one of a page of the machine, from or into one of its normal frames
pub record IsMoveOf {S : Type 0} (guests : List (Guest S)) (normal : NormalState) (mover : Mover) (move : Move) : Type 0 where
  pub least : 1 ≤ move.lpid
  pub moves : MovesPage (guest_at guests move.lpid) move.generation move.gfn mover
  pub frame : move.frame < length normal.frames

-- a vCPU that runs, or whose call is in progress, is one of the machine, and may run
abbrev pub Runs : {S : Type 0} → List (Guest S) → Option Run → Type 0
Runs guests None = Unit {0}
Runs guests (Some run) = IsVcpu guests run.lpid run.vid × MayRun (guest_at guests run.lpid) run.generation

-- what a CPU runs is a vCPU of the machine, and so is one whose call is in progress; what it moves is a page
abbrev pub Works : {S : Type 0} → List (Guest S) → NormalState → ℕ → Ctx → Type 0
Works guests normal n ctx.Hv = Unit {0}
Works guests normal n (ctx.Uv (Inward move)) = IsMoveOf guests normal (record { cpu = n; way = way.Inward }) move
Works guests normal n (ctx.Uv (Outward move)) = IsMoveOf guests normal (record { cpu = n; way = way.Outward }) move
Works guests normal n (ctx.Uv work) = Runs guests (caller work)
Works guests normal n (ctx.Guest run) = Runs guests (Some run)

-- a CPU has its number and a hand of one page, selects and runs vCPUs of the machine, and moves its pages
pub record IsCpuOf {S : Type 0} (guests : List (Guest S)) (normal : NormalState) (n : ℕ) (cpu : Cpu) : Type 0 where
  pub number : cpu.number ≡ n
  pub selects : IsVcpu guests cpu.lpid cpu.vid
  pub works : Works guests normal n cpu.ctx
  pub hand : length cpu.hand ≡ 2 ^ normal.shift

-- a guest is whole, has its number and the machine's sizes, and no more steps than the machine
pub record IsGuestOf {S : Type 0} (takes : S → ℕ → ℕ → Type 0) (m : State S) (i : ℕ) (guest : Guest S) : Type 0 where
  pub whole : IsWhole takes guest
  pub lpid : guest.lpid ≡ i + 1
  pub shift : guest.shift ≡ m.normal.shift
  pub normal : guest.normal ≡ length m.normal.frames
  pub secure : guest.secure ≡ m.pool.count
  pub vcpus : length guest.vcpus.items ≡ m.vcpus
  pub steps : guest.steps ≤ m.steps

-- the numbers of the free secure frames, and of those in all pages
abbrev pub secure_frames : {S : Type 0} → State S → List ℕ
secure_frames m = m.pool.free ++ flat_map (λ guest. numbers_of (held guest.pages)) m.guests

-- each secure frame is in exactly one place
abbrev pub FramesOnce : {S : Type 0} → State S → Type 0
FramesOnce m = (number : ℕ) → count_by (λ n. n == number) (secure_frames m) ≡ (if nat_lt number m.pool.count then 1 else 0)

-- each element of a list, with its place from 0
abbrev pub Each : {X : Type 0} → (ℕ → X → Type 0) → List X → Type 0
Each {X = X} P xs = (n : ℕ) (x : X) → slice_get xs n ≡ Some x → P n x

-- a machine is whole
pub record IsWholeMachine {S : Type 0} (takes : S → ℕ → ℕ → Type 0) (m : State S) : Type 0 where
  pub cpus : Each (IsCpuOf m.guests m.normal) m.cpus
  pub guests : Each (IsGuestOf takes m) m.guests
  pub few : length m.guests < 2 ^ 16
  pub size : m.pool.size ≡ 2 ^ m.normal.shift
  pub frames_once : FramesOnce m

-- there is a CPU of this number, and it is in this context
pub record HasContext (cpus : List Cpu) (n : ℕ) (context : Ctx) : Type 0 where
  pub below : n < length cpus
  pub is : (cpu : Cpu) → slice_get cpus n ≡ Some cpu → cpu.ctx ≡ context

-- a step of the machine is counted already, and not yet one of its guests
pub record HasSteps {S : Type 0} (m : State S) : Type 0 where
  pub few : m.steps ≤ 2 ^ 63
  pub fewer : Each (λ i guest. guest.steps < m.steps) m.guests
