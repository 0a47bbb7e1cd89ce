-- What a refused step leaves as it is.
use Rattle.std.specs.Prelude.{◌≡◌, ◌≢◌, ℕ, ◌+◌, ◌%◌, ◌^◌, true, false, List, Some, slice_index}
use Rattle.pef_model.specs.declared.state.Move.{Move}
use Rattle.pef_model.specs.declared.state.Work.TheVariants.{Inward}
use Rattle.pef_model.specs.declared.state.Ctx.{Ctx}
use Rattle.pef_model.specs.declared.state.Ctx.TheVariants as ctx
use Rattle.pef_model.specs.declared.command.Code.{Code}
use Rattle.pef_model.specs.declared.command.Code.TheVariants.{UParameter, UP2}
use Rattle.pef_model.specs.declared.command.Cmd.{Cmd}
use Rattle.pef_model.specs.declared.entry.Answer.{Answer}
use Rattle.pef_model.specs.declared.entry.Answer.TheVariants as answer
use Rattle.pef_model.specs.Registers.{number_of, with_code, zero_registers}
use Rattle.pef_frames.specs.Frame.{FrameState}
use Rattle.pef_frames.specs.Pool.{PoolState, with_free}
use Rattle.pef_pages.specs.Pages.{frame_at, kind_at, digest_at, ended_in}
use Rattle.pef_regs.specs.Loads.{LoadsCall}
use Rattle.pef_guest.specs.declared.cpu.Cpu.{Cpu}
use Rattle.pef_regs.specs.declared.vcpu.Vcpu.{Vcpu}
use Rattle.pef_guest.specs.declared.guest.Guest.{Guest}
use Rattle.pef_guest.specs.Shows.{vcpu_at}
use Rattle.pef_guest.specs.Aims.{is_refusal}

-- a call came back with a code in R3, and changed no register but those that it loads
pub record ComesBack (old new : List ℕ) (code : Code) : Type 0 where
  pub given : slice_index new 3 ≡ number_of code
  pub rest : LoadsCall old new

-- a refused call of the hypervisor changes of its CPU what the call loads, and the last answer
pub record RefusesCpu (old new : Cpu) (code : Code) : Type 0 where
  pub number : new.number ≡ old.number
  pub ctx : new.ctx ≡ old.ctx
  pub lpid : new.lpid ≡ old.lpid
  pub vid : new.vid ≡ old.vid
  pub hand : new.hand ≡ old.hand
  pub gpr : ComesBack old.gpr new.gpr code
  pub last : new.last ≡ answer.Ret code

-- a call in progress that comes back with a code changes of its CPU the context, R3 and the last answer
abbrev pub BackWith : Cpu → Cpu → Code → Type 0
BackWith old new code = new ≡ record old { ctx = ctx.Hv; gpr = with_code old.gpr code; last = answer.Ret code }

-- a CPU whose guest has ended shows nothing of it: its registers are zero, and of the rest the last answer and the context change
abbrev pub IsGone : Cpu → Cpu → Type 0
IsGone old new = new ≡ record old { ctx = ctx.Hv; gpr = zero_registers; last = answer.Gone }

-- a guest is as it was, but for its vCPUs and its count of steps
pub record SameButVcpus {S : Type 0} (old new : Guest S) : Type 0 where
  pub lpid : new.lpid ≡ old.lpid
  pub shift : new.shift ≡ old.shift
  pub normal : new.normal ≡ old.normal
  pub secure : new.secure ≡ old.secure
  pub phase : new.phase ≡ old.phase
  pub generation : new.generation ≡ old.generation
  pub entry : new.entry ≡ old.entry
  pub slots : new.slots ≡ old.slots
  pub words : new.words ≡ old.words
  pub pages : new.pages ≡ old.pages
  pub sealer : new.sealer ≡ old.sealer

-- a guest is as it was, but for its count of steps
pub record SameGuest {S : Type 0} (old new : Guest S) : Type 0 where
  pub rest : SameButVcpus old new
  pub vcpus : new.vcpus.items ≡ old.vcpus.items

-- a refused call of a guest changes of its vCPU what the call loads, and goes on to the next instruction
pub record RefusesVcpu (old new : Vcpu) (code : Code) : Type 0 where
  pub state : new.state ≡ old.state
  pub generation : new.generation ≡ old.generation
  pub gpr : ComesBack old.regs.gpr new.regs.gpr code
  pub nip : new.regs.nip ≡ (old.regs.nip + 4) % 2 ^ 64
  pub srr0 : new.regs.srr0 ≡ old.regs.srr0

-- a guest whose call was refused: of one vCPU what the call loads changes
pub record RefusesGuest {S : Type 0} (vid : ℕ) (old new : Guest S) (code : Code) : Type 0 where
  pub rest : SameButVcpus old new
  pub vcpu : RefusesVcpu (vcpu_at old vid) (vcpu_at new vid) code
  pub others : (k : ℕ) → k ≢ vid → vcpu_at new k ≡ vcpu_at old k

-- a page that was refused as it came in is at rest as it was, with the digest that it kept, and its frame is free
pub record PutsBack {S : Type 0} (move : Move) (old new : Guest S) (pool pool_new : PoolState) : Type 0 where
  pub frame : FrameState
  pub there : frame_at old.pages move.gfn ≡ Some frame
  pub pool_is : pool_new ≡ with_free pool frame.number
  pub pages : new.pages ≡ ended_in old.pages move.gfn false
  pub kind_is : kind_at new.pages move.gfn ≡ kind_at old.pages move.gfn
  pub digest : digest_at new.pages move.gfn ≡ digest_at old.pages move.gfn
  pub sealer : new.sealer ≡ old.sealer

-- the guest and the pool are as they were, but for a count of steps
abbrev pub ChangesNothing : {S : Type 0} → Guest S → Guest S → PoolState → PoolState → Type 0
ChangesNothing old new pool pool_new = SameGuest old new × (pool_new ≡ pool)

-- what a refused step at a guest leaves, by the context in which it came, and its answer
abbrev pub Refuses : {S : Type 0} → Ctx → Cmd → Guest S → Guest S → Cpu → Cpu → PoolState → PoolState → Answer → Type 0
Refuses ctx.Hv cmd old new cpu cpu_new pool pool_new (answer.Ret code) = is_refusal cmd code ≡ true → RefusesCpu cpu cpu_new code × ChangesNothing old new pool pool_new
Refuses (ctx.Uv work) cmd old new cpu cpu_new pool pool_new (answer.Ret UParameter) = BackWith cpu cpu_new UParameter × ChangesNothing old new pool pool_new
Refuses (ctx.Uv (Inward move)) cmd old new cpu cpu_new pool pool_new (answer.Ret UP2) = BackWith cpu cpu_new UP2 × PutsBack move old new pool pool_new
Refuses (ctx.Guest run) cmd old new cpu cpu_new pool pool_new (answer.Ret code) = is_refusal cmd code ≡ true → RefusesGuest run.vid old new code × (cpu_new ≡ cpu) × (pool_new ≡ pool)
Refuses (ctx.Guest run) cmd old new cpu cpu_new pool pool_new answer.Hole = (cpu_new ≡ cpu) × ChangesNothing old new pool pool_new
Refuses (ctx.Guest run) cmd old new cpu cpu_new pool pool_new answer.Again = (cpu_new ≡ cpu) × ChangesNothing old new pool pool_new
Refuses (ctx.Guest run) cmd old new cpu cpu_new pool pool_new answer.Gone = IsGone cpu cpu_new × ChangesNothing old new pool pool_new
Refuses ctx.Hv cmd old new cpu cpu_new pool pool_new answer.Hole = ⊥
Refuses before cmd old new cpu cpu_new pool pool_new answer.Context = ⊥
Refuses before cmd old new cpu cpu_new pool pool_new other = Unit {0}
