-- What a refused command leaves as it is.
use Rattle.std.specs.Prelude.{◌≡◌, ◌≢◌, ℕ, ◌-◌, true, List, Some, length, slice_get}
use Rattle.pef_model.specs.declared.state.Ctx.{Ctx}
use Rattle.pef_model.specs.declared.state.Ctx.TheVariants as ctx
use Rattle.pef_model.specs.declared.state.Move.{Move}
use Rattle.pef_model.specs.declared.state.Work.TheVariants.{Inward}
use Rattle.pef_model.specs.declared.command.Code.TheVariants.{UParameter, UP2}
use Rattle.pef_model.specs.declared.command.Cmd.{Cmd}
use Rattle.pef_model.specs.declared.entry.Answer.{Answer}
use Rattle.pef_model.specs.declared.entry.Answer.TheVariants as answer
use Rattle.pef_frames.specs.Pool.{PoolState}
use Rattle.pef_guest.specs.declared.cpu.Cpu.{Cpu}
use Rattle.pef_guest.specs.declared.guest.Guest.{Guest}
use Rattle.pef_guest.specs.Aims.{is_refusal}
use Rattle.pef_guest.specs.Refused.{RefusesCpu, BackWith, IsGone, SameGuest, RefusesGuest, PutsBack}
use Rattle.pef_guest.specs.Keeps.{KeepsGuest, KeepsLife}
use Rattle.pef_core.specs.Normal.{NormalState}
use Rattle.pef_core.specs.State.{State}

-- of a machine one CPU changes so, and nothing else but counts of steps
pub record OnCpu {S : Type 0} (n : ℕ) (P : Cpu → Cpu → Type 0) (cpus cpus_new : List Cpu) (guests guests_new : List (Guest S)) (pool pool_new : PoolState) (normal normal_new : NormalState) : Type 0 where
  pub cpu_count : length cpus_new ≡ length cpus
  pub cpu : (c d : Cpu) → slice_get cpus n ≡ Some c → slice_get cpus_new n ≡ Some d → P c d
  pub others : (k : ℕ) → k ≢ n → slice_get cpus_new k ≡ slice_get cpus k
  pub guest_count : length guests_new ≡ length guests
  pub guests_stay : (i : ℕ) (g h : Guest S) → slice_get guests i ≡ Some g → slice_get guests_new i ≡ Some h → SameGuest g h
  pub pool_stays : pool_new ≡ pool
  pub normal_stays : normal_new ≡ normal

-- of a machine one guest changes so, and nothing else but counts of steps
pub record OnGuest {S : Type 0} (i : ℕ) (P : Guest S → Guest S → Type 0) (cpus cpus_new : List Cpu) (guests guests_new : List (Guest S)) (pool pool_new : PoolState) (normal normal_new : NormalState) : Type 0 where
  pub cpus_stay : cpus_new ≡ cpus
  pub guest_count : length guests_new ≡ length guests
  pub guest : (g h : Guest S) → slice_get guests i ≡ Some g → slice_get guests_new i ≡ Some h → P g h
  pub others : (k : ℕ) → k ≢ i → slice_get guests_new k ≡ slice_get guests k
  pub pool_stays : pool_new ≡ pool
  pub normal_stays : normal_new ≡ normal

-- a guest to which a page didn't come back: the page is as it was before the move, and what no step changes stays
pub record RefusesPage {S : Type 0} (move : Move) (old new : Guest S) (pool pool_new : PoolState) : Type 0 where
  pub back : PutsBack move old new pool pool_new
  pub keeps : KeepsGuest old new
  pub life : KeepsLife old new

-- of a machine a page-in that is refused at its end changes its CPU, its guest and the pool, and nothing else but counts of steps
pub record OnMove {S : Type 0} (n : ℕ) (move : Move) (cpus cpus_new : List Cpu) (guests guests_new : List (Guest S)) (pool pool_new : PoolState) (normal normal_new : NormalState) : Type 0 where
  pub cpu_count : length cpus_new ≡ length cpus
  pub cpu : (c d : Cpu) → slice_get cpus n ≡ Some c → slice_get cpus_new n ≡ Some d → BackWith c d UP2
  pub other_cpus : (k : ℕ) → k ≢ n → slice_get cpus_new k ≡ slice_get cpus k
  pub guest_count : length guests_new ≡ length guests
  pub guest : (g h : Guest S) → slice_get guests (move.lpid - 1) ≡ Some g → slice_get guests_new (move.lpid - 1) ≡ Some h → RefusesPage move g h pool pool_new
  pub other_guests : (k : ℕ) → k ≢ move.lpid - 1 → slice_get guests_new k ≡ slice_get guests k
  pub normal_stays : normal_new ≡ normal

-- a step changes one CPU so, and nothing else of the machine but counts of steps
abbrev pub ChangesCpu : {S : Type 0} → ℕ → (Cpu → Cpu → Type 0) → State S → State S → Type 0
ChangesCpu n P old new = OnCpu n P old.cpus new.cpus old.guests new.guests old.pool new.pool old.normal new.normal

-- a step changes one guest so, and nothing else of the machine but counts of steps
abbrev pub ChangesGuest : {S : Type 0} → ℕ → (Guest S → Guest S → Type 0) → State S → State S → Type 0
ChangesGuest i P old new = OnGuest i P old.cpus new.cpus old.guests new.guests old.pool new.pool old.normal new.normal

-- a command that comes back at once with a code that refuses it changes its caller's registers alone; one that met a hole, a page on the move or another context changes nothing but
-- the hypervisor's last answer; where the guest has ended, a call in progress that comes back and a vCPU that is gone change their CPU alone; a page-in that is
-- refused at its end puts its page back
abbrev pub LeavesRest : {S : Type 0} → ℕ → Ctx → Cmd → State S → State S → Answer → Type 0
LeavesRest n ctx.Hv cmd old new (answer.Ret code) = is_refusal cmd code ≡ true → ChangesCpu n (λ c d. RefusesCpu c d code) old new
LeavesRest n ctx.Hv cmd old new answer.Hole = ChangesCpu n (λ c d. d ≡ record c { last = answer.Hole }) old new
LeavesRest n (ctx.Guest run) cmd old new (answer.Ret code) = is_refusal cmd code ≡ true → ChangesGuest (run.lpid - 1) (λ g h. RefusesGuest run.vid g h code) old new
LeavesRest n (ctx.Guest run) cmd old new answer.Hole = ChangesGuest (run.lpid - 1) SameGuest old new
LeavesRest n (ctx.Guest run) cmd old new answer.Again = ChangesGuest (run.lpid - 1) SameGuest old new
LeavesRest n (ctx.Guest run) cmd old new answer.Gone = ChangesCpu n IsGone old new
LeavesRest n (ctx.Uv work) cmd old new (answer.Ret UParameter) = ChangesCpu n (λ c d. BackWith c d UParameter) old new
LeavesRest n (ctx.Uv (Inward move)) cmd old new (answer.Ret UP2) = OnMove n move old.cpus new.cpus old.guests new.guests old.pool new.pool old.normal new.normal
LeavesRest n before cmd old new answer.Context = ChangesCpu n (λ c d. d ≡ c) old new
LeavesRest n before cmd old new other = Unit {0}
