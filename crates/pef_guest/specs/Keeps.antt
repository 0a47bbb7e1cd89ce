-- What a step on a guest keeps, whatever it does.
use Rattle.std.specs.Prelude.{◌≡◌, ◌≢◌, ℕ, ◌+◌, ◌^◌, ◌≤◌, ◌==◌, length, Some, ◌⊎◌}
use Rattle.std.specs.List.{count_by}
use Rattle.pef_model.specs.declared.state.Phase.{Phase}
use Rattle.pef_model.specs.declared.state.Phase.TheVariants as phase
use Rattle.pef_model.specs.declared.state.Mover.{Mover}
use Rattle.pef_frames.specs.Frame.{FrameState}
use Rattle.pef_frames.specs.Pool.{PoolState}
use Rattle.pef_frames.specs.PoolLaw.{times_free}
use Rattle.pef_pages.specs.Pages.{mover_at, held}
use Rattle.pef_guest.specs.declared.guest.Guest.{Guest}

-- a pool is the one of a guest's machine
pub record IsPoolOf {S : Type 0} (guest : Guest S) (pool : PoolState) : Type 0 where
  pub count : pool.count ≡ guest.secure
  pub size : pool.size ≡ 2 ^ guest.shift

-- in one generation a guest's phase stays, but that a guest comes into normal memory
abbrev pub IsNextPhase : Phase → Phase → Type 0
IsNextPhase old new = (new ≡ old) ⊎ ((old ≡ phase.Absent) × (new ≡ phase.Normal))

-- what no step changes of a guest: its number and its sizes stay; its generation does or has risen, and in one generation its phase stays, but that it comes into normal memory
pub record KeepsGuest {S : Type 0} (old new : Guest S) : Type 0 where
  pub lpid : new.lpid ≡ old.lpid
  pub shift : new.shift ≡ old.shift
  pub normal : new.normal ≡ old.normal
  pub secure : new.secure ≡ old.secure
  pub pages : length new.pages.pages ≡ length old.pages.pages
  pub vcpus : length new.vcpus.items ≡ length old.vcpus.items
  pub generation : old.generation ≤ new.generation
  pub phase : new.generation ≡ old.generation → IsNextPhase old.phase new.phase
  pub steps : new.steps ≡ old.steps + 1

-- a guest's phase, generation and partition entry stay
pub record KeepsLife {S : Type 0} (old new : Guest S) : Type 0 where
  pub phase : new.phase ≡ old.phase
  pub generation : new.generation ≡ old.generation
  pub entry : new.entry ≡ old.entry

-- how often a number is that of a frame which a guest holds
abbrev pub times_held : {S : Type 0} → Guest S → ℕ → ℕ
times_held guest number = count_by (λ (frame : FrameState). frame.number == number) (held guest.pages)

-- a pool keeps its sizes, and each frame stays free or held as often as it was
pub record KeepsFrames {S : Type 0} (old new : Guest S) (pool pool_new : PoolState) : Type 0 where
  pub count : pool_new.count ≡ pool.count
  pub size : pool_new.size ≡ pool.size
  pub frames : (number : ℕ) → times_held new number + times_free pool_new number ≡ times_held old number + times_free pool number

-- each page that another CPU moves is moved by it still, as long as the guest's generation stays
abbrev pub KeepsMovers : {S : Type 0} → ℕ → Guest S → Guest S → Type 0
KeepsMovers cpu old new = (gfn : ℕ) (mover : Mover) → new.generation ≡ old.generation → mover.cpu ≢ cpu → mover_at old.pages gfn ≡ Some mover → mover_at new.pages gfn ≡ Some mover
