-- When a guest is whole.
use Rattle.std.specs.Prelude.{◌≡◌, ◌↔◌, ℕ, ◌+◌, ◌/◌, ◌^◌, ◌<◌, ◌≤◌, Bool, length, Some, None, IsSome}
use Rattle.pef_model.specs.declared.state.Phase.{Phase}
use Rattle.pef_model.specs.declared.state.Phase.TheVariants as phase
use Rattle.pef_model.specs.declared.state.Kind.TheVariants as kind
use Rattle.pef_model.specs.Plan.{IsWithin}
use Rattle.pef_pate.specs.declared.pate.Pate.{Pate}
use Rattle.pef_frames.specs.Frame.{FrameState}
use Rattle.pef_model.specs.declared.state.Way.TheVariants.{Outward}
use Rattle.pef_pages.specs.Cells.{way_of}
use Rattle.pef_pages.specs.Pages.{cell_at, kind_at, mover_at, version_at, frame_at}
use Rattle.pef_guest.specs.Shows.{kept_in}
use Rattle.pef_guest.specs.declared.guest.Guest.{Guest}

-- a secure frame has this many bytes, and a number below the number of secure frames
pub record IsFrameOf (size secure : ℕ) (frame : FrameState) : Type 0 where
  pub length_is : length frame.bytes ≡ size
  pub number : frame.number < secure

-- a phase in which no page is private: Absent and Normal
abbrev pub IsOutside : Phase → Type 0
IsOutside phase.Absent = Unit {0}
IsOutside phase.Normal = Unit {0}
IsOutside phase.Starting = ⊥
IsOutside phase.Secure = ⊥
IsOutside phase.Aborting = ⊥

-- a partition entry has at most so many pages of 2^shift bytes, and a normal frame for each
pub record IsEntryOf (shift normal pages : ℕ) (entry : Pate) : Type 0 where
  pub pages_fit : entry.dw1 ≤ pages
  pub frames_fit : entry.dw0 / 2 ^ shift + entry.dw1 ≤ normal

-- a guest is whole
pub record IsWhole {S : Type 0} (takes : S → ℕ → ℕ → Type 0) (guest : Guest S) : Type 0 where
  -- a page's size is in its range
  pub shift : IsWithin 8 16 guest.shift
  -- the sealer takes each of its pages with that size
  pub served : (gfn : ℕ) → gfn < length guest.pages.pages → takes guest.sealer gfn (2 ^ guest.shift)
  -- each of its secure frames has that size, and a number below `secure`
  pub frames : (gfn : ℕ) (frame : FrameState) → frame_at guest.pages gfn ≡ Some frame → IsFrameOf (2 ^ guest.shift) guest.secure frame
  -- its partition entry has at most its pages, and a normal frame for each
  pub entry : IsEntryOf guest.shift guest.normal (length guest.pages.pages) guest.entry
  -- its generation rose at most once a step
  pub lives : guest.generation ≤ guest.steps + 1
  -- each of its vCPUs has a number of 8 bits
  pub vcpus : length guest.vcpus.items ≤ 2 ^ 8
  -- each normal frame that backs one of its Shared pages is one of the machine's
  pub shared : (gfn frame : ℕ) (fresh : Bool) → kind_at guest.pages gfn ≡ kind.Shared (Some frame) fresh → frame < guest.normal
  -- in Absent and Normal every page is Invalid and doesn't move
  pub outside : IsOutside guest.phase → (gfn : ℕ) → (kind_at guest.pages gfn ≡ kind.Invalid) × (mover_at guest.pages gfn ≡ None)
  -- in Secure no Invalid page moves
  pub rests : guest.phase ≡ phase.Secure → (gfn : ℕ) → kind_at guest.pages gfn ≡ kind.Invalid → mover_at guest.pages gfn ≡ None
  -- a page that moves outward keeps a digest exactly where the guest is Secure
  pub digests : (gfn : ℕ) → way_of (mover_at guest.pages gfn) ≡ Some Outward → IsSome (kept_in (cell_at guest.pages gfn)) ↔ (guest.phase ≡ phase.Secure)
  -- no page was paged out more often than there were steps
  pub versions : (gfn : ℕ) → version_at guest.pages gfn ≤ guest.steps
