-- Laws of the frames of an entry.
use Rattle.std.specs.Prelude.{◌≡◌, ◌≢◌, ℕ, ◌<◌, ◌≤◌, Some, None, Ok}
use Rattle.pef_pate.specs.declared.pate.Pate.{Pate}
use Rattle.pef_pate.specs.Entry.{checked, frame_at}

-- of an entry that was checked each page's frame is a normal one, and the page is one of the guest's
abbrev pub FramesAreNormal : Type 0
FramesAreNormal =
    (shift normal pages dw0 dw1 : ℕ) (pate : Pate) (gfn frame : ℕ) → checked shift normal pages dw0 dw1 ≡ Ok pate → frame_at shift pate gfn ≡ Some frame →
    (frame < normal) × (gfn < pages)

-- two pages have two frames
abbrev pub PagesHaveTheirFrames : Type 0
PagesHaveTheirFrames = (shift : ℕ) (pate : Pate) (gfn other frame : ℕ) → frame_at shift pate gfn ≡ Some frame → frame_at shift pate other ≡ Some frame → gfn ≡ other

-- an entry of no pages maps none, and may have any base that is a normal frame's
abbrev pub EmptyEntryMapsNone : Type 0
EmptyEntryMapsNone = (shift : ℕ) (pate : Pate) (gfn : ℕ) → pate.dw1 ≡ 0 → frame_at shift pate gfn ≡ None
