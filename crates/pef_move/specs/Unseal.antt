-- What the end of a page-in does to a page: its frame goes back, or gets what the hand unseals to.
use Rattle.std.specs.Prelude.{◌≡◌, ℕ, List, length, Some, false}
use Rattle.pef_model.specs.declared.state.Tag.{Tag}
use Rattle.pef_frames.specs.Frame.{FrameState}
use Rattle.pef_frames.specs.Pool.{PoolState, with_free}
use Rattle.pef_pages.specs.Pages.{PagesState, frame_at, version_at, with_frame_at, ended_in}
use Rattle.pef_guest.specs.declared.guest.Guest.{Guest}

-- a page that comes in is at rest as it was, and its frame is free
pub record GivesBack (gfn : ℕ) (old new : PagesState FrameState) (pool pool_new : PoolState) : Type 0 where
  pub frame : FrameState
  pub there : frame_at old gfn ≡ Some frame
  pub pages : new ≡ ended_in old gfn false
  pub pool_is : pool_new ≡ with_free pool frame.number

-- the tag under which a page was sealed last
abbrev pub last_tag : {S : Type 0} → Guest S → ℕ → Tag
last_tag guest gfn = record { lpid = guest.lpid; generation = guest.generation; gfn = gfn; version = version_at guest.pages gfn }

-- a page's frame has bytes that are each page for which the sealer stands under the page's tag and the sealed ones
pub record Unseals {S : Type 0} (stands : S → Tag → List ℕ → List ℕ → Type 0) (gfn : ℕ) (sealed : List ℕ) (old new : Guest S) : Type 0 where
  pub frame : FrameState
  pub there : frame_at old.pages gfn ≡ Some frame
  pub bytes : List ℕ
  pub size : length bytes ≡ length frame.bytes
  pub plain : (page : List ℕ) → stands old.sealer (last_tag old gfn) page sealed → bytes ≡ page
  pub guest_is : new ≡ record old { pages = with_frame_at old.pages gfn (record frame { bytes = bytes }) }
