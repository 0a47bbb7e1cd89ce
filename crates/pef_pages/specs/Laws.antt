-- What the type keeps, and where the frames are after one cell changes.
use Rattle.std.specs.Prelude.{◌≡◌, ◌↔◌, ℕ, ◌+◌, ◌<◌, Bool, false, if◌then◌else◌, Option, Some, None, IsSome, is_some, length, count_by, ◌⊎◌}
use Rattle.pef_model.specs.declared.state.Kind.TheVariants as kind
use Rattle.pef_model.specs.declared.state.Way.TheVariants.{Inward, Outward}
use Rattle.pef_model.specs.declared.state.Digest32.{Digest32}
use Rattle.pef_pages.specs.declared.cell.Cell.{Cell}
use Rattle.pef_pages.specs.declared.cell.Cell.TheVariants as cell
use Rattle.pef_pages.specs.declared.page.Page.{Page}
use Rattle.pef_pages.specs.Cells.{kind_of, mover_of, digest_of, frame_in, with_frame, without_frame, begun_out, ended_out, accepted_in, refused_in}
use Rattle.pef_pages.specs.Pages.{PagesState, IsAbsent, frame_at, with_page, held}

-- what a page has
pub record KeepsHeadline {F : Type 0} (c : Cell F) : Type 0 where
  -- a frame exactly where it is Secure or moves
  pub frame : IsSome (frame_in c) ↔ ((kind_of c ≡ kind.Secure) ⊎ IsSome (mover_of c))
  -- a digest exactly where it is Out
  pub digest : IsSome (digest_of c) ↔ (kind_of c ≡ kind.Out)
  -- a Shared page doesn't move
  pub shared : (frame : Option ℕ) (fresh : Bool) → kind_of c ≡ kind.Shared frame fresh → mover_of c ≡ None
  -- a page that a normal frame backs isn't fresh
  pub fresh : (frame : ℕ) (fresh : Bool) → kind_of c ≡ kind.Shared (Some frame) fresh → fresh ≡ false

abbrev pub EachCellKeepsHeadline : Type 0 → Type 0
EachCellKeepsHeadline F = (c : Cell F) → KeepsHeadline c

-- a Secure page goes out in two steps
pub record GoesOut {F : Type 0} (c : Cell F) (cpu : ℕ) (digest : Option Digest32) : Type 0 where
  -- while it moves it is Secure, in the same frame
  pub kind_stays : kind_of (begun_out c cpu digest) ≡ kind.Secure
  pub frame_stays : frame_in (begun_out c cpu digest) ≡ frame_in c
  -- this CPU moves it outward
  pub moves : mover_of (begun_out c cpu digest) ≡ Some (record { cpu = cpu; way = Outward })
  -- then it is Out with the digest that was given, or Invalid where none was
  pub ended : ended_out (begun_out c cpu digest) ≡ without_frame digest

abbrev pub EachSecurePageGoesOut : Type 0 → Type 0
EachSecurePageGoesOut F = (c : Cell F) (cpu : ℕ) (digest : Option Digest32) → kind_of c ≡ kind.Secure → mover_of c ≡ None → GoesOut c cpu digest

-- a page that is Invalid or Out comes in in two steps
pub record ComesIn {F : Type 0} (c moving : Cell F) (cpu : ℕ) (frame : F) : Type 0 where
  -- while it moves its kind and its digest stay
  pub kind_stays : kind_of moving ≡ kind_of c
  pub digest_stays : digest_of moving ≡ digest_of c
  -- this CPU moves it inward
  pub moves : mover_of moving ≡ Some (record { cpu = cpu; way = Inward })
  -- where what came is accepted it is Secure in the frame, and else as before
  pub accepted : accepted_in moving ≡ cell.Secure frame
  pub refused : refused_in moving ≡ c

abbrev pub EachAbsentPageComesIn : Type 0 → Type 0
EachAbsentPageComesIn F =
    (c : Cell F) (cpu : ℕ) (frame : F) → IsAbsent (kind_of c) → mover_of c ≡ None → ComesIn c (cell.MovesIn frame cpu (digest_of c)) cpu frame

-- a write of a frame changes the frame alone, and puts none where there was none
pub record ChangesFrameAlone {F : Type 0} (c : Cell F) (frame : F) : Type 0 where
  pub kind_stays : kind_of (with_frame c frame) ≡ kind_of c
  pub mover_stays : mover_of (with_frame c frame) ≡ mover_of c
  pub digest_stays : digest_of (with_frame c frame) ≡ digest_of c
  pub frame_is : frame_in (with_frame c frame) ≡ (if is_some (frame_in c) then Some frame else None)

abbrev pub EachWriteChangesFrameAlone : Type 0 → Type 0
EachWriteChangesFrameAlone F = (c : Cell F) (frame : F) → ChangesFrameAlone c frame

-- how many frames an optional frame is, of those that pass a test
abbrev pub count_in : {F : Type 0} → (F → Bool) → Option F → ℕ
count_in test None = 0
count_in test (Some frame) = if test frame then 1 else 0

-- where one page changes, the frames that are held change by what came and what left, whichever frames are counted
abbrev pub FramesMoveSingly : Type 0 → Type 0
FramesMoveSingly F =
    (ps : PagesState F) (gfn : ℕ) (page : Page F) (test : F → Bool) → gfn < length ps.pages →
    count_by test (held (with_page ps gfn page)) + count_in test (frame_at ps gfn) ≡ count_by test (held ps) + count_in test (frame_in page.cell)
