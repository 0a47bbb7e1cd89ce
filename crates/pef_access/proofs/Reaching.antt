-- A page that an access reaches has a frame with room for the doubleword.
use Rattle.std.proofs.Common.{◌≡◌, ℕ, ◌+◌, ◌<◌, ◌≤◌, length, Some, refl, sym, subst, arith}
use Rattle.std.proofs.lemmas.List.{length-replicate, get_or-set_same}
use Rattle.pef_model.specs.declared.state.Kind.TheVariants as kind
use Rattle.pef_frames.specs.Frame.{FrameState, zero_frame}
use Rattle.pef_pages.specs.declared.cell.Cell.{Cell}
use Rattle.pef_pages.specs.declared.cell.Cell.TheVariants as cell
use Rattle.pef_pages.specs.declared.page.Page.{Page}
use Rattle.pef_pages.specs.Cells.{kind_of, frame_in}
use Rattle.pef_pages.specs.Pages.{PagesState, invalid_page, page_at, kind_at, frame_at, with_cell, joins_order}
use Rattle.pef_access.specs.Access.{HasRoom, HaveFrames}

-- a Secure page has a frame
room_by_cell : (c : Cell FrameState) (size off : ℕ) → ((frame : FrameState) → frame_in c ≡ Some frame → length frame.bytes ≡ size) → kind_of c ≡ kind.Secure → off + 8 ≤ size → HasRoom (frame_in c) off
room_by_cell (cell.Secure frame) size off sizes is room = let h = sizes frame refl in omega arith
room_by_cell (cell.MovesOut frame cpu digest) size off sizes is room = let h = sizes frame refl in omega arith
room_by_cell (cell.MovesIn frame cpu digest) size off sizes is room = let h = sizes frame refl in omega arith
room_by_cell cell.Invalid size off sizes is room = cc
room_by_cell (cell.Out digest) size off sizes is room = cc
room_by_cell (cell.Shared frame) size off sizes is room = cc
room_by_cell (cell.Unbacked fresh) size off sizes is room = cc

pub room_where_secure : (pages : PagesState FrameState) (gfn size off : ℕ) → HaveFrames size pages → kind_at pages gfn ≡ kind.Secure → off + 8 ≤ size → HasRoom (frame_at pages gfn) off
room_where_secure pages gfn size off sizes is room = room_by_cell (page_at pages gfn).cell size off (sizes gfn) is room

-- a page that was backed has its frame
pub room_where_backed : (pages : PagesState FrameState) (gfn size number off : ℕ) → gfn < length pages.pages → off + 8 ≤ size →
    HasRoom (frame_at (joins_order (with_cell pages gfn (cell.Secure (zero_frame size number))) gfn) gfn) off
room_where_backed pages gfn size number off below room =
    let there : page_at (with_cell pages gfn (cell.Secure (zero_frame size number))) gfn ≡ record { cell = cell.Secure (zero_frame size number); version = (page_at pages gfn).version } =
    get_or-set_same pages.pages gfn (record { cell = cell.Secure (zero_frame size number); version = (page_at pages gfn).version }) invalid_page below in
    subst (λ (page : Page FrameState). HasRoom (frame_in page.cell) off) (sym there) (subst (λ (n : ℕ). off + 8 ≤ n) (sym (length-replicate size 0)) room)
