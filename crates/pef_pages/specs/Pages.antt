-- A guest's pages, and the order in which they became Secure.
use Rattle.std.specs.Prelude.{◌≡◌, ℕ, ◌==◌, Bool, true, false, not, if◌then◌else◌, List, [], ◌∷◌, ◌++◌, Option, None, is_some, is_none, length, replicate, slice_index_or, slice_set, count_by, filter, filter_map}
use Rattle.std.specs.List.{find}
use Rattle.pef_model.specs.declared.state.Kind.{Kind}
use Rattle.pef_model.specs.declared.state.Kind.TheVariants as kind
use Rattle.pef_model.specs.declared.state.Mover.{Mover}
use Rattle.pef_model.specs.declared.state.Digest32.{Digest32}
use Rattle.pef_pages.specs.declared.cell.Cell.{Cell}
use Rattle.pef_pages.specs.declared.cell.Cell.TheVariants as cell
use Rattle.pef_pages.specs.declared.page.Page.{Page}
use Rattle.pef_pages.specs.Cells.{kind_of, mover_of, digest_of, frame_in, with_frame, accepted_in, refused_in}

-- the pages from number 0 on, and the numbers of the Secure ones, the one that became Secure first in front
pub record PagesState (F : Type 0) : Type 0 where
  pub pages : List (Page F)
  pub order : List ℕ

-- whether a kind is Secure
abbrev pub is_secure_kind : Kind → Bool
is_secure_kind kind.Secure = true
is_secure_kind kind.Invalid = false
is_secure_kind kind.Out = false
is_secure_kind (kind.Shared frame fresh) = false

-- a kind of a page that may come in: Invalid or Out
abbrev pub IsAbsent : Kind → Type 0
IsAbsent kind.Invalid = Unit {0}
IsAbsent kind.Out = Unit {0}
IsAbsent kind.Secure = ⊥
IsAbsent (kind.Shared frame fresh) = ⊥

module _ {F : Type 0} where
  -- an Invalid page that was never paged out
  abbrev pub invalid_page : Page F
  invalid_page = record { cell = cell.Invalid; version = 0 }

  -- so many of them
  abbrev pub invalid_pages : ℕ → PagesState F
  invalid_pages count = record { pages = replicate count invalid_page; order = [] }

  -- a page by its number
  abbrev pub page_at : PagesState F → ℕ → Page F
  page_at ps gfn = slice_index_or ps.pages gfn invalid_page

  -- what it has
  abbrev pub cell_at : PagesState F → ℕ → Cell F
  cell_at ps gfn = (page_at ps gfn).cell

  -- its kind
  abbrev pub kind_at : PagesState F → ℕ → Kind
  kind_at ps gfn = kind_of (cell_at ps gfn)

  -- which CPU moves it, and which way
  abbrev pub mover_at : PagesState F → ℕ → Option Mover
  mover_at ps gfn = mover_of (cell_at ps gfn)

  -- the digest of what was paged out
  abbrev pub digest_at : PagesState F → ℕ → Option Digest32
  digest_at ps gfn = digest_of (cell_at ps gfn)

  -- its secure frame
  abbrev pub frame_at : PagesState F → ℕ → Option F
  frame_at ps gfn = frame_in (cell_at ps gfn)

  -- how often it was paged out
  abbrev pub version_at : PagesState F → ℕ → ℕ
  version_at ps gfn = (page_at ps gfn).version

  -- the secure frames that the pages have, in the order of the pages' numbers
  abbrev pub held : PagesState F → List F
  held ps = filter_map (λ (page : Page F). frame_in page.cell) ps.pages

  -- whether a page is of kind Secure
  abbrev pub is_secure : Page F → Bool
  is_secure page = is_secure_kind (kind_of page.cell)

  -- whether a page moves
  abbrev pub is_moving : Page F → Bool
  is_moving page = is_some (mover_of page.cell)

  -- the pages with another one at a number; the order stays
  abbrev pub with_page : PagesState F → ℕ → Page F → PagesState F
  with_page ps gfn page = record ps { pages = slice_set ps.pages gfn page }

  -- the pages with another cell at a number; its version and the order stay
  abbrev pub with_cell : PagesState F → ℕ → Cell F → PagesState F
  with_cell ps gfn new = with_page ps gfn (record (page_at ps gfn) { cell = new })

  -- the pages with a number last in the order
  abbrev pub joins_order : PagesState F → ℕ → PagesState F
  joins_order ps gfn = record ps { order = ps.order ++ gfn ∷ [] }

  -- the pages with a number no more in the order
  abbrev pub leaves_order : PagesState F → ℕ → PagesState F
  leaves_order ps gfn = record ps { order = filter (λ n. not (n == gfn)) ps.order }

  -- the pages with another secure frame at a number, where there is one
  abbrev pub with_frame_at : PagesState F → ℕ → F → PagesState F
  with_frame_at ps gfn frame = with_cell ps gfn (with_frame (cell_at ps gfn) frame)

  -- the pages after a page has moved inward, and what came was accepted or refused
  abbrev pub ended_in : PagesState F → ℕ → Bool → PagesState F
  ended_in ps gfn true = joins_order (with_cell ps gfn (accepted_in (cell_at ps gfn))) gfn
  ended_in ps gfn false = with_cell ps gfn (refused_in (cell_at ps gfn))

  -- the first in the order that doesn't move
  abbrev pub oldest_of : PagesState F → Option ℕ
  oldest_of ps = find (λ gfn. is_none (mover_at ps gfn)) ps.order

  -- the order has the number of each Secure page once and no other, so it is as long as they are many
  pub record IsOrdered (ps : PagesState F) : Type 0 where
    pub each : (gfn : ℕ) → count_by (λ n. n == gfn) ps.order ≡ (if is_secure (page_at ps gfn) then 1 else 0)
    pub size : length ps.order ≡ count_by is_secure ps.pages

  -- a page is Secure and doesn't move
  pub record RestsSecure (ps : PagesState F) (gfn : ℕ) : Type 0 where
    pub kind_is : kind_at ps gfn ≡ kind.Secure
    pub rests : mover_at ps gfn ≡ None
