-- Which moves make a page Secure, or end its being so.
use Rattle.std.proofs.Common.{◌≡◌, ℕ, ◌<◌, true, false, List, Option, Some, None, slice_index_or, length, refl, ap, ◌∙◌}
use Rattle.std.proofs.lemmas.List.{get_or_default}
use Rattle.pef_model.specs.declared.state.Way.TheVariants.{Inward, Outward}
use Rattle.pef_model.specs.declared.state.Digest32.{Digest32}
use Rattle.pef_pages.specs.declared.cell.Cell.{Cell}
use Rattle.pef_pages.specs.declared.cell.Cell.TheVariants as cell
use Rattle.pef_pages.specs.declared.page.Page.{Page}
use Rattle.pef_pages.specs.Cells.{kind_of, kind_without, mover_of, way_of, without_frame, ended_out, accepted_in, refused_in}
use Rattle.pef_pages.specs.Pages.{is_secure_kind, invalid_page}

-- a page without a frame isn't Secure
without-secure : (digest : Option Digest32) → is_secure_kind (kind_without digest) ≡ false
without-secure None = refl
without-secure (Some digest) = refl

module _ {F : Type 0} where
  without_frame-secure : (c : Cell F) (digest : Option Digest32) → c ≡ without_frame digest → is_secure_kind (kind_of c) ≡ false
  without_frame-secure c None is = ap (λ (x : Cell F). is_secure_kind (kind_of x)) is
  without_frame-secure c (Some digest) is = ap (λ (x : Cell F). is_secure_kind (kind_of x)) is

  -- a page that has moved outward isn't Secure
  pub ended_out-secure : (c : Cell F) → way_of (mover_of c) ≡ Some Outward → is_secure_kind (kind_of (ended_out c)) ≡ false
  ended_out-secure (cell.MovesOut frame cpu digest) moves = without_frame-secure (without_frame digest) digest refl
  ended_out-secure (cell.MovesIn frame cpu digest) moves = cc
  ended_out-secure cell.Invalid moves = refl
  ended_out-secure (cell.Secure frame) moves = cc
  ended_out-secure (cell.Out digest) moves = refl
  ended_out-secure (cell.Shared frame) moves = refl
  ended_out-secure (cell.Unbacked fresh) moves = refl

  -- a page that moves inward isn't Secure
  pub inward-secure : (c : Cell F) → way_of (mover_of c) ≡ Some Inward → is_secure_kind (kind_of c) ≡ false
  inward-secure (cell.MovesIn frame cpu digest) moves = without-secure digest
  inward-secure (cell.MovesOut frame cpu digest) moves = cc
  inward-secure cell.Invalid moves = refl
  inward-secure (cell.Secure frame) moves = cc
  inward-secure (cell.Out digest) moves = refl
  inward-secure (cell.Shared frame) moves = refl
  inward-secure (cell.Unbacked fresh) moves = refl

  -- it is Secure where what came is accepted
  pub accepted_in-secure : (c : Cell F) → way_of (mover_of c) ≡ Some Inward → is_secure_kind (kind_of (accepted_in c)) ≡ true
  accepted_in-secure (cell.MovesIn frame cpu digest) moves = refl
  accepted_in-secure (cell.MovesOut frame cpu digest) moves = refl
  accepted_in-secure cell.Invalid moves = cc
  accepted_in-secure (cell.Secure frame) moves = refl
  accepted_in-secure (cell.Out digest) moves = cc
  accepted_in-secure (cell.Shared frame) moves = cc
  accepted_in-secure (cell.Unbacked fresh) moves = cc

  -- and isn't where it is refused
  pub refused_in-secure : (c : Cell F) → way_of (mover_of c) ≡ Some Inward → is_secure_kind (kind_of (refused_in c)) ≡ false
  refused_in-secure (cell.MovesIn frame cpu digest) moves = without_frame-secure (without_frame digest) digest refl
  refused_in-secure (cell.MovesOut frame cpu digest) moves = cc
  refused_in-secure cell.Invalid moves = refl
  refused_in-secure (cell.Secure frame) moves = cc
  refused_in-secure (cell.Out digest) moves = refl
  refused_in-secure (cell.Shared frame) moves = refl
  refused_in-secure (cell.Unbacked fresh) moves = refl

  -- a page that was read by its number is the one at the number
  pub page_at-read : (pages : List (Page F)) (gfn : ℕ) (page : Page F) → gfn < length pages → page ≡ slice_index_or pages gfn page → page ≡ slice_index_or pages gfn invalid_page
  page_at-read pages gfn page below is = is ∙ get_or_default pages gfn page invalid_page below
