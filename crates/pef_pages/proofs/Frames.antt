-- The frames that pages hold are counted page by page.
use Rattle.std.proofs.Common.{◌≡◌, ℕ, ◌+◌, ◌<◌, Bool, List, [], ◌∷◌, length, count_by, filter_map, Option, Some, None, slice_set, refl, sym, ap, ◌∙◌, zero-add}
use Rattle.std.specs.List.{sum_by, cons_option}
use Rattle.std.proofs.lemmas.List.Sums.{sum_by-cons, sum_by-set}
use Rattle.pef_pages.specs.declared.page.Page.{Page}
use Rattle.pef_pages.specs.Cells.{frame_in}
use Rattle.pef_pages.specs.Pages.{PagesState, with_page, frame_at, held, invalid_page}
use Rattle.pef_pages.specs.Laws.{count_in}

module _ {F : Type 0} (test : F → Bool) where
  -- how many frames of a page pass
  abbrev counted : Page F → ℕ
  counted page = count_in test (frame_in page.cell)

  -- an optional frame before others
  count-before : (frame : Option F) (frames : List F) → count_by test (cons_option frame frames) ≡ count_in test frame + count_by test frames
  count-before None frames = sym (zero-add _)
  count-before (Some frame) frames = sum_by-cons _ frame frames

  -- the frames that pages hold, counted page by page
  count-held : (pages : List (Page F)) → count_by test (filter_map (λ (page : Page F). frame_in page.cell) pages) ≡ sum_by counted pages
  count-held [] = refl
  count-held (page ∷ pages) =
      count-before (frame_in page.cell) (filter_map (λ (p : Page F). frame_in p.cell) pages)
      ∙ ap (λ (n : ℕ). counted page + n) (count-held pages)
      ∙ sym (sum_by-cons counted page pages)

-- where one page changes, the frames change by what came and what left
pub frames-set : {F : Type 0} (ps : PagesState F) (gfn : ℕ) (page : Page F) (test : F → Bool) → gfn < length ps.pages →
    count_by test (held (with_page ps gfn page)) + count_in test (frame_at ps gfn) ≡ count_by test (held ps) + count_in test (frame_in page.cell)
frames-set ps gfn page test below =
    ap (λ (n : ℕ). n + count_in test (frame_at ps gfn)) (count-held test (slice_set ps.pages gfn page))
    ∙ sum_by-set (counted test) ps.pages gfn page invalid_page below
    ∙ ap (λ (n : ℕ). n + count_in test (frame_in page.cell)) (sym (count-held test ps.pages))
