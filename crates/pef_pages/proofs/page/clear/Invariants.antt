use Rattle.std.proofs.Common.{◌≡◌, replicate, take}
use Rattle.pef_pages.specs.Pages.{invalid_page}
use Rattle.pef_pages.proofs.page.clear.Given as goal

abbrev pub invariant-loop-page : goal.invariant-loop-page
invariant-loop-page g l = take l.page-index l.pages ≡ replicate l.page-index invalid_page
