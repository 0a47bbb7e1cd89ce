use Rattle.std.proofs.Common.{◌≡◌, replicate}
use Rattle.pef_pages.specs.Pages.{invalid_page}
use Rattle.pef_pages.proofs.pages.Pages.build.Given as goal

abbrev pub invariant-loop-gfn : goal.invariant-loop-gfn
invariant-loop-gfn g l = l.pages.items ≡ replicate l._gfn invalid_page
