use Rattle.std.proofs.Common.{refl}
use Rattle.std.proofs.lemmas.List.{set-get_or}
use Rattle.pef_pages.proofs.Moves.{page_at-read}
use Rattle.pef_pages.proofs.pages.Pages.frame_mut.Goals as goal

-- the page that lends its frame is the one at the number, and a page that lends none stays as it is
pub returns : goal.returns
returns g c =
    let below = rw (← c.self.view_is) at c.requires in
    let read = page_at-read _ c.args.gfn _ below c.index_mut.ensures.value in
    (rw (read, ← c.self.view_is, set-get_or) refl, record { writes_back = tt; value = rw (← c.self.view_is, ← read) c.frame_mut.ensures.value })
