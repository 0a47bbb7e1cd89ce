use Rattle.std.proofs.Common.{length-set}
use Rattle.pef_pages.proofs.Orders.{ordered-leaves}
use Rattle.pef_pages.proofs.Moves.{ended_out-secure, page_at-read}
use Rattle.pef_pages.proofs.pages.Pages.end_out.Goals as goal

-- a page that has moved outward isn't Secure, and leaves the order
pub invariant_of-self : goal.invariant_of-self
invariant_of-self g c =
    let below = rw (← c.self.view_is) at c.requires.below in
    let moves = rw (← c.self.view_is) at c.requires.moves in
    let read = page_at-read _ c.args.gfn _ below c.index_mut.ensures.value in
    rw (c.leave.ensures.order, c.leave.ensures.room, length-set) (record {
      ordered = ordered-leaves _ _ _ below c.self.invariant.ordered (rw (c.end_out.ensures.cell, read) (ended_out-secure _ moves));
      few = c.self.invariant.few;
      room = c.self.invariant.room;
    })
