use Rattle.std.proofs.Common.{length-set}
use Rattle.pef_pages.proofs.Orders.{ordered-leaves}
use Rattle.pef_pages.proofs.pages.Pages.put.Goals as goal

-- the cell that is put isn't Secure, and the page leaves the order
pub invariant_of-self : goal.invariant_of-self
invariant_of-self g c =
    let below = rw (← c.self.view_is) at c.requires.below in
    rw (c.leave.ensures.order, c.leave.ensures.room, length-set) (record {
      ordered = ordered-leaves _ _ _ below c.self.invariant.ordered (rw c.replace.ensures.after c.requires.kind);
      few = c.self.invariant.few;
      room = c.self.invariant.room;
    })
