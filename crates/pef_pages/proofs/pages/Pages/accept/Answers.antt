use Rattle.std.proofs.Common.{arith, length-set}
use Rattle.pef_pages.specs.Cells.{accepted_in}
use Rattle.pef_pages.proofs.Orders.{room, ordered-joins}
use Rattle.pef_pages.proofs.Moves.{inward-secure, accepted_in-secure, page_at-read}
use Rattle.pef_pages.proofs.pages.Pages.accept.Goals as goal

-- a page that moves inward isn't in the order, so there is room for its number
pub join-requires : goal.join-requires
join-requires g c =
    let moves = rw (← c.self.view_is) at c.requires.moves in
    let below = rw (← c.self.view_is) at c.requires.below in
    let one = room _ c.args.gfn (record { cell = accepted_in _; version = 0 }) below c.self.invariant.ordered (inward-secure _ moves) (accepted_in-secure _ moves) in
    omega (arith, one, c.self.invariant.room)

-- and the page that joins the order becomes Secure
pub invariant_of-self : goal.invariant_of-self
invariant_of-self g c =
    let moves = rw (← c.self.view_is) at c.requires.moves in
    let below = rw (← c.self.view_is) at c.requires.below in
    let read = page_at-read _ c.args.gfn _ below c.index_mut.ensures.value in
    rw (c.join.ensures.order, c.join.ensures.room, length-set) (record {
      ordered = ordered-joins _ _ _ below c.self.invariant.ordered (inward-secure _ moves) (rw (c.accept.ensures, read) (accepted_in-secure _ moves));
      few = c.self.invariant.few;
      room = c.self.invariant.room;
    })
