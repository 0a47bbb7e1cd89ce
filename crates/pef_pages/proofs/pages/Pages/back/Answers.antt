use Rattle.std.proofs.Common.{arith, refl, ap, length-set}
use Rattle.pef_pages.specs.Pages.{is_secure_kind}
use Rattle.pef_pages.specs.declared.cell.Cell.TheVariants as cell
use Rattle.pef_pages.proofs.Orders.{room, ordered-joins}
use Rattle.pef_pages.proofs.pages.Pages.back.Goals as goal

-- an Invalid page isn't in the order, so there is room for its number
pub join-requires : goal.join-requires
join-requires g c =
    let was = ap is_secure_kind (rw (← c.self.view_is) at c.requires.kind) in
    let below = rw (← c.self.view_is) at c.requires.below in
    let one = room _ c.args.gfn (record { cell = cell.Secure c.args.frame; version = 0 }) below c.self.invariant.ordered was refl in
    omega (arith, one, c.self.invariant.room)

-- and the page that joins the order becomes Secure
pub invariant_of-self : goal.invariant_of-self
invariant_of-self g c =
    let was = ap is_secure_kind (rw (← c.self.view_is) at c.requires.kind) in
    let below = rw (← c.self.view_is) at c.requires.below in
    rw (c.join.ensures.order, c.join.ensures.room, length-set) (record {
      ordered = ordered-joins _ _ _ below c.self.invariant.ordered was refl;
      few = c.self.invariant.few;
      room = c.self.invariant.room;
    })
