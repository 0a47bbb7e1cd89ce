use Rattle.std.proofs.Common.{rules, ◌≡◌, Ok}
use Rattle.pef_slots.specs.Slots.{checked}
use Rattle.pef_slots.proofs.Apart.{joined}
use Rattle.pef_slots.proofs.slots.Slots.check.Goals as goal

-- what is accepted may join
pub returns-clause-joins : goal.returns-clause-joins
returns-clause-joins c =
    let accepted : checked c.args.shift c.args.pages c.args.self.now c.args.start c.args.size c.args.flags c.args.id ≡ Ok (record { id = c.in_ok-id.id; first = c.in_ok-first.first; count = c.in_ok-count.count }) = search rules in
    joined c.args.shift c.args.pages c.args.self.now c.args.start c.args.size c.args.flags c.args.id _ c.len.ensures.slots accepted
