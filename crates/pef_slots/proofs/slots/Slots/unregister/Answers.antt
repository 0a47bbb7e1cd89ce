use Rattle.std.proofs.Common.{rules, ◌≡◌, ◌==◌, Some, ap, ◌∙◌}
use Rattle.std.specs.List.{find}
use Rattle.pef_model.specs.Slots.{without}
use Rattle.pef_slots.proofs.Found.{its_id}
use Rattle.pef_slots.proofs.slots.Slots.unregister.Goals as goal

-- the slot that leaves is the one with the id
pub returns-clause-others : goal.returns-clause-others
returns-clause-others c =
    let found : find (λ slot. c.args.id == slot.id) c.args.self.now ≡ Some c.in_ok-slot.slot = search rules in
    c.leave.ensures ∙ ap (without c.args.self.now) (its_id c.args.self.now c.args.id c.in_ok-slot.slot found)
