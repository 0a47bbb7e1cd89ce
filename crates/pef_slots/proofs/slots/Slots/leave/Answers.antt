use Rattle.std.proofs.Common.{arith, ◌≡◌, ◌==◌, not, filter, sym, ap, subst, ◌∙◌}
use Rattle.std.specs.Map.{values_of}
use Rattle.pef_model.specs.Slots.{without, AreSlots}
use Rattle.pef_slots.specs.Keyed.{keyed}
use Rattle.pef_slots.proofs.Apart.{left}
use Rattle.pef_slots.proofs.Keyed.{values-keyed, filter-keyed}
use Rattle.pef_slots.proofs.slots.Slots.leave.Goals as goal

-- the entries are those of the others
entries : (c : goal.After-swap) → c.swap.new.x.entries ≡ keyed (without (values_of c.self.inside.map.entries) c.args.id)
entries c =
    ap (λ m. m.entries) c.swap.ensures.x_after ∙ c.copy_others.ensures.entries
    ∙ ap (filter (λ e. not (c.args.id == e.0))) c.self.invariant.keyed ∙ filter-keyed (values_of c.self.inside.map.entries) c.args.id

-- so the slots are the others
others : (c : goal.After-swap) → values_of c.swap.new.x.entries ≡ without (values_of c.self.inside.map.entries) c.args.id
others c = ap values_of (entries c) ∙ values-keyed (without (values_of c.self.inside.map.entries) c.args.id)

pub invariant_of-self : goal.invariant_of-self
invariant_of-self c = record {
  keyed = entries c ∙ ap keyed (sym (others c));
  slots = subst AreSlots (sym (others c)) (left (values_of c.self.inside.map.entries) c.args.id c.self.invariant.slots);
  room = rw c.swap.ensures.x_after c.copy_others.ensures.room;
  empty = rw c.swap.ensures.y_after c.clear.ensures.empty;
  other_room = rw c.swap.ensures.y_after (omega (arith, c.clear.ensures.capacity, c.self.invariant.room));
}

pub returns : goal.returns
returns c = others c ∙ ap (λ slots. without slots c.args.id) c.self.view_is
