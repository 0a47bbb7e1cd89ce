use Rattle.std.proofs.Common.{rules, arith, ◌≡◌, ◌++◌, ◌∷◌, [], nat_eq, None, sym, ap, subst, ◌∙◌, length-append}
use Rattle.std.specs.Map.{lookup, values_of}
use Rattle.indexmap.proofs.CallerLemmas.{insert_entry-new}
use Rattle.indexmap.specs.IndexMap.{insert_entry}
use Rattle.pef_model.specs.Slots.{AreSlots}
use Rattle.pef_slots.proofs.Keyed.{lookup-keyed, values-more, keyed-more}
use Rattle.pef_slots.proofs.Order.{none_before}
use Rattle.pef_slots.proofs.slots.Slots.put.Goals as goal

-- no slot has its id, so it goes last
put : (c : goal.After-unwrap) → c.insert.new.self.entries ≡ c.self.inside.map.entries ++ (c.args.slot.id, c.args.slot) ∷ []
put c =
    let are : AreSlots (values_of c.self.inside.map.entries ++ c.args.slot ∷ []) = subst (λ slots. AreSlots (slots ++ c.args.slot ∷ [])) (sym c.self.view_is) c.requires in
    let absent : lookup (nat_eq c.args.slot.id) c.self.inside.map.entries ≡ None =
    ap (lookup (nat_eq c.args.slot.id)) c.self.invariant.keyed ∙ lookup-keyed (values_of c.self.inside.map.entries) c.args.slot.id
    ∙ none_before (values_of c.self.inside.map.entries) [] c.args.slot are in
    let inserted : c.insert.new.self.entries ≡ insert_entry nat_eq c.self.inside.map.entries c.args.slot.id c.args.slot = search rules in
    inserted ∙ insert_entry-new nat_eq c.self.inside.map c.args.slot.id c.args.slot absent

-- the slots are those before, and it
more : (c : goal.After-unwrap) → values_of c.insert.new.self.entries ≡ c.args.self.now ++ c.args.slot ∷ []
more c = values-more c.self.inside.map.entries c.insert.new.self.entries c.args.slot (put c) ∙ ap (λ slots. slots ++ c.args.slot ∷ []) c.self.view_is

pub invariant_of-self : goal.invariant_of-self
invariant_of-self c = record {
  keyed = keyed-more c.self.inside.map.entries c.insert.new.self.entries c.args.slot (put c) c.self.invariant.keyed;
  slots = subst AreSlots (sym (more c)) c.requires;
  room = rw (put c) (omega (arith, length-append c.self.inside.map.entries ((c.args.slot.id, c.args.slot) ∷ []), c.insert.ensures.spare, c.self.invariant.room));
  empty = c.self.invariant.empty;
  other_room = c.self.invariant.other_room;
}

pub returns : goal.returns
returns c = more c
