use Rattle.std.proofs.Common.{rules, ◌≡◌, ◌≤◌, ◌^◌, ◌==◌, nat_eq, None, sym, ap, ◌∙◌}
use Rattle.std.specs.List.{find}
use Rattle.std.specs.Map.{lookup, values_of}
use Rattle.pef_slots.proofs.Found.{above}
use Rattle.pef_slots.proofs.Keyed.{lookup-keyed}
use Rattle.pef_slots.proofs.slots.Slots.with_id.Goals as goal

-- an id of more than 16 bits is none of a slot
pub returns-in_err-id : goal.returns-in_err-id
returns-in_err-id c =
    let large : 2 ^ 16 ≤ c.args.id = search rules in
    let none : c.from_residual.result ≡ None = search rules in
    none ∙ sym (above (values_of c.self.inside.map.entries) c.args.id c.self.invariant.slots.ids large) ∙ ap (find (λ slot. c.args.id == slot.id)) c.self.view_is

-- the map finds the first with the id
pub returns : goal.returns
returns c =
    let same : c.in_ok-id.id ≡ c.args.id = search rules in
    let found : c.copied.result ≡ lookup (nat_eq c.in_ok-id.id) c.self.inside.map.entries = search rules in
    found ∙ ap (λ id. lookup (nat_eq id) c.self.inside.map.entries) same
    ∙ ap (lookup (nat_eq c.args.id)) c.self.invariant.keyed ∙ lookup-keyed (values_of c.self.inside.map.entries) c.args.id
    ∙ ap (find (λ slot. c.args.id == slot.id)) c.self.view_is
