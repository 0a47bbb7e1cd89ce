use Rattle.std.proofs.Common.{nat_eq, is_some, ap, ◌∙◌}
use Rattle.std.specs.Map.{lookup}
use Rattle.pef_model.specs.Slots.{has_id}
use Rattle.pef_slots.proofs.Keyed.{is_some-keyed}
use Rattle.pef_slots.proofs.slots.Slots.has_id.Goals as goal

-- the map's entries are the slots with their ids
pub returns : goal.returns
returns c =
    c.contains_key.ensures ∙ ap (λ es. is_some (lookup (nat_eq c.args.id) es)) c.self.invariant.keyed
    ∙ is_some-keyed _ c.args.id ∙ ap (λ slots. has_id slots c.args.id) c.self.view_is
