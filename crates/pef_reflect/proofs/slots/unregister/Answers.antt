use Rattle.std.proofs.Common.{◌≡◌, true, ap, sym, ◌∙◌, rules}
use Rattle.pef_model.specs.SlotCalls.{may_change_slots_in}
use Rattle.pef_reflect.proofs.SlotRow.{code_found, unregisters_with}
use Rattle.pef_reflect.proofs.slots.unregister.Goals as goal

pub returns-in-Ok-clause-code : goal.returns-in-Ok-clause-code
returns-in-Ok-clause-code g c plan whole shows =
    let may : may_change_slots_in c.args.guest.now.phase ≡ true = search rules in
    ap code_found (sym c.in-Ok.is ∙ c.unregister.ensures.slot) ∙ unregisters_with shows may c.args.id

pub returns-in-Err-clause-code : goal.returns-in-Err-clause-code
returns-in-Err-clause-code g c plan whole shows =
    let may : may_change_slots_in c.args.guest.now.phase ≡ true = search rules in
    c.code_of.ensures ∙ ap code_found (sym c.in-Err.is ∙ c.unregister.ensures.slot) ∙ unregisters_with shows may c.args.id
