use Rattle.std.proofs.Common.{◌≡◌, true, List, ap, sym, ◌∙◌, rules}
use Rattle.pef_model.specs.declared.state.Slot.{Slot}
use Rattle.pef_model.specs.SlotCalls.{may_change_slots_in}
use Rattle.pef_reflect.proofs.SlotRow.{faulty_code, faulty_slots, registers_with}
use Rattle.pef_reflect.proofs.slots.register.Goals as goal

pub returns-in-Err-clause-code : goal.returns-in-Err-clause-code
returns-in-Err-clause-code g c plan whole shows =
    let may : may_change_slots_in c.args.guest.now.phase ≡ true = search rules in
    c.code_of.ensures ∙ faulty_code _ c.in-Err.fault (sym c.register.ensures.answer ∙ c.in-Err.is) ∙ registers_with shows may c.count-pages.result c.args.start c.args.size c.args.flags c.args.id c.count-pages.ensures

pub returns-in-Err-clause-guest : goal.returns-in-Err-clause-guest
returns-in-Err-clause-guest g c =
    rw c.code_of.ensures (ap (λ (slots : List Slot). record c.args.guest.now { slots = slots }) (c.register.ensures.slots ∙ faulty_slots _ c.in-Err.fault c.args.guest.now.slots _ (sym c.register.ensures.answer ∙ c.in-Err.is)))
