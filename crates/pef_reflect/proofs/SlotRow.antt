-- The calls about memory slots come back with the model's codes.
use Rattle.std.proofs.Common.{◌≡◌, ℕ, ◌==◌, true, List, length, refl, ap, sym, ◌∙◌, arith}
use Rattle.std.specs.Prelude.{Result, Ok, Err}
use Rattle.pef_model.specs.declared.state.Slot.{Slot}
use Rattle.pef_model.specs.declared.state.Tag.{Tag}
use Rattle.pef_model.specs.declared.command.Cmd.TheVariants.{URegslot, UUnregslot}
use Rattle.pef_model.specs.declared.command.Code.{Code}
use Rattle.pef_model.specs.declared.command.Code.TheVariants.{USuccess}
use Rattle.pef_model.specs.Plan.{Plan}
use Rattle.pef_model.specs.Slots.{registered_by, unregistered_by}
use Rattle.pef_model.specs.Guest.{Guest as GuestWhole}
use Rattle.pef_model.specs.SlotCalls.{may_change_slots_in, register_code, unregister_code}
use Rattle.pef_slots.specs.declared.slot.SlotFault.{SlotFault}
use Rattle.pef_slots.specs.declared.slot.SlotFault.TheVariants.{BadStart}
use Rattle.pef_slots.specs.Slots.{checked, answered, registered, found}
use Rattle.pef_slots.proofs.Found.{is_some-found}
use Rattle.pef_guest.specs.declared.guest.Guest.{Guest}
use Rattle.pef_guest.specs.Aims.{is_refusal}
use Rattle.pef_guest.specs.Shows.{Shows}
use Rattle.pef_reflect.specs.Slots.{code_of}

-- the code of what was found wrong, or not
abbrev pub code_found : Result Slot SlotFault → Code
code_found (Ok slot) = USuccess
code_found (Err fault) = code_of fault

-- a registration that is refused comes back with the code of its fault, and leaves the slots
pub faulty_code : (r : Result Slot SlotFault) (fault : SlotFault) → answered r ≡ Err fault → code_of fault ≡ code_found r
faulty_code (Ok slot) fault is = cc
faulty_code (Err other) fault is = cc

pub faulty_slots : (r : Result Slot SlotFault) (fault : SlotFault) (slots : List Slot) (slot : Slot) → answered r ≡ Err fault → registered slots r ≡ registered_by (code_of fault) slots slot
faulty_slots (Ok other) fault slots slot is = cc
faulty_slots (Err other) BadStart slots slot is = refl
faulty_slots (Err other) fault slots slot is = refl

module _ {S : Type 0} {stands : S → Tag → List ℕ → List ℕ → Type 0} {image : S → Tag → List ℕ → List ℕ} {plan : Plan} {guest : Guest S} {g : GuestWhole} (shows : Shows stands image plan guest g) (may : may_change_slots_in guest.phase ≡ true) where
  may_also : may_change_slots_in g.part.phase ≡ true
  may_also = sym (ap may_change_slots_in shows.phase) ∙ may

  -- the code of a registration is the model's
  pub registers_with : (pages start size flags id : ℕ) → pages ≡ length guest.pages.pages → code_found (checked guest.shift pages guest.slots start size flags id) ≡ register_code plan g.part start size flags id
  registers_with pages start size flags id all = let k = may_also in rw (all, shows.shift, shows.pages.count, shows.slots) (grind arith)

  -- and that of a slot that is taken out
  pub unregisters_with : (id : ℕ) → code_found (found guest.slots id) ≡ unregister_code g.part id
  unregisters_with id = let k = may_also in rw shows.slots (grind (arith, is_some-found (λ (slot : Slot). id == slot.id) g.part.slots))

-- a code that refuses leaves the slots
pub refused_registered : (code : Code) (lpid start size flags id : ℕ) (slots : List Slot) (slot : Slot) → is_refusal (URegslot lpid start size flags id) code ≡ true → registered_by code slots slot ≡ slots
refused_registered USuccess lpid start size flags id slots slot refusal = absurd cc
refused_registered code lpid start size flags id slots slot refusal = refl

pub refused_unregistered : (code : Code) (lpid id : ℕ) (slots : List Slot) → is_refusal (UUnregslot lpid id) code ≡ true → unregistered_by code slots id ≡ slots
refused_unregistered USuccess lpid id slots refusal = absurd cc
refused_unregistered code lpid id slots refusal = refl
