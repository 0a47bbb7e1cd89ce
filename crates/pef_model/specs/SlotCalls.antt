-- UV_REGISTER_MEM_SLOT and UV_UNREGISTER_MEM_SLOT: with which code they come back.
use Rattle.std.specs.Prelude.{ℕ, ◌+◌, ◌/◌, ◌%◌, ◌^◌, ◌==◌, nat_le, Bool, true, false, not, ◌&&◌, if◌then◌else◌, length}
use Rattle.pef_model.specs.declared.state.Phase.{Phase}
use Rattle.pef_model.specs.declared.state.Phase.TheVariants as phase
use Rattle.pef_model.specs.declared.command.Code.{Code}
use Rattle.pef_model.specs.declared.command.Code.TheVariants.{USuccess, UParameter, UP2, UP3, UP4, UP5}
use Rattle.pef_model.specs.Plan.{Plan}
use Rattle.pef_model.specs.Slots.{has_id, meets_slots}
use Rattle.pef_model.specs.GuestPart.{GuestPart, page_of}
use Rattle.pef_model.specs.PageOut.{has_page}

-- whether the slots of a guest in this phase may be changed: of one that is secure, or is to be
abbrev pub may_change_slots_in : Phase → Bool
may_change_slots_in phase.Starting = true
may_change_slots_in phase.Secure = true
may_change_slots_in other = false

-- whether a size is that of one or more pages, and from a first one on the guest has that many
abbrev pub has_pages : Plan → ℕ → ℕ → Bool
has_pages plan first size = not (size == 0) && (size % 2 ^ plan.shift == 0) && nat_le (first + size / 2 ^ plan.shift) plan.pages

-- the code with which UV_REGISTER_MEM_SLOT comes back
abbrev pub register_code : Plan → GuestPart → ℕ → ℕ → ℕ → ℕ → Code
register_code plan g start size flags id =
    if not (may_change_slots_in g.phase) then UParameter
    else if not (has_page plan start) then UP2
    else if not (has_pages plan (page_of plan start) size) then UP3
    else if meets_slots g.slots (page_of plan start) (size / 2 ^ plan.shift) then UP3
    else if not (flags == 0) then UP4
    else if nat_le (2 ^ 16) id then UP5
    else if has_id g.slots id then UP5
    else if nat_le 32 (length g.slots) then UP5
    else USuccess

-- the code with which UV_UNREGISTER_MEM_SLOT comes back
abbrev pub unregister_code : GuestPart → ℕ → Code
unregister_code g id =
    if not (may_change_slots_in g.phase) then UParameter
    else if not (has_id g.slots id) then UP2
    else USuccess
