-- UV_PAGE_IN: with which code it comes back at once, and which bytes are accepted.
use Rattle.std.specs.Prelude.{ℕ, ◌==◌, nat_lt, Bool, true, false, not, ◌&&◌, if◌then◌else◌, List, Option, Some, None, is_some}
use Rattle.std.specs.Str.{bytes_eq}
use Rattle.pef_model.specs.declared.state.Phase.{Phase}
use Rattle.pef_model.specs.declared.state.Phase.TheVariants as phase
use Rattle.pef_model.specs.declared.state.Kind.{Kind}
use Rattle.pef_model.specs.declared.state.Kind.TheVariants as kind
use Rattle.pef_model.specs.declared.command.TheConstants.{PAGE_IN_FLAGS}
use Rattle.pef_model.specs.declared.command.Code.{Code}
use Rattle.pef_model.specs.declared.command.Code.TheVariants.{UParameter, UP2, UP3, UP4, UP5, UBusy}
use Rattle.pef_model.specs.Plan.{Plan}
use Rattle.pef_model.specs.GuestPart.{GuestPart, page_of}
use Rattle.pef_model.specs.PageOut.{has_frame, has_page}

-- whether UV_PAGE_IN is for a guest in this phase
abbrev pub may_page_in_in : Phase → Bool
may_page_in_in phase.Absent = false
may_page_in_in phase.Normal = false
may_page_in_in phase.Starting = true
may_page_in_in phase.Secure = true
may_page_in_in phase.Aborting = false

-- whether a page of this kind may come in, in a guest of this phase: one that is Out may in each
abbrev pub can_come_in : Phase → Kind → Bool
can_come_in guest_phase kind.Out = true
can_come_in guest_phase other = false

-- whether a guest address is that of a page that may come in
abbrev pub may_come_in : Plan → GuestPart → ℕ → Bool
may_come_in plan g gpa = has_page plan gpa && can_come_in g.phase (g.pages (page_of plan gpa)).kind

-- the code with which UV_PAGE_IN comes back by what it names, from left to right; None where all is well
abbrev pub page_in_operands : Plan → GuestPart → ℕ → ℕ → ℕ → ℕ → Option Code
page_in_operands plan g src gpa flags order =
    if not (may_page_in_in g.phase) then Some UParameter
    else if not (has_frame plan src) then Some UP2
    else if not (may_come_in plan g gpa) then Some UP3
    else if nat_lt PAGE_IN_FLAGS flags then Some UP4
    else if not (order == plan.shift) then Some UP5
    else if is_some (g.pages (page_of plan gpa)).mover then Some UBusy
    else None

-- whether bytes are those that were last sealed of a page
abbrev pub is_last_sealed : Option (List ℕ) → List ℕ → Bool
is_last_sealed None bytes = false
is_last_sealed (Some sealed) bytes = bytes_eq bytes sealed
