-- UV_PAGE_INVAL: with which code it comes back.
use Rattle.std.specs.Prelude.{ℕ, ◌==◌, Bool, true, false, not, ◌&&◌, if◌then◌else◌}
use Rattle.pef_model.specs.declared.state.Kind.{Kind}
use Rattle.pef_model.specs.declared.state.Kind.TheVariants as kind
use Rattle.pef_model.specs.declared.command.Code.{Code}
use Rattle.pef_model.specs.declared.command.Code.TheVariants.{USuccess, UParameter, UP2, UP3}
use Rattle.pef_model.specs.Plan.{Plan}
use Rattle.pef_model.specs.GuestPart.{GuestPart, page_of}
use Rattle.pef_model.specs.PageOut.{has_page}
use Rattle.pef_model.specs.PageIn.{may_page_in_in}

-- whether a page of this kind has nothing that would be lost: it is Invalid or Shared
abbrev pub may_be_dropped : Kind → Bool
may_be_dropped kind.Invalid = true
may_be_dropped kind.Secure = false
may_be_dropped kind.Out = false
may_be_dropped (kind.Shared frame fresh) = true

-- the code with which UV_PAGE_INVAL comes back: by the guest's phase, the page and the order, from left to right
abbrev pub page_inval_code : Plan → GuestPart → ℕ → ℕ → Code
page_inval_code plan g gpa order =
    if not (may_page_in_in g.phase) then UParameter
    else if not (has_page plan gpa && may_be_dropped (g.pages (page_of plan gpa)).kind) then UP2
    else if not (order == plan.shift) then UP3
    else USuccess
