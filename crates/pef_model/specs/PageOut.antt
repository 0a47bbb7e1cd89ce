-- UV_PAGE_OUT: with which code it comes back at once, and what it seals.
use Rattle.std.specs.Prelude.{ℕ, ◌+◌, ◌*◌, ◌/◌, ◌%◌, ◌^◌, ◌==◌, nat_lt, Bool, true, false, not, ◌&&◌, ◌||◌, if◌then◌else◌, List, map, Option, Some, None, is_some, unwrap_or, []}
use Rattle.std.specs.List.{range_with_len}
use Rattle.pef_model.specs.declared.state.Phase.{Phase}
use Rattle.pef_model.specs.declared.state.Phase.TheVariants as phase
use Rattle.pef_model.specs.declared.state.Kind.{Kind}
use Rattle.pef_model.specs.declared.state.Kind.TheVariants as kind
use Rattle.pef_model.specs.declared.state.Tag.{Tag}
use Rattle.pef_model.specs.declared.command.TheConstants.{UV_SNAPSHOT}
use Rattle.pef_model.specs.declared.command.Code.{Code}
use Rattle.pef_model.specs.declared.command.Code.TheVariants.{USuccess, UParameter, UP2, UP3, UP4, UP5, UFunction, UBusy}
use Rattle.pef_model.specs.Plan.{Plan}
use Rattle.pef_model.specs.Seal.{doublewords}
use Rattle.pef_model.specs.Target.{frame_of}
use Rattle.pef_model.specs.GuestPart.{GuestPart, page_of, is_shared}
use Rattle.pef_model.specs.Guest.{Guest}

-- whether UV_PAGE_OUT is for a guest in this phase
abbrev pub may_page_out_in : Phase → Bool
may_page_out_in phase.Absent = false
may_page_out_in phase.Normal = false
may_page_out_in phase.Starting = true
may_page_out_in phase.Secure = true
may_page_out_in phase.Aborting = false

-- whether a guest is on its way to become secure
abbrev pub is_starting : Phase → Bool
is_starting phase.Absent = false
is_starting phase.Normal = false
is_starting phase.Starting = true
is_starting phase.Secure = false
is_starting phase.Aborting = false

-- whether a page of this kind lies in a frame, or is shared and may: a page that is Invalid or Out can't be paged out
abbrev pub can_go_out : Kind → Bool
can_go_out kind.Invalid = false
can_go_out kind.Secure = true
can_go_out kind.Out = false
can_go_out (kind.Shared frame fresh) = true

-- whether a real address is that of a normal frame
abbrev pub has_frame : Plan → ℕ → Bool
has_frame plan ra = (ra % 2 ^ plan.shift == 0) && nat_lt (frame_of plan ra) plan.normal

-- whether a guest address is that of a page
abbrev pub has_page : Plan → ℕ → Bool
has_page plan gpa = (gpa % 2 ^ plan.shift == 0) && nat_lt (page_of plan gpa) plan.pages

-- the code with which UV_PAGE_OUT comes back at once: by the guest's phase, the operands from left to right, and then the page; None where the page begins to move
abbrev pub page_out_code : Plan → GuestPart → ℕ → ℕ → ℕ → ℕ → Option Code
page_out_code plan g dest gpa flags order =
    if not (may_page_out_in g.phase) then Some UParameter
    else if not (has_frame plan dest) then Some UP2
    else if not (has_page plan gpa && can_go_out (g.pages (page_of plan gpa)).kind) then Some UP3
    else if flags == UV_SNAPSHOT then Some UFunction
    else if nat_lt 0 flags then Some UP4
    else if not (order == plan.shift) then Some UP5
    else if is_shared (g.pages (page_of plan gpa)).kind then Some USuccess
    else if is_starting g.phase || is_some (g.pages (page_of plan gpa)).mover then Some UBusy
    else None

-- the tag of a page at a version
abbrev pub tag_of : GuestPart → ℕ → ℕ → ℕ → Tag
tag_of g lpid gfn version = record { lpid = lpid; generation = g.generation; gfn = gfn; version = version }

-- the bytes of a page of 2^shift bytes, by the doubleword at each address
unfoldable pub page_bytes : ℕ → (ℕ → ℕ) → ℕ → List ℕ
page_bytes shift value gfn = doublewords (map (λ i. value (gfn * 2 ^ shift + 8 * i)) (range_with_len 0 (2 ^ shift / 8)))

-- a page of a guest: the doublewords last stored there
abbrev pub private_page : Plan → Guest → ℕ → List ℕ
private_page plan g gfn = page_bytes plan.shift g.content gfn

-- the sealed page that a page-out of a page makes: its image under the tag of its next version
abbrev pub sealed_page : Plan → Guest → ℕ → ℕ → List ℕ
sealed_page plan g lpid gfn = plan.image (tag_of g.part lpid gfn ((g.part.pages gfn).version + 1)) (private_page plan g gfn)

-- what a page-out of a page puts into the hand: its sealed page; of a guest that isn't to be secure its bytes, which are public
abbrev pub bytes_out : Phase → Plan → Guest → ℕ → ℕ → List ℕ
bytes_out phase.Aborting plan g lpid gfn = unwrap_or (g.part.pages gfn).plain []
bytes_out other plan g lpid gfn = sealed_page plan g lpid gfn
