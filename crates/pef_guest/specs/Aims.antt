-- Which objects a step may change, by its CPU's context and its command.
use Rattle.std.specs.Prelude.{ℕ, ◌==◌, Bool, true, false, if◌then◌else◌, Option, Some, None}
use Rattle.pef_model.specs.declared.state.Work.TheVariants.{Inward, Outward}
use Rattle.pef_model.specs.declared.state.Ctx.{Ctx}
use Rattle.pef_model.specs.declared.state.Ctx.TheVariants as ctx
use Rattle.pef_model.specs.declared.aim.Aim.{Aim}
use Rattle.pef_model.specs.declared.aim.Aim.TheVariants as aim
use Rattle.pef_model.specs.declared.command.Code.{Code}
use Rattle.pef_model.specs.declared.command.Code.TheVariants.{USuccess, HSuccess}
use Rattle.pef_model.specs.declared.command.Cmd.{Cmd}
use Rattle.pef_model.specs.declared.command.Cmd.TheVariants.{UPate, UPagein, UPageout, GLd, GSt, Go}
use Rattle.pef_model.specs.Plan.{Plan}
use Rattle.pef_model.specs.Target.{aim_in}
use Rattle.pef_model.specs.GuestPart.{GuestPart, Meeting, Normal, meets}

-- the guest of an aim, by its number: the one that is named or is there, or the one whose page moves, once it is copied
abbrev pub guest_of : Aim → Option ℕ
guest_of (aim.NamedGuest lpid) = Some lpid
guest_of (aim.Guest lpid) = Some lpid
guest_of (aim.Move move) = if move.copied then Some move.lpid else None
guest_of other = None

-- the guest that a step may change, by its number
abbrev pub guest_aimed : Ctx → ℕ → Cmd → Option ℕ
guest_aimed before selected cmd = guest_of (aim_in before selected cmd)

-- the normal frame of what an access meets
abbrev pub frame_met : Meeting → Option ℕ
frame_met (Normal n) = Some n
frame_met met = None

-- the normal frame that a command of a vCPU touches: that of its access
abbrev pub frame_running : Plan → GuestPart → Cmd → Option ℕ
frame_running plan g (GLd rd gpa) = frame_met (meets plan g gpa)
frame_running plan g (GSt rs gpa) = frame_met (meets plan g gpa)
frame_running plan g cmd = None

-- the normal frame that a step at a guest touches
abbrev pub frame_at_guest : Plan → GuestPart → Ctx → Cmd → Option ℕ
frame_at_guest plan g (ctx.Guest run) cmd = if run.generation == g.generation then frame_running plan g cmd else None
frame_at_guest plan g before cmd = None

-- whether a step may take a free secure frame or give one back: a load or store of a guest, UV_PAGE_IN and the end of a move
abbrev pub uses_pool : Ctx → Cmd → Bool
uses_pool ctx.Hv (UPagein lpid src gpa flags order) = true
uses_pool (ctx.Uv (Inward move)) Go = move.copied
uses_pool (ctx.Uv (Outward move)) Go = move.copied
uses_pool (ctx.Guest run) (GLd rd gpa) = true
uses_pool (ctx.Guest run) (GSt rs gpa) = true
uses_pool before cmd = false

-- whether a step may change a guest's phase, its generation or its partition entry: UV_WRITE_PATE of the hypervisor
abbrev pub changes_life : Ctx → Cmd → Bool
changes_life ctx.Hv (UPate lpid dw0 dw1) = true
changes_life before cmd = false

-- whether a call that comes back at once with a code has changed nothing but its caller: U_SUCCESS says that it is done, and for a page-out that there was nothing to do
abbrev pub is_refusal : Cmd → Code → Bool
is_refusal (UPageout lpid dest gpa flags order) USuccess = true
is_refusal cmd USuccess = false
is_refusal cmd HSuccess = false
is_refusal cmd code = true
