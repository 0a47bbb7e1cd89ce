-- UV_WRITE_PATE and h.enter: with which code they come back.
use Rattle.std.specs.Prelude.{ℕ, ◌+◌, nat_lt, nat_le, Bool, true, false, not, ◌&&◌, if◌then◌else◌, Option, Some, None}
use Rattle.pef_model.specs.declared.state.Phase.{Phase}
use Rattle.pef_model.specs.declared.state.Phase.TheVariants as phase
use Rattle.pef_model.specs.declared.state.VState.{VState}
use Rattle.pef_model.specs.declared.state.VState.TheVariants as vstate
use Rattle.pef_model.specs.declared.command.Code.{Code}
use Rattle.pef_model.specs.declared.command.Code.TheVariants.{USuccess, UParameter, UP2, UP3, UPermission}
use Rattle.pef_model.specs.Plan.{Plan}
use Rattle.pef_model.specs.Target.{frame_of}
use Rattle.pef_model.specs.GuestPart.{GuestPart}
use Rattle.pef_model.specs.PageOut.{has_frame}

-- whether a partition entry of this base and length has at most the guest's pages, and a normal frame for each
abbrev pub has_frames : Plan → ℕ → ℕ → Bool
has_frames plan dw0 dw1 = nat_le dw1 plan.pages && nat_le (frame_of plan dw0 + dw1) plan.normal

-- whether the partition entry of a guest in this phase may be written: one that is to be secure, or was, keeps its own
abbrev pub may_write_in : Phase → Bool
may_write_in phase.Absent = true
may_write_in phase.Normal = true
may_write_in other = false

-- the code with which UV_WRITE_PATE comes back
abbrev pub write_code : Plan → GuestPart → ℕ → ℕ → Code
write_code plan g dw0 dw1 =
    if not (may_write_in g.phase) then UPermission
    else if not (has_frame plan dw0) then UP2
    else if not (has_frames plan dw0 dw1) then UP3
    else USuccess

-- whether h.enter is for a guest in this phase: one in normal memory
abbrev pub may_enter_in : Phase → Bool
may_enter_in phase.Normal = true
may_enter_in other = false

-- whether h.enter enters a vCPU in this state: one that hasn't run, or waits
abbrev pub can_be_entered : VState → Bool
can_be_entered vstate.Idle = true
can_be_entered (vstate.Parked pending) = true
can_be_entered other = false

-- the code with which h.enter comes back; None where it enters
abbrev pub enter_code : Plan → GuestPart → ℕ → Option Code
enter_code plan g vid =
    if not (may_enter_in g.phase) then Some UParameter
    else if not (nat_lt vid plan.vcpus && can_be_entered (g.vcpus vid).state) then Some UP2
    else None
