-- Laws of what leaves with a hypercall.
use Rattle.std.specs.Prelude.{◌≡◌, ◌≢◌, ◌⊎◌, ℕ, ◌+◌, ◌<◌, ◌≤◌, List, length, slice_get, slice_index, Some}
use Rattle.std.specs.List.{Contains}
use Rattle.pef_model.specs.declared.state.Regs.{Regs}
use Rattle.pef_model.specs.declared.hypercall.TheConstants.{HCALLS}
use Rattle.pef_model.specs.declared.hypercall.Row.{Row}
use Rattle.pef_model.specs.Hypercalls.{IsRow, IsTable, scrubbed}

-- R3 is the row's number, the inputs are kept, and every other register is 0
pub record ShowsInputsAlone (row : Row) (regs shown : Regs) : Type 0 where
  pub number : slice_get shown.gpr 3 ≡ Some row.number
  pub inputs : (r : ℕ) → 4 ≤ r → r < 4 + row.inputs → slice_get shown.gpr r ≡ slice_get regs.gpr r
  pub others : (r : ℕ) → r < 32 → r ≢ 3 → (r < 4) ⊎ (4 + row.inputs ≤ r) → slice_get shown.gpr r ≡ Some 0
  pub nip : shown.nip ≡ 0
  pub srr0 : shown.srr0 ≡ 0

-- so is it with each row of every table, whatever a guest's registers hold
abbrev pub EachRowShowsInputsAlone : Type 0
EachRowShowsInputsAlone =
    (rows : List Row) (row : Row) (regs : Regs) → IsTable rows → Contains rows row → length regs.gpr ≡ 32 → ShowsInputsAlone row regs (scrubbed row regs)

-- so is it with each row of the table of hypercalls
abbrev pub EachHypercallShowsInputsAlone : Type 0
EachHypercallShowsInputsAlone = (row : Row) (regs : Regs) → Contains HCALLS row → length regs.gpr ≡ 32 → ShowsInputsAlone row regs (scrubbed row regs)

-- guests whose registers have the same inputs show the same, whatever else they hold: nothing but the inputs leaves
abbrev pub SameInputsShowTheSame : Type 0
SameInputsShowTheSame =
    (row : Row) (regs other : Regs) → IsRow row → ((r : ℕ) → 4 ≤ r → r < 4 + row.inputs → slice_index regs.gpr r ≡ slice_index other.gpr r)
    → scrubbed row regs ≡ scrubbed row other
