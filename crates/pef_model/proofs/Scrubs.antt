-- What is seen in each register of what leaves.
use Rattle.std.proofs.Common.{◌≡◌, ◌≢◌, ℕ, ◌+◌, ◌<◌, ◌≤◌, List, length, get_or, refl, sym, ap, ◌∙◌, arith}
use Rattle.std.specs.Prelude.{slice_get, Some, ◌⊎◌}
use Rattle.std.proofs.lemmas.Option.{slice_get-get_or}
use Rattle.std.proofs.lemmas.List.FromFn.{get_or-map-range_with_len}
use Rattle.std.proofs.lemmas.Grind.{common_steps, same_number_lists}
use Rattle.pef_model.specs.declared.state.Regs.{Regs}
use Rattle.pef_model.specs.declared.hypercall.Row.{Row}
use Rattle.pef_model.specs.Hypercalls.{IsRow, value_scrubbed, scrubbed}
use Rattle.pef_model.specs.ScrubLaw.{ShowsInputsAlone, SameInputsShowTheSame}

-- each of the 32 registers shows its value
register_is : (row : Row) (regs : Regs) (r : ℕ) → r < 32 → get_or (scrubbed row regs).gpr r 0 ≡ value_scrubbed row regs.gpr r
register_is row regs r below = get_or-map-range_with_len (value_scrubbed row regs.gpr) 0 32 r r 0 below (omega arith)

-- and is there
register_at : (row : Row) (regs : Regs) (r : ℕ) → r < 32 → slice_get (scrubbed row regs).gpr r ≡ Some (value_scrubbed row regs.gpr r)
register_at row regs r below = slice_get-get_or (scrubbed row regs).gpr r 0 below ∙ ap Some (register_is row regs r below)

-- 32 registers that show their values are all that leaves
pub scrubbed-from_registers : (row : Row) (regs : Regs) (gpr : List ℕ) → length gpr ≡ 32 → ((r : ℕ) → r < 32 → get_or gpr r 0 ≡ value_scrubbed row regs.gpr r)
    → record { gpr = gpr; nip = 0; srr0 = 0 } ≡ scrubbed row regs
scrubbed-from_registers row regs gpr long each = ap shown same where
  shown : List ℕ → Regs
  shown gpr = record { gpr = gpr; nip = 0; srr0 = 0 }

  same : gpr ≡ (scrubbed row regs).gpr
  same = same_number_lists _ _ long (λ r h. let below : r < 32 = omega (arith, long, h) in each r below ∙ sym (register_is row regs r below))

-- an input shows what the guest put there
value_of_input : (row : Row) (gpr : List ℕ) (r : ℕ) → IsRow row → 4 ≤ r → r < 4 + row.inputs → value_scrubbed row gpr r ≡ get_or gpr r 0
value_of_input row gpr r whole low high =
    let from_first : row.first ≤ r = omega (arith, whole.first, low) in
    let to_last : r < row.first + row.inputs = omega (arith, whole.first, high) in
    let three : r ≢ 3 = omega (arith, low) in
    grind (arith, common_steps)

-- a register that is neither R3 nor an input shows 0
value_of_other : (row : Row) (gpr : List ℕ) (r : ℕ) → IsRow row → r ≢ 3 → (r < 4) ⊎ (4 + row.inputs ≤ r) → value_scrubbed row gpr r ≡ 0
value_of_other row gpr r whole three other =
    let outside : (r < row.first) ⊎ (row.first + row.inputs ≤ r) = grind (arith, whole.first) in
    grind (arith, common_steps)

-- a row's call leaves with its number and its inputs alone
pub each_row : (row : Row) (regs : Regs) → IsRow row → length regs.gpr ≡ 32 → ShowsInputsAlone row regs (scrubbed row regs)
each_row row regs whole long = record {
  number = register_at row regs 3 (omega arith);
  inputs = λ r low high.
      let below : r < 32 = omega (arith, high, whole.inputs) in
      let within : r < length regs.gpr = omega (arith, below, long) in
      register_at row regs r below ∙ ap Some (value_of_input row regs.gpr r whole low high) ∙ sym (slice_get-get_or regs.gpr r 0 within);
  others = λ r below three other. register_at row regs r below ∙ ap Some (value_of_other row regs.gpr r whole three other);
  nip = refl;
  srr0 = refl;
}

-- where the inputs are the same, each register shows the same
same_value : (row : Row) (gpr other : List ℕ) (r : ℕ) → (row.first ≤ r → r < row.first + row.inputs → get_or gpr r 0 ≡ get_or other r 0)
    → value_scrubbed row gpr r ≡ value_scrubbed row other r
same_value row gpr other r same = grind (arith, common_steps)

pub same_inputs : SameInputsShowTheSame
same_inputs row regs other whole same = scrubbed-from_registers row other (scrubbed row regs).gpr refl each where
  each : (r : ℕ) → r < 32 → get_or (scrubbed row regs).gpr r 0 ≡ value_scrubbed row other.gpr r
  each r below =
      register_is row regs r below
      ∙ same_value row regs.gpr other.gpr r (λ low high. same r (omega (arith, whole.first, low)) (omega (arith, whole.first, high)))
