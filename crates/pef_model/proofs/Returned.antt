-- The registers of a vCPU that UV_RETURN takes up.
use Rattle.std.proofs.Common.{◌≡◌, ℕ, ◌+◌, ◌-◌, ◌≤◌, List, ◌++◌, length, take, drop, Bool, true, false, refl, ap, sym, ◌∙◌, ◌==◌, nat_le, if◌then◌else◌, Option, Some, None, arith, length-append, length-take, length-drop, get_or}
use Rattle.std.specs.Prelude.{unwrap_or, slice_get}
use Rattle.std.proofs.Math.ListN.{length-set}
use Rattle.pef_model.specs.declared.state.Pending.TheVariants as pending
use Rattle.pef_model.specs.declared.state.VState.{VState}
use Rattle.pef_model.specs.declared.state.VState.TheVariants.{Parked}
use Rattle.pef_model.specs.declared.state.Regs.{Regs}
use Rattle.pef_model.specs.declared.hypercall.TheConstants.{HCALLS}
use Rattle.pef_model.specs.declared.hypercall.Row.{Row}
use Rattle.pef_model.specs.Registers.{with_outputs}
use Rattle.pef_model.specs.Hypercalls.{row_of}
use Rattle.pef_model.specs.GuestPart.{call_of_state}
use Rattle.pef_model.specs.Guest.{entered_at, address_for, with_outputs_of, returned_to, returned_by}
use Rattle.pef_model.specs.SearchLaw.{output_in, assigned_returning}
use Rattle.pef_model.proofs.Called.{placed_value, set_value}
use Rattle.pef_model.proofs.HypercallRows.{row_is_whole}

-- R2 moves no register of R0 to R31
entered_gpr : (regs : Regs) (r2 : ℕ) → (entered_at regs r2).gpr ≡ regs.gpr
entered_gpr regs r2 = by_test (r2 == 0) where
  by_test : (b : Bool) → (if b then regs else record regs { nip = r2; srr0 = regs.nip }).gpr ≡ regs.gpr
  by_test true = refl
  by_test false = refl

-- so R0 to R31 of a vCPU that is taken up have what UV_RETURN brings it
pub returned_gpr : (state : VState) (regs : Regs) (r0 r2 : ℕ) (outs : List ℕ) → (returned_by state regs r0 r2 outs).gpr ≡ (returned_to state regs r0 outs).gpr
returned_gpr state regs r0 r2 outs = entered_gpr (returned_to state regs r0 outs) (address_for (call_of_state state) r2)

-- whether a vCPU in this state waits for the answer of a hypercall of a secure guest
abbrev pub waits_for_call : VState → Bool
waits_for_call (Parked (pending.Hcall n)) = true
waits_for_call other = false

-- UV_RETURN brings a vCPU in another state nothing
pub same_returned : (state : VState) (regs : Regs) (r0 : ℕ) (outs : List ℕ) → waits_for_call state ≡ false → returned_to state regs r0 outs ≡ regs
same_returned (Parked (pending.Hcall n)) regs r0 outs other = cc
same_returned (Parked waits) regs r0 outs other = refl
same_returned state regs r0 outs other = refl

-- each register after the first of some values were put into R4 and the registers after it
module _ (gpr outs : List ℕ) (full : length gpr ≡ 32) (nine : length outs ≡ 9) where
  counted : (count : ℕ) → count ≤ 9 → length (take count outs) ≡ count
  counted count few = simp length-take (omega (arith, nine, few))

  pub outputs_value : (count r : ℕ) → count ≤ 9 → get_or (with_outputs gpr count outs) r 0 ≡ unwrap_or (if nat_le 4 r then slice_get (take count outs) (r - 4) else None) (get_or gpr r 0)
  outputs_value count r few =
      ap (λ (n : ℕ). get_or (take 4 gpr ++ (take count outs ++ drop (4 + n) gpr)) r 0) (sym (counted count few)) ∙ placed_value gpr (take count outs) r full (omega (arith, counted count few, few))

  pub length_outputs : (count : ℕ) → count ≤ 9 → length (with_outputs gpr count outs) ≡ 32
  length_outputs count few = simp (length-append, length-take, length-drop) (omega (arith, full, nine, few))

  -- those of a hypercall's row
  row_value : (n r : ℕ) (o : Option Row) → row_of HCALLS n ≡ o → get_or (with_outputs_of o gpr outs) r 0 ≡ unwrap_or (output_in o outs r) (get_or gpr r 0)
  row_value n r None is = refl
  row_value n r (Some row) is = outputs_value row.outputs r (row_is_whole n row is).outputs

  length_row : (n : ℕ) (o : Option Row) → row_of HCALLS n ≡ o → length (with_outputs_of o gpr outs) ≡ 32
  length_row n None is = full
  length_row n (Some row) is = length_outputs row.outputs (row_is_whole n row is).outputs

-- there are as many registers as before
length_returned : (state : VState) (regs : Regs) (r0 : ℕ) (outs : List ℕ) → length outs ≡ 9 → length regs.gpr ≡ 32 → length (returned_to state regs r0 outs).gpr ≡ 32
length_returned (Parked (pending.Hcall n)) regs r0 outs nine full = simp length-set (length_row regs.gpr outs full nine n (row_of HCALLS n) refl)
length_returned (Parked waits) regs r0 outs nine full = full
length_returned state regs r0 outs nine full = full

pub length_entered : (state : VState) (regs : Regs) (r0 r2 : ℕ) (outs : List ℕ) → length outs ≡ 9 → length regs.gpr ≡ 32 → length (returned_by state regs r0 r2 outs).gpr ≡ 32
length_entered state regs r0 r2 outs nine full = ap length (returned_gpr state regs r0 r2 outs) ∙ length_returned state regs r0 outs nine full

-- each register has what UV_RETURN brings it, as a search finds it
pub returned_value : (state : VState) (regs : Regs) (r0 : ℕ) (outs : List ℕ) (r : ℕ) → length outs ≡ 9 → length regs.gpr ≡ 32 →
    get_or (returned_to state regs r0 outs).gpr r 0 ≡ unwrap_or (assigned_returning state r0 outs r) (get_or regs.gpr r 0)
returned_value (Parked (pending.Hcall n)) regs r0 outs r nine full =
    set_value (with_outputs_of (row_of HCALLS n) regs.gpr outs) 3 r0 r (length_row regs.gpr outs full nine n (row_of HCALLS n) refl) (omega arith) ∙ by_test (r == 3) where
      by_test : (b : Bool) → unwrap_or (if b then Some r0 else None) (get_or (with_outputs_of (row_of HCALLS n) regs.gpr outs) r 0) ≡ unwrap_or (if b then Some r0 else output_in (row_of HCALLS n) outs r) (get_or regs.gpr r 0)
      by_test true = refl
      by_test false = row_value regs.gpr outs full nine n r (row_of HCALLS n) refl
returned_value (Parked waits) regs r0 outs r nine full = refl
returned_value state regs r0 outs r nine full = refl
