-- What comes back with UV_RETURN in each register.
use Rattle.std.proofs.Common.{◌≡◌, ◌≢◌, ℕ, ◌+◌, ◌-◌, ◌<◌, ◌≤◌, List, length, take, get_or, refl, sym, ap, ◌∙◌, arith, ◌==◌, nat_le, nat_lt, Bool, true, false, inl, inr, if◌then◌else◌, length-take}
use Rattle.std.specs.Prelude.{slice_get, unwrap_or, Some, None, ◌⊎◌}
use Rattle.std.proofs.Math.ListN.{length-set}
use Rattle.std.proofs.lemmas.Bool.Decides.{nat_tests}
use Rattle.std.proofs.lemmas.List.{get_or-take}
use Rattle.std.proofs.lemmas.Option.{slice_get-get_or, slice_get_past}
use Rattle.pef_model.specs.declared.state.Regs.{Regs}
use Rattle.pef_model.specs.declared.hypercall.Row.{Row}
use Rattle.pef_model.specs.Registers.{with_outputs}
use Rattle.pef_model.specs.Hypercalls.{IsRow}
use Rattle.pef_model.specs.Guest.{answered_by}
use Rattle.pef_model.specs.ReturnLaw.{TakesOutputsAlone}
use Rattle.pef_model.proofs.Called.{set_value}
use Rattle.pef_model.proofs.Returned.{outputs_value, length_outputs}

module _ (row : Row) (regs : Regs) (r0 : ℕ) (outs : List ℕ) (whole : IsRow row) (full : length regs.gpr ≡ 32) (nine : length outs ≡ 9) where
  abbrev brought : List ℕ
  brought = with_outputs regs.gpr row.outputs outs

  long : length brought ≡ 32
  long = length_outputs regs.gpr outs full nine row.outputs whole.outputs

  abbrev answered : List ℕ
  answered = (answered_by (Some row) regs r0 outs).gpr

  all : length answered ≡ 32
  all = length-set brought 3 r0 ∙ long

  -- each of the 32 registers
  each : (r : ℕ) → get_or answered r 0 ≡ unwrap_or (if r == 3 then Some r0 else None) (unwrap_or (if nat_le 4 r then slice_get (take row.outputs outs) (r - 4) else None) (get_or regs.gpr r 0))
  each r = set_value brought 3 r0 r long (omega arith) ∙ ap (unwrap_or (if r == 3 then Some r0 else None)) (outputs_value regs.gpr outs full nine row.outputs r whole.outputs)

  counted : length (take row.outputs outs) ≡ row.outputs
  counted = simp length-take (omega (arith, nine, whole.outputs))

  output : (r : ℕ) → 4 ≤ r → r < 4 + row.outputs → slice_get answered r ≡ slice_get outs (r - 4)
  output r low high =
      let less : r - 4 < row.outputs = omega (arith, low, high) in
      let below : r < length answered = omega (arith, all, high, whole.outputs) in
      let other : r ≢ 3 = omega (arith, low) in
      let one : slice_get (take row.outputs outs) (r - 4) ≡ Some (get_or outs (r - 4) 0) =
      slice_get-get_or (take row.outputs outs) (r - 4) 0 (omega (arith, counted, less)) ∙ ap Some (get_or-take row.outputs outs (r - 4) 0 less) in
      let value : get_or answered r 0 ≡ get_or outs (r - 4) 0 = (let e = each r in grind (arith, nat_tests)) in
      slice_get-get_or answered r 0 below ∙ ap Some value ∙ sym (slice_get-get_or outs (r - 4) 0 (omega (arith, nine, less, whole.outputs)))

  other : (r : ℕ) → r ≢ 3 → (r < 4) ⊎ (4 + row.outputs ≤ r) → get_or answered r 0 ≡ get_or regs.gpr r 0
  other r three (inl low) = let e = each r in grind (arith, nat_tests)
  other r three (inr high) =
      let past : slice_get (take row.outputs outs) (r - 4) ≡ None = slice_get_past (take row.outputs outs) (r - 4) (omega (arith, counted, high)) in
      let e = each r in
      grind (arith, nat_tests)

  pub takes_alone : TakesOutputsAlone row r0 outs regs.gpr answered
  takes_alone = record {
    answer = slice_get-get_or answered 3 0 (omega (arith, all)) ∙ ap Some (each 3);
    outputs = output;
    others = λ r three outside. by_place r (other r three outside) (nat_lt r 32) refl;
  } where
    by_place : (r : ℕ) → get_or answered r 0 ≡ get_or regs.gpr r 0 → (b : Bool) → nat_lt r 32 ≡ b → slice_get answered r ≡ slice_get regs.gpr r
    by_place r same true t =
        let below : r < 32 = grind (arith, nat_tests) in
        slice_get-get_or answered r 0 (omega (arith, all, below)) ∙ ap Some same ∙ sym (slice_get-get_or regs.gpr r 0 (omega (arith, full, below)))
    by_place r same false t =
        let high : 32 ≤ r = grind (arith, nat_tests) in
        slice_get_past answered r (omega (arith, all, high)) ∙ sym (slice_get_past regs.gpr r (omega (arith, full, high)))
