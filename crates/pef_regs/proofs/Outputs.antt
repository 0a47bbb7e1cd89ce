-- Which registers the outputs of a hypercall are.
use Rattle.std.proofs.Common.{◌≡◌, ℕ, ◌+◌, ◌-◌, ◌≤◌, List, ◌++◌, length, take, drop, ap, sym, subst, ◌∙◌, arith, length-take, get_or}
use Rattle.std.proofs.lemmas.List.{get_or_append_left, get_or-append_right, get_or-drop, get_or-take}
use Rattle.pef_model.specs.Registers.{with_outputs}
use Rattle.pef_regs.specs.Registers.{TakesOutputs}

module _ (gpr outs : List ℕ) (count : ℕ) (full : length gpr ≡ 32) (nine : length outs ≡ 9) (few : count ≤ 9) where
  front : length (take 4 gpr) ≡ 4
  front = simp length-take (omega (arith, full))

  middle : length (take count outs) ≡ count
  middle = simp length-take (omega (arith, nine, few))

  behind : (r : ℕ) → 4 ≤ r → get_or (with_outputs gpr count outs) r 0 ≡ get_or (take count outs ++ drop (4 + count) gpr) (r - 4) 0
  behind r from = get_or-append_right (take 4 gpr) (take count outs ++ drop (4 + count) gpr) 4 r 0 front from

  each : TakesOutputs gpr (with_outputs gpr count outs) count outs
  each = record {
    taken = λ k less. behind (4 + k) (omega arith) ∙ ap (λ (n : ℕ). get_or (take count outs ++ drop (4 + count) gpr) n 0) (let e : 4 + k - 4 ≡ k = omega arith in e) ∙
        get_or_append_left (take count outs) (drop (4 + count) gpr) 0 k (omega (arith, middle, less)) ∙ get_or-take count outs k 0 less;
    below = λ r less. get_or_append_left (take 4 gpr) (take count outs ++ drop (4 + count) gpr) 0 r (omega (arith, front, less)) ∙ get_or-take 4 gpr r 0 less;
    above = λ r from. behind r (omega (arith, from)) ∙ get_or-append_right (take count outs) (drop (4 + count) gpr) count (r - 4) 0 middle (omega (arith, from)) ∙
        get_or-drop (4 + count) gpr (r - 4 - count) 0 ∙ ap (λ (n : ℕ). get_or gpr n 0) (let e : 4 + count + (r - 4 - count) ≡ r = omega (arith, from) in e);
  }

  pub takes_outputs : (new : List ℕ) → new ≡ with_outputs gpr count outs → TakesOutputs gpr new count outs
  takes_outputs new is = subst (λ (gpr_new : List ℕ). TakesOutputs gpr gpr_new count outs) (sym is) each
