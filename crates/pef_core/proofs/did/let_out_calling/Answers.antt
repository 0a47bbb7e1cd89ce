use Rattle.std.proofs.Common.{rules, ◌≡◌, ℕ, ◌+◌, ◌-◌, List, ◌∷◌, length, take, drop, Some, slice_index, ap, sym, ◌∙◌, arith, suc}
use Rattle.std.proofs.Math.Seq.{drop-cons}
use Rattle.pef_model.specs.declared.hypercall.TheConstants.{HCALLS}
use Rattle.pef_model.specs.declared.hypercall.Row.{Row}
use Rattle.pef_model.specs.Hypercalls.{IsRow, row_of, let_out_by}
use Rattle.pef_model.specs.StepLaw.{let_out_calling}
use Rattle.pef_core.proofs.did.let_out_calling.Goals as goal

-- R3, and so many registers from R4 on
from_r3 : (gpr : List ℕ) (row : Row) → length gpr ≡ 32 → IsRow row → take (4 + row.inputs - 3) (drop 3 gpr) ≡ let_out_by row gpr
from_r3 gpr row full whole =
    ap (λ (n : ℕ). take n (drop 3 gpr)) (let e : 4 + row.inputs - 3 ≡ suc row.inputs = omega arith in e)
    ∙ ap (take (suc row.inputs)) (drop-cons gpr 3 0 (omega (arith, full)))
    ∙ ap (λ (first : ℕ). slice_index gpr 3 ∷ take row.inputs (drop first gpr)) (sym whole.first)

pub returns-in-Some : goal.returns-in-Some
returns-in-Some c =
    let full : length c.args.gpr.now ≡ 32 = search rules in
    let known : row_of HCALLS (slice_index c.args.gpr.now 3) ≡ Some c.in-Some.row =
    ap (λ (rows : List Row). row_of rows (slice_index c.args.gpr.now 3)) (sym c.hcalls.ensures) ∙ sym c.row.ensures.row ∙ c.in-Some.is in
    c.of.ensures ∙ from_r3 c.args.gpr.now c.in-Some.row full c.in-Some.ensures.whole ∙ sym (ap (let_out_calling c.args.gpr.now) known)
