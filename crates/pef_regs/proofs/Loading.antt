-- Which registers a call loads.
use Rattle.std.proofs.Common.{◌≡◌, ℕ, ◌-◌, ◌<◌, List, [], ◌∷◌, length, Option, None, get_or, arith, refl, ap, ◌∙◌}
use Rattle.std.specs.Prelude.{unwrap_or}
use Rattle.std.proofs.lemmas.Bool.Decides.{nat_tests}
use Rattle.std.proofs.lemmas.Option.{slice_get_past}
use Rattle.pef_model.specs.declared.command.Cmd.{Cmd}
use Rattle.pef_model.specs.declared.command.Cmd.TheVariants.{HLd, UPate, URegslot, UUnregslot, UPagein, UPageout, UInval, UReturn}
use Rattle.pef_model.specs.Commands.{IsCommand}
use Rattle.pef_model.specs.Registers.{loaded, value_loaded}
use Rattle.pef_model.proofs.Called.{loads_value}
use Rattle.pef_regs.specs.Loads.{LoadsCall}

-- R1 is none of the registers that a call loads
first_stays : (cmd : Cmd) → value_loaded cmd 1 ≡ None
first_stays (UPate lpid dw0 dw1) = refl
first_stays (URegslot lpid start size flags id) = refl
first_stays (UUnregslot lpid id) = refl
first_stays (UPagein lpid src gpa flags order) = refl
first_stays (UPageout lpid dest gpa flags order) = refl
first_stays (UInval lpid gpa order) = refl
first_stays (UReturn r0 r2 outs) = refl
first_stays (HLd ra) = refl
first_stays cmd = refl

-- and none past R12 is
others_stay : (cmd : Cmd) (r : ℕ) → IsCommand cmd → 12 < r → value_loaded cmd r ≡ None
others_stay (UPate lpid dw0 dw1) r k above = grind (arith, nat_tests, slice_get_past (lpid ∷ dw0 ∷ dw1 ∷ []) (r - 4))
others_stay (URegslot lpid start size flags id) r k above = grind (arith, nat_tests, slice_get_past (lpid ∷ start ∷ size ∷ flags ∷ id ∷ []) (r - 4))
others_stay (UUnregslot lpid id) r k above = grind (arith, nat_tests, slice_get_past (lpid ∷ id ∷ []) (r - 4))
others_stay (UPagein lpid src gpa flags order) r k above = grind (arith, nat_tests, slice_get_past (lpid ∷ src ∷ gpa ∷ flags ∷ order ∷ []) (r - 4))
others_stay (UPageout lpid dest gpa flags order) r k above = grind (arith, nat_tests, slice_get_past (lpid ∷ dest ∷ gpa ∷ flags ∷ order ∷ []) (r - 4))
others_stay (UInval lpid gpa order) r k above = grind (arith, nat_tests, slice_get_past (lpid ∷ gpa ∷ order ∷ []) (r - 4))
others_stay (UReturn r0 r2 outs) r k above = grind (arith, nat_tests, slice_get_past outs (r - 4))
others_stay (HLd ra) r k above = refl
others_stay cmd r k above = refl

-- R1 and the registers past R12 are none of those that a call loads
pub loads_call : (gpr : List ℕ) (cmd : Cmd) → IsCommand cmd → length gpr ≡ 32 → LoadsCall gpr (loaded gpr cmd)
loads_call gpr cmd k full = record {
  first = loads_value gpr cmd 1 k full ∙ ap (λ (o : Option ℕ). unwrap_or o (get_or gpr 1 0)) (first_stays cmd);
  others = λ r above. loads_value gpr cmd r k full ∙ ap (λ (o : Option ℕ). unwrap_or o (get_or gpr r 0)) (others_stay cmd r k above);
}
