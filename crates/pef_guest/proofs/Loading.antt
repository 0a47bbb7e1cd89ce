-- What a call that comes back at once leaves of its CPU.
use Rattle.std.proofs.Common.{ℕ, ◌<◌, List, length, arith, refl, ◌∙◌}
use Rattle.std.proofs.lemmas.List.{get_or-set_same, get_or-set_other}
use Rattle.pef_model.specs.declared.command.Code.{Code}
use Rattle.pef_model.specs.declared.entry.Answer.TheVariants.{Ret}
use Rattle.pef_model.specs.Registers.{number_of, with_code}
use Rattle.pef_regs.specs.Loads.{LoadsCall}
use Rattle.pef_guest.specs.declared.cpu.Cpu.{Cpu}
use Rattle.pef_guest.specs.Refused.{ComesBack, RefusesCpu}

-- a code in R3 leaves what the call loaded elsewhere
comes_back : (old loaded : List ℕ) (code : Code) → 3 < length loaded → LoadsCall old loaded → ComesBack old (with_code loaded code) code
comes_back old loaded code long rest = record {
  given = get_or-set_same loaded 3 (number_of code) 0 long;
  rest = record {
    first = get_or-set_other loaded 3 1 (number_of code) 0 (λ same. cc) ∙ rest.first;
    others = λ r above. get_or-set_other loaded 3 r (number_of code) 0 (λ same. absurd (omega arith)) ∙ rest.others r above;
  };
}

-- a call that comes back at once with a code
pub refuses : (cpu : Cpu) (loaded : List ℕ) (code : Code) → 3 < length loaded → LoadsCall cpu.gpr loaded → RefusesCpu cpu (record cpu { gpr = with_code loaded code; last = Ret code }) code
refuses cpu loaded code long rest = record { number = refl; ctx = refl; lpid = refl; vid = refl; hand = refl; gpr = comes_back cpu.gpr loaded code long rest; last = refl }
