use Rattle.std.proofs.Common.{refl}
use Rattle.pef_model.specs.Seal.{tag_bytes}
use Rattle.pef_model.specs.Doubleword.{doubleword, with_doubleword}
use Rattle.pef_model.proofs.refusal_laws.registers_have_numbers.Goals as goal

-- computed from the definitions
pub returns : goal.returns
unfolding tag_bytes doubleword with_doubleword
returns c = record {
  interrupt = refl;
  refused = refl;
  selected = refl;
  written = refl;
  loaded = refl;
  registered = refl;
  unregistered = refl;
  invalidated = refl;
  numbers = refl;
  calls = refl;
}
