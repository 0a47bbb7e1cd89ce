use Rattle.std.proofs.Common.{refl}
use Rattle.std.specs.Fmt.{digits}
use Rattle.pef_model.specs.Seal.{tag_bytes}
use Rattle.pef_model.specs.Doubleword.{doubleword, with_doubleword}
use Rattle.pef_model.proofs.refusal_laws.each_name_is_written.Goals as goal

-- computed from the definitions
pub returns : goal.returns
unfolding digits tag_bytes doubleword with_doubleword
returns c = record { written = refl; others = refl; commands = refl }
