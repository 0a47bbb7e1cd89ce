use Rattle.std.proofs.Common.{refl}
use Rattle.std.specs.Fmt.{digits}
use Rattle.sha2.specs.Sha256.{sha256, digest_bytes}
use Rattle.hex.specs.Hex.{encode_with}
use Rattle.pef_model.specs.Doubleword.{doubleword, with_doubleword}
use Rattle.pef_model.proofs.refusal_laws.a_normal_guest.Goals as goal

-- computed from the definitions
pub returns : goal.returns
unfolding digits sha256 digest_bytes encode_with doubleword with_doubleword
returns c = refl
