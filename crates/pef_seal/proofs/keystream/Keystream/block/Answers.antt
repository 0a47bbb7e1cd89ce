use Rattle.std.proofs.Common.{◌++◌, List, ℕ, ap, ◌∙◌}
use Rattle.pef_model.specs.Seal.{tag_bytes}
use Rattle.sha2.specs.Sha256.{sha256}
use Rattle.pef_seal.proofs.Messages.{digest_of_message}
use Rattle.pef_seal.proofs.keystream.Keystream.block.Goals as goal

-- the clone takes the number after the key and the tag
pub returns : goal.returns
returns c key tag holds =
    let held = c.update.ensures (key ++ tag_bytes tag) (rw c.in-Ok.ensures.cases holds) in
    c.finalize.ensures _ held
    ∙ ap (λ (number : List ℕ). sha256 (key ++ tag_bytes tag ++ number)) c.to_be_bytes.ensures
    ∙ digest_of_message key tag c.args.number
