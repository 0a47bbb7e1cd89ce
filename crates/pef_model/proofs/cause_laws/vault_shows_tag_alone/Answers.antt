use Rattle.pef_model.proofs.TagBytes.{vault_shows_tag_alone}
use Rattle.pef_model.proofs.cause_laws.vault_shows_tag_alone.Goals as goal

pub returns : goal.returns
returns c = vault_shows_tag_alone
