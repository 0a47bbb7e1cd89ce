use Rattle.pef_model.proofs.TagBytes.{vault_images_differ}
use Rattle.pef_model.proofs.cause_laws.vault_images_differ.Goals as goal

pub returns : goal.returns
returns c = vault_images_differ
