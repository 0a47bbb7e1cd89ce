use Rattle.std.proofs.Common.{◌≡◌, length}
use Rattle.pef_model.specs.Seal.{vault_image}
use Rattle.pef_seal.specs.Serves.{Serves}
use Rattle.pef_seal.specs.Vault.{VaultState, VaultTakes}
use Rattle.pef_core.specs.State.{Each}
use Rattle.pef_top.proofs.sealers.vault_sealers.Given as goal

-- there is a sealer for each guest so far, and each serves the configuration
abbrev pub invariant-loop-guest : goal.invariant-loop-guest
invariant-loop-guest l = (length l.sealers.items ≡ l._guest) × Each (λ i (vault : VaultState). Serves l.config (λ tag plain. vault_image vault.size tag) (VaultTakes vault)) l.sealers.items
