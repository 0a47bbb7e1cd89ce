use Rattle.std.proofs.Common.{◌≡◌, ℕ, ◌+◌, [], ◌∷◌, ◌++◌, length, rules, arith, refl, sym, subst}
use Rattle.pef_model.specs.Seal.{vault_image}
use Rattle.pef_seal.specs.Vault.{VaultState, VaultTakes}
use Rattle.pef_seal.specs.Serves.{Serves}
use Rattle.pef_core.specs.State.{Each}
use Rattle.pef_core.proofs.Lists.{each_push}
use Rattle.pef_top.proofs.sealers.vault_sealers.Goals as goal

-- no sealer yet
pub loop-guest-init : goal.loop-guest-init
loop-guest-init c = (search rules, subst (Each (λ i (vault : VaultState). Serves c.args.config.now (λ tag plain. vault_image vault.size tag) (VaultTakes vault))) (sym c.new-sealers.ensures.items) (λ n x there. cc))

-- one more sealer that serves the configuration
pub loop-guest-preserved : goal.loop-guest-preserved
loop-guest-preserved c =
    let Serving : ℕ → VaultState → Type 0 = λ i (vault : VaultState). Serves c.args.config.now (λ tag plain. vault_image vault.size tag) (VaultTakes vault) in
    let items : c.push.new.self.items ≡ c.loop-guest.sealers.items ++ c.in_ok-build.field-0 ∷ [] = search rules in
    let longer : length c.push.new.self.items ≡ length c.loop-guest.sealers.items + 1 = search rules in
    let count : length c.push.new.self.items ≡ c.loop-guest._guest + 1 = (let h = c.loop-guest.invariant.0 in omega arith) in
    let serves : Serving (length c.loop-guest.sealers.items) c.in_ok-build.field-0 = c.in_ok-build.ensures.serves c.args.config.now c.requires.range c.requires.vault refl (search rules) in
    (count, subst (Each Serving) (sym items) (each_push Serving c.loop-guest.sealers.items c.in_ok-build.field-0 c.loop-guest.invariant.1 serves))

-- as many as there are guests
pub returns : goal.returns
returns c =
    record { count = omega (arith, c.loop-guest.invariant.0, c.loop-guest-test.false, c.loop-guest.auto._guest-end); each = c.loop-guest.invariant.1 }

-- a page has a power of two of bytes
pub build-requires : goal.build-requires
build-requires c = record { shift = c.args.config.now.shift; range = c.requires.range.shift; is = search rules }
