use Rattle.std.proofs.Common.{◌≡◌, replicate}
use Rattle.pef_seal.specs.Vault.{empty_place}
use Rattle.pef_seal.proofs.vault.VaultSeal.build.Given as goal

abbrev pub invariant-loop-gfn : goal.invariant-loop-gfn
invariant-loop-gfn l = l.places.items ≡ replicate l._gfn (empty_place l.size)
