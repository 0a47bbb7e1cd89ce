use Rattle.std.proofs.Common.{◌≡◌, length}
use Rattle.std.proofs.lemmas.List.{length-replicate}
use Rattle.std.proofs.lemmas.List.Elements.{All-same, All-replicate}
use Rattle.pef_seal.specs.Vault.{Kept, empty_place}
use Rattle.pef_seal.proofs.Sizes.{page_holds_tag}
use Rattle.pef_seal.proofs.vault.VaultSeal.build.Goals as goal

-- each of the places is empty, and so has room for a page
pub invariant_of-result : goal.invariant_of-result
invariant_of-result c = record {
  tag = page_holds_tag c.args.size c.requires;
  rooms =
      All-same (λ (place : Kept). length place.page ≡ c.args.size) c.loop-gfn.places.items _ c.loop-gfn.invariant
      (All-replicate (λ (place : Kept). length place.page ≡ c.args.size) c.loop-gfn._gfn (empty_place c.args.size) (length-replicate c.args.size 0));
}
