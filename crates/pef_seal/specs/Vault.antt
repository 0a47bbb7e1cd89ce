-- What the vault keeps, and what it answers for.
use Rattle.std.specs.Prelude.{◌≡◌, ℕ, ◌<◌, ◌≤◌, List, length, replicate, slice_get, Option, Some, None, All}
use Rattle.pef_model.specs.Seal.{vault_image}
use Rattle.pef_model.specs.declared.state.Tag.{Tag}

-- what lies in a place: the page that was sealed last, and its tag
pub record Kept : Type 0 where
  pub tag : Option Tag
  pub page : List ℕ

-- a vault: how many bytes a page has, and the place of each page
pub record VaultState : Type 0 where
  pub size : ℕ
  pub places : List Kept

-- a place in which nothing was kept yet
abbrev pub empty_place : ℕ → Kept
empty_place size = record { tag = None; page = replicate size 0 }

-- a vault for so many pages in which nothing was kept yet
abbrev pub empty_vault : ℕ → ℕ → VaultState
empty_vault pages size = record { size = size; places = replicate pages (empty_place size) }

-- the page lies in the tag's place, with the tag
abbrev pub IsKept : VaultState → Tag → List ℕ → Type 0
IsKept vault tag plain = slice_get vault.places tag.gfn ≡ Some (record { tag = Some tag; page = plain })

-- the page is kept under the tag, and the sealed page is the vault's for the tag
abbrev pub StandsInVault : VaultState → Tag → List ℕ → List ℕ → Type 0
StandsInVault vault tag plain sealed = IsKept vault tag plain × (sealed ≡ vault_image vault.size tag)

-- there is a place for the page, and the length is a page's
abbrev pub VaultTakes : VaultState → ℕ → ℕ → Type 0
VaultTakes vault gfn size = (gfn < length vault.places) × (size ≡ vault.size)

-- a tag fits into a page, and each place has room for a page
pub record IsWhole (vault : VaultState) : Type 0 where
  pub tag : 32 ≤ vault.size
  pub rooms : All (λ (place : Kept). length place.page ≡ vault.size) vault.places
