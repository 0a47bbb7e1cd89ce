-- What follows from the definition of a sealed page.
use Rattle.std.specs.Prelude.{◌≡◌, ℕ, ◌<◌, ◌^◌, List, IsTrue}
use Rattle.pef_model.specs.Seal.{stream_image, vault_image, image}
use Rattle.pef_model.specs.declared.config.Config.{Config}
use Rattle.pef_model.specs.declared.state.Tag.{Tag}

-- the stream's sealed page of its sealed page is the page
abbrev pub StreamSealsBack : Type 0
StreamSealsBack = (key : List ℕ) (tag : Tag) (plain : List ℕ) → stream_image key tag (stream_image key tag plain) ≡ plain

-- two pages have one sealed page under a tag, where the vault keeps them
abbrev pub VaultShowsNoPage : Type 0
VaultShowsNoPage = (config : Config) (tag : Tag) (plain other : List ℕ) → IsTrue config.vault → image config tag plain ≡ image config tag other

-- the fields of a tag are numbers of their types
pub record IsTag (tag : Tag) : Type 0 where
  pub lpid : tag.lpid < 2 ^ 16
  pub generation : tag.generation < 2 ^ 64
  pub gfn : tag.gfn < 2 ^ 32
  pub version : tag.version < 2 ^ 64

-- two tags never have one sealed page in the vault
abbrev pub VaultTellsTags : Type 0
VaultTellsTags = (size : ℕ) (tag other : Tag) → IsTag tag → IsTag other → vault_image size tag ≡ vault_image size other → tag ≡ other
