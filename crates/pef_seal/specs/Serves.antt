-- When a sealer is the one that a configuration asks for.
use Rattle.std.specs.Prelude.{◌≡◌, ℕ, ◌<◌, ◌^◌, List}
use Rattle.pef_model.specs.Seal as seal
use Rattle.pef_model.specs.declared.config.Config.{Config}
use Rattle.pef_model.specs.declared.state.Tag.{Tag}

-- its sealed pages are the configuration's, and it takes each page of a guest
pub record Serves (config : Config) (image : Tag → List ℕ → List ℕ) (takes : ℕ → ℕ → Type 0) : Type 0 where
  pub images : image ≡ seal.image config
  pub pages : (gfn : ℕ) → gfn < config.pages → takes gfn (2 ^ config.shift)
