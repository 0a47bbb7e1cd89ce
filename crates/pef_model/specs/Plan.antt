-- A configuration, and what the definitions read of it.
use Rattle.std.specs.Prelude.{ℕ, ◌≤◌, ◌==◌, Bool, false, List, [], replicate, map, filter, All}
use Rattle.std.specs.List.Sorted.{IsNonDecreasing, IsStrictlyIncreasing}
use Rattle.std.specs.List.{list_any, count_by}
use Rattle.pef_model.specs.declared.config.Config.{Config}
use Rattle.pef_model.specs.declared.config.EntropyWord.{EntropyWord}
use Rattle.pef_model.specs.declared.state.Tag.{Tag}
use Rattle.pef_model.specs.Seal.{image as image_by}

-- what the definitions read of a configuration: the sizes, who is born secure, the sealed page of each page, and how many entropy words each guest has; of secrets the entropy words alone, in which runs that differ in secrets differ
pub record Plan : Type 0 where
  pub shift : ℕ
  pub normal : ℕ
  pub secure : ℕ
  pub cpus : ℕ
  pub guests : ℕ
  pub vcpus : ℕ
  pub pages : ℕ
  pub image : Tag → List ℕ → List ℕ
  pub is_born : ℕ → Bool
  pub words : ℕ → ℕ
  pub entropy : ℕ → List ℕ

-- a plan with other entropy words
abbrev pub with_entropy : Plan → (ℕ → List ℕ) → Plan
with_entropy plan words = record plan { entropy = words }

-- the plan of a configuration
abbrev pub plan_of : Config → Plan
plan_of config = record {
  shift = config.shift;
  normal = config.normal;
  secure = config.secure;
  cpus = config.cpus;
  guests = config.guests;
  vcpus = config.vcpus;
  pages = config.pages;
  image = image_by config;
  is_born = λ lpid. list_any (λ born. born == lpid) config.born;
  words = λ lpid. count_by (λ (word : EntropyWord). word.lpid == lpid) config.entropy;
  entropy = λ lpid. map (λ (word : EntropyWord). word.left) (filter (λ (word : EntropyWord). word.lpid == lpid) config.entropy);
}

-- a number from a least one to a greatest one
abbrev pub IsWithin : ℕ → ℕ → ℕ → Type 0
IsWithin least greatest n = (least ≤ n) × (n ≤ greatest)

-- each number of a configuration is in its range; born guests and the guests of the entropy words rise, and a guest has at most 64 words
pub record IsInRange (config : Config) : Type 0 where
  pub shift : IsWithin 8 16 config.shift
  pub normal : IsWithin 1 1024 config.normal
  pub secure : IsWithin 1 1024 config.secure
  pub cpus : IsWithin 1 16 config.cpus
  pub guests : IsWithin 1 16 config.guests
  pub vcpus : IsWithin 1 8 config.vcpus
  pub pages : IsWithin 1 1024 config.pages
  pub born : All (IsWithin 1 config.guests) config.born
  pub rises : IsStrictlyIncreasing config.born
  pub entropy : All (λ (word : EntropyWord). IsWithin 1 config.guests word.lpid) config.entropy
  pub words_rise : IsNonDecreasing (map (λ (word : EntropyWord). word.lpid) config.entropy)
  pub words : (lpid : ℕ) → count_by (λ (word : EntropyWord). word.lpid == lpid) config.entropy ≤ 64

-- the configuration where a script names no other, with no guest that is born secure
abbrev pub default_config : Config
default_config = record {
  shift = 16;
  normal = 16;
  secure = 16;
  cpus = 1;
  guests = 1;
  vcpus = 1;
  pages = 16;
  vault = false;
  key = replicate 32 0;
  born = [];
  entropy = [];
}
