-- A text of which a first part was written.
use Rattle.std.specs.Prelude.{◌≡◌, ◌≤◌, ℕ, List, ◌++◌, length, take}

-- the first bytes of a text were appended, and no others
pub record AppendsPrefix (old new text : List ℕ) : Type 0 where
  -- how many
  pub count : ℕ
  pub within : count ≤ length text
  pub bytes : new ≡ old ++ take count text
