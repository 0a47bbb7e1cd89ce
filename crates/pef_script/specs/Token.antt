-- The tokens of a line, and which of them are pairs.
use Rattle.std.specs.Prelude.{ℕ, ◌==◌, Bool, true, false, List, [], ◌∷◌, filter, Option, Some, None, option_map}
use Rattle.std.specs.List.{slice_split}
use Rattle.pef_model.specs.Words.{number_in}
use Rattle.pef_script.specs.declared.token.Pair.{Pair}

-- whether a text has a byte
abbrev pub has_bytes : List ℕ → Bool
has_bytes [] = false
has_bytes (b ∷ bs) = true

-- what stands between spaces, of which any number may part two tokens and stand in front and behind
abbrev pub tokens_of : List ℕ → List (List ℕ)
tokens_of line = filter has_bytes (slice_split (λ b. b == 32) line)

-- the pair of two numbers
abbrev pub both : Option ℕ → Option ℕ → Option Pair
both (Some left) (Some right) = Some (record { left = left; right = right })
both left right = None

-- a pair: one number, which counts twice, or two with | between them
abbrev pub pair_of : List (List ℕ) → Option Pair
pair_of (number ∷ []) = option_map (λ n. record { left = n; right = n }) (number_in number)
pair_of (left ∷ right ∷ []) = both (number_in left) (number_in right)
pair_of parts = None

-- the pair that a token is
abbrev pub pair_in : List ℕ → Option Pair
pair_in token = pair_of (slice_split (λ b. b == 124) token)
