-- The words that the program was called with.
use Rattle.std.specs.Prelude.{◌≡◌, ◌≢◌, ℕ, List, [], ◌∷◌, drop, map, codes, String, string_bytes}
use Rattle.std.specs.declared.alloc.Global.{Global}
use Rattle.std.specs.declared.io.ErrorKind.{ErrorKind}
use Rattle.std.specs.declared.io.ErrorKind.TheVariants as kind
use Rattle.pef_top.specs.declared.outcome.RunOutcome.{RunOutcome}
use Rattle.pef_top.specs.Outcome.{plain}

-- the outcome where the arguments can't be had: one that is no text is no word that the program knows, and else memory is wanting
abbrev pub no_words : ErrorKind → RunOutcome
no_words kind.InvalidData = plain 2
no_words _ = plain 5

-- the arguments but the first are the one word `run`
abbrev pub AreRun : List (String Global) → Type 0
AreRun args = map (λ word. string_bytes word) (drop 1 args) ≡ codes "run" ∷ []

-- status 2 comes only where they aren't, and then always, unless memory is wanting
pub record AnswersWords (args : List (String Global)) (status : ℕ) : Type 0 where
  pub words : status ≡ 2 → ¬ (AreRun args)
  pub other : ¬ (AreRun args) → status ≢ 5 → status ≡ 2
