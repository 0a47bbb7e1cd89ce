-- Three parts are no pair.
use Rattle.std.proofs.Common.{◌≡◌, ◌<◌, ℕ, List, [], ◌∷◌, length, refl, arith}
use Rattle.std.specs.Prelude.{None, ◌==◌}
use Rattle.std.specs.List.{slice_split}
use Rattle.std.proofs.lemmas.List.Splits.{length-slice_split}
use Rattle.pef_script.specs.Token.{pair_of}

no_pair : (l m : List ℕ) (parts : List (List ℕ)) → 0 < length parts → pair_of (l ∷ m ∷ parts) ≡ None
no_pair l m [] h = absurd (omega arith)
no_pair l m (r ∷ parts) h = refl

pub three_parts : (l m r : List ℕ) → pair_of (l ∷ m ∷ slice_split (λ b. b == 124) r) ≡ None
three_parts l m r = no_pair l m _ (omega (arith, length-slice_split (λ b. b == 124) r))
