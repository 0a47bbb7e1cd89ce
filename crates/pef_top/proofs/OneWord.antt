-- Lemmas on a list of one word.
use Rattle.std.proofs.Common.{◌≡◌, ℕ, Bool, List, [], ◌∷◌, length, map, get_or, ap, ◌∙◌, sym, arith}
use Rattle.std.specs.Prelude.{IsTrue, ◌↔◌}
use Rattle.std.specs.Str.{bytes_eq}
use Rattle.std.proofs.lemmas.Slice.Eq.{bytes_eq-Decides}

-- a list of one element
pub one_shown : {A : Type 0} (f : A → List ℕ) (xs : List A) (x : A) → length xs ≡ 1 → x ≡ get_or xs 0 x → map f xs ≡ f x ∷ []
one_shown f [] x one at = absurd (omega arith)
one_shown f (y ∷ []) x one at = ap (λ z. f z ∷ []) (sym at)
one_shown f (y ∷ z ∷ more) x one at = absurd (omega arith)

-- the one word is tested by its bytes
pub one_tested : (words : List (List ℕ)) (word wanted : List ℕ) (tested : Bool) → words ≡ word ∷ [] → tested ≡ bytes_eq word wanted → IsTrue tested ↔ (words ≡ wanted ∷ [])
one_tested words word wanted tested one is = (
  λ yes. one ∙ ap (λ z. z ∷ []) ((bytes_eq-Decides word wanted).0 (sym is ∙ yes)),
  λ same. let equal : word ≡ wanted = cc in is ∙ (bytes_eq-Decides word wanted).1 equal,
)
