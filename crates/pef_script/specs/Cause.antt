-- Causes tried one after another: the first that holds is the fault.
use Rattle.std.specs.Prelude.{List, [], ◌∷◌, Option, Some, None, Result, Ok, Err}
use Rattle.pef_script.specs.declared.fault.Cause.{Cause}

-- what follows counts only where there is no fault so far
infixl 10 ◌>>=◌
abbrev pub ◌>>=◌ : {A B E : Type 0} → Result A E → (A → Result B E) → Result B E
(Ok x) >>= f = f x
(Err e) >>= f = Err e

-- what is wanting is a fault of a cause
abbrev pub or_fault : {A : Type 0} → Cause → Option A → Result A Cause
or_fault cause None = Err cause
or_fault cause (Some x) = Ok x

-- the first of some values
abbrev pub first : {A : Type 0} → List A → Option A
first [] = None
first (x ∷ xs) = Some x
