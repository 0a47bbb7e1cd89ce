-- Lemmas on what comes before another and on what is wanting.
use Rattle.std.proofs.Common.{◌≡◌, ℕ, refl, arith, Option, option_map, Some, None, Result, Ok, Err}
use Rattle.std.specs.Prelude.{◌≤◌, ◌&&◌, nat_le}
use Rattle.std.proofs.lemmas.Bool.Decides.{nat_tests}
use Rattle.std.proofs.lemmas.Option.{cond_some}
use Rattle.pef_model.specs.Plan.{IsWithin}
use Rattle.pef_script.specs.declared.fault.Cause.{Cause}
use Rattle.pef_script.specs.Cause.{◌>>=◌, or_fault}
use Rattle.pef_script.specs.Setting.{ok_of, within}

-- what follows counts: there was no fault before
pub bind_ok : {A B E P : Type 0} (r : Result A E) (f : A → Result B E) (y : B) → (r >>= f) ≡ Ok y → ((x : A) → r ≡ Ok x → f x ≡ Ok y → P) → P
bind_ok (Ok x) f y e more = more x refl e
bind_ok (Err fault) f y e more = absurd (cc)

-- what isn't wanting is there
pub or_ok : {A : Type 0} (cause : Cause) (o : Option A) (x : A) → or_fault cause o ≡ Ok x → o ≡ Some x
or_ok cause None x e = absurd (cc)
or_ok cause (Some y) x e = cc

-- what is a result's value is what it has
pub ok_is : {A E : Type 0} (r : Result A E) (x : A) → ok_of r ≡ Some x → r ≡ Ok x
ok_is (Ok y) x e = cc
ok_is (Err f) x e = absurd (cc)

abbrev pub success : {A E : Type 0} → A → Result A E
success x = Ok x

-- two results that are the same
pub same_Ok : {A E : Type 0} (x y : A) → success {E = E} x ≡ success y → x ≡ y
same_Ok x y e = cc

-- a number that is found in a range is in it
pub within_is : (least greatest n m : ℕ) → within least greatest n ≡ Some m → IsWithin least greatest m
within_is least greatest n m e =
    let found = cond_some (nat_le least n && nat_le n greatest) n m e in
    let low : least ≤ m = grind (arith, nat_tests, found.0, found.1) in
    let high : m ≤ greatest = grind (arith, nat_tests, found.0, found.1) in
    (low, high)

-- and it is the number that was there
pub within_same : (least greatest n m : ℕ) → within least greatest n ≡ Some m → n ≡ m
within_same least greatest n m e = (cond_some (nat_le least n && nat_le n greatest) n m e).1

-- what is made of something that is there
pub option_map_some : {A B P : Type 0} (f : A → B) (o : Option A) (y : B) → option_map f o ≡ Some y → ((x : A) → o ≡ Some x → f x ≡ y → P) → P
option_map_some f None y e more = absurd (cc)
option_map_some f (Some x) y e then = then x refl (cc)
