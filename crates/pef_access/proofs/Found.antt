-- What an access met, by what it found and whether it was backed.
use Rattle.std.proofs.Common.{◌≡◌, ℕ, ◌<◌, nat_lt, Bool, true, false, if◌then◌else◌, List, [], ◌∷◌, length, Some, None, Ok, Err, arith, refl}
use Rattle.std.proofs.lemmas.Bool.Decides.{nat_tests}
use Rattle.pef_model.specs.declared.entry.Answer.{Answer}
use Rattle.pef_model.specs.GuestPart.{Meeting, Moves, Private, Normal, Unbacked}
use Rattle.pef_num.specs.declared.place.Place.{Place}
use Rattle.pef_guest.specs.Aims.{frame_met}
use Rattle.pef_access.specs.Access.{found_at, is_unbacked}
use Rattle.pef_access.proofs.AccessRows.{IsUndone, answer_undone}

-- one that found its doubleword met a secure frame, at the place of its address
pub found : (place there : Place) (r : Meeting) → found_at place r ≡ Ok there → (r ≡ Private) × (there ≡ place)
found place there Private is = (refl, cc)
found place there Moves is = absurd cc
found place there r is = absurd cc

-- and one that didn't is done in no frame
pub not_found : (any : Bool) (place : Place) (answer : Answer) (r : Meeting) → is_unbacked r ≡ false → frame_met r ≡ None → found_at place r ≡ Err answer → IsUndone any r × (answer ≡ answer_undone r)
not_found any place answer Private backed inside is = absurd cc
not_found any place answer (Normal number) backed inside is = absurd cc
not_found any place answer Unbacked backed inside is = absurd cc
not_found any place answer Moves backed inside is = (tt, cc)
not_found any place answer r backed inside is = (tt, cc)

-- an access that asks for a free frame met an Invalid page
pub unbacked : (r : Meeting) → is_unbacked r ≡ true → r ≡ Unbacked
unbacked Unbacked is = refl
unbacked r is = absurd cc

-- it is backed where a frame is free, at the place of its address
pub backed : (any : Bool) (place there : Place) → (if any then Some place else None) ≡ Some there → (any ≡ true) × (there ≡ place)
backed true place there is = (refl, cc)
backed false place there is = absurd cc

-- and nowhere else
pub not_backed : (any : Bool) (place : Place) → (if any then Some place else None) ≡ None → any ≡ false
not_backed true place is = absurd cc
not_backed false place is = refl

pub none_free : (free : List ℕ) → nat_lt 0 (length free) ≡ false → free ≡ []
none_free [] none = refl
none_free (number ∷ more) none = absurd (let many : 0 < length (number ∷ more) = omega arith in grind (arith, nat_tests))
