-- Digest collisions, and a history before the first of them.
use Rattle.std.specs.Prelude.{ℕ, Bool, true, false, not, ◌&&◌, if◌then◌else◌, List, [], ◌∷◌}
use Rattle.pef_model.specs.Plan.{Plan}
use Rattle.pef_model.specs.Event.{Event}
use Rattle.pef_model.specs.Target.{Target, AtGuest, target_of}
use Rattle.pef_model.specs.GuestPart.{GuestPart}
use Rattle.pef_model.specs.Clash.{clashes}
use Rattle.pef_model.specs.History.{guest_after}

-- whether an entry that aims at this is a clash
abbrev pub clashes_at : (ℕ → GuestPart) → Event → Target → Bool
clashes_at guests e (AtGuest lpid) = clashes (guests lpid) e
clashes_at guests e other = false

-- an entry after a history is a clash: one at the guest at which it aims
abbrev pub is_clash : Plan → List Event → Event → Bool
is_clash plan past e = clashes_at (λ lpid. (guest_after plan lpid past).part) e (target_of plan e)

-- no entry of a history is a clash
abbrev pub is_clean : Plan → List Event → Bool
is_clean plan [] = true
is_clean plan (e ∷ past) = is_clean plan past && not (is_clash plan past e)

-- the longest first part of a history before its first clash
abbrev pub sound : Plan → List Event → List Event
sound plan [] = []
sound plan (e ∷ past) = if is_clean plan (e ∷ past) then e ∷ past else sound plan past
