-- A machine after a run that may have had a digest collision.
use Rattle.std.specs.Prelude.{◌≡◌, ℕ, true, List}
use Rattle.pef_model.specs.declared.state.Tag.{Tag}
use Rattle.pef_model.specs.Plan.{Plan}
use Rattle.pef_model.specs.Event.{Event}
use Rattle.pef_model.specs.Sound.{is_clean}
use Rattle.pef_core.specs.State.{State}
use Rattle.pef_core.specs.Steps.{Fits}

-- a history fits a machine where it has no digest collision; after one nothing is said
abbrev pub FitsIfClean : {S : Type 0} → (S → Tag → List ℕ → List ℕ → Type 0) → (S → Tag → List ℕ → List ℕ) → Plan → State S → List Event → Type 0
FitsIfClean stands image plan m past = is_clean plan past ≡ true → Fits stands image plan m past
