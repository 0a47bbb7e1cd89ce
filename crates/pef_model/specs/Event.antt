-- Entries, and the value that a history gives an object. A history stands with its newest entry first.
use Rattle.std.specs.Prelude.{ℕ, ◌-◌, Bool, if◌then◌else◌, List, [], ◌∷◌, length, drop, Option, unwrap_or}
use Rattle.pef_model.specs.declared.entry.Trace.{Trace}
use Rattle.pef_model.specs.declared.entry.Saw.{Saw}

-- one atomic step as it is recorded
pub record Event : Type 0 where
  pub trace : Trace
  pub saw : Saw
  pub bytes : List ℕ

-- which step an entry is: its script line, its CPU, its place among that CPU's entries, its stamp
pub record Mark : Type 0 where
  pub line : ℕ
  pub cpu : ℕ
  pub place : ℕ
  pub stamp : ℕ

-- the mark of an entry
abbrev pub mark_of : Event → Mark
mark_of e = record { line = e.trace.line; cpu = e.trace.cpu; place = e.trace.place; stamp = e.trace.stamp }

-- a search from the newest entry on: what the first entry says that decides, and the start where none does
abbrev pub newest : (List Event → Event → Option ℕ) → ℕ → List Event → ℕ
newest decides start [] = start
newest decides start (e ∷ past) = unwrap_or (decides past e) (newest decides start past)

-- an object's value after a history: an entry that doesn't touch the object leaves it as it is
abbrev pub value_after : {S : Type 0} → (Event → Bool) → (S → Event → S) → S → List Event → S
value_after touches next start [] = start
value_after touches next start (e ∷ past) = if touches e then next (value_after touches next start past) e else value_after touches next start past

-- the first so many entries of a history
abbrev pub first : ℕ → List Event → List Event
first k past = drop (length past - k) past
