-- When a guest's partition entry may be set.
use Rattle.std.specs.Prelude.{length}
use Rattle.pef_pate.specs.declared.pate.Pate.{Pate}
use Rattle.pef_guest.specs.declared.guest.Guest.{Guest}
use Rattle.pef_guest.specs.Life.{IsSet}
use Rattle.pef_guest.specs.Whole.{IsOutside, IsEntryOf}

-- a guest of which no page is private gets an entry of at most its pages, with a normal frame for each
pub record SetsEntry {S : Type 0} (old new : Guest S) (entry : Pate) : Type 0 where
  pub outside : IsOutside old.phase
  pub fits : IsEntryOf old.shift old.normal (length old.pages.pages) entry
  pub set : IsSet old new entry
