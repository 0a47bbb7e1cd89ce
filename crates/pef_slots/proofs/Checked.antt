-- What is known of a slot that is accepted.
use Rattle.std.proofs.Common.{◌≡◌, ℕ, ◌/◌, ◌^◌, ◌<◌, nat_le, Bool, true, false, not, if◌then◌else◌, List, length, Ok, Err, refl, sym, arith}
use Rattle.std.specs.Prelude.{Result}
use Rattle.std.proofs.lemmas.Bool.Decides.{nat_tests}
use Rattle.pef_model.specs.declared.state.Slot.{Slot}
use Rattle.pef_model.specs.Slots.{has_id, meets_slots}
use Rattle.pef_slots.specs.Slots.{is_start, is_size, checked}

-- nothing is wrong with it
pub record IsAccepted (shift pages : ℕ) (slots : List Slot) (start size flags id : ℕ) (slot : Slot) : Type 0 where
  pub start_is : is_start shift pages start ≡ true
  pub size_is : is_size shift pages (start / 2 ^ shift) size ≡ true
  pub free : meets_slots slots (start / 2 ^ shift) (size / 2 ^ shift) ≡ false
  pub fits : id < 2 ^ 16
  pub new : has_id slots id ≡ false
  pub room : length slots < 32
  pub slot_is : slot ≡ record { id = id; first = start / 2 ^ shift; count = size / 2 ^ shift }

-- two that are Ok are one
ok_is : {X E : Type 0} (x y : X) → ◌≡◌ {A = Result X E} (Ok x) (Ok y) → y ≡ x
ok_is x y h = search h

-- what isn't false
is_true : (b : Bool) → not b ≡ false → b ≡ true
is_true true h = refl
is_true false h = sym h

-- where a refusal comes first and there is none, what follows is Ok
passes : {X E : Type 0} (refused : Bool) (fault : E) (rest : Result X E) (x : X) → (if refused then Err fault else rest) ≡ Ok x → (refused ≡ false) × (rest ≡ Ok x)
passes true fault rest x h = search h
passes false fault rest x h = (refl, h)

pub accepted : (shift pages : ℕ) (slots : List Slot) (start size flags id : ℕ) (slot : Slot) → checked shift pages slots start size flags id ≡ Ok slot → IsAccepted shift pages slots start size flags id slot
accepted shift pages slots start size flags id slot h =
    let starts = passes _ _ _ slot h in
    let sizes = passes _ _ _ slot starts.1 in
    let free = passes _ _ _ slot sizes.1 in
    let flags_are = passes _ _ _ slot free.1 in
    let id_is = passes _ _ _ slot flags_are.1 in
    let new = passes _ _ _ slot id_is.1 in
    let room = passes _ _ _ slot new.1 in
    let fits : nat_le (2 ^ 16) id ≡ false = id_is.0 in
    let few : nat_le 32 (length slots) ≡ false = room.0 in
    record {
      start_is = is_true _ starts.0;
      size_is = is_true _ sizes.0;
      free = free.0;
      fits = grind (arith, nat_tests, fits);
      new = new.0;
      room = grind (arith, nat_tests, few);
      slot_is = ok_is _ slot room.1;
    }
