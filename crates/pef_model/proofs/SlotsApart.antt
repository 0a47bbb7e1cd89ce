-- Memory slots stay apart where one joins them and where one leaves.
use Rattle.std.proofs.Common.{◌≡◌, ℕ, zero, suc, ◌+◌, ◌*◌, ◌/◌, ◌%◌, ◌^◌, ◌<◌, ◌≤◌, ◌==◌, ◌&&◌, nat_lt, Bool, true, false, true≢false, not, if◌then◌else◌, List, [], ◌∷◌, ◌++◌, length, All, get_or, refl, sym, subst, ◌∙◌, arith, length-append}
use Rattle.std.specs.List.{list_any}
use Rattle.std.proofs.Math.Nat.{mod-add-div'}
use Rattle.std.proofs.lemmas.Bool.Decides.{nat_tests}
use Rattle.std.proofs.lemmas.List.Elements.{All-append, All-filter}
use Rattle.std.proofs.lemmas.List.Folds.{list_any_at}
use Rattle.std.proofs.lemmas.List.Kept.{AllPairs-filter}
use Rattle.std.proofs.lemmas.List.Quantifiers.{all_pairs_push}
use Rattle.std.proofs.lemmas.List.Sums.{length-filter, count_by-le-length}
use Rattle.pef_model.specs.declared.state.Slot.{Slot}
use Rattle.pef_model.specs.declared.state.Ctx.{Ctx}
use Rattle.pef_model.specs.declared.state.Ctx.TheVariants as ctx
use Rattle.pef_model.specs.declared.command.Cmd.{Cmd}
use Rattle.pef_model.specs.declared.command.Cmd.TheVariants.{URegslot, UUnregslot}
use Rattle.pef_model.specs.declared.command.Code.TheVariants.{USuccess}
use Rattle.pef_model.specs.declared.entry.Answer.{Answer}
use Rattle.pef_model.specs.declared.entry.Answer.TheVariants.{Ret}
use Rattle.pef_model.specs.Plan.{Plan}
use Rattle.pef_model.specs.Event.{Event}
use Rattle.pef_model.specs.Slots.{has, has_any, has_id, meets_slots, without, AreApart, AreSlots, start_slots}
use Rattle.pef_model.specs.GuestPart.{GuestPart, slot_asked}
use Rattle.pef_model.specs.SlotCalls.{has_pages}
use Rattle.pef_model.specs.History.{part_after, Extends}
use Rattle.pef_model.specs.CauseLaw.{MayBeRegistered}
use Rattle.pef_model.specs.TransitionLaw.{slots_given}
use Rattle.pef_model.specs.CountLaw.{HasItsSlots, EachGuestHasItsSlots}
use Rattle.pef_model.proofs.SlotAnswers.{registers_exactly_where}
use Rattle.pef_model.proofs.SlotChanges.{each_entry_leaves_slots}

-- each of two runs of pages begins before the other ends
pub any_meets : (slot : Slot) (first count : ℕ) → 0 < slot.count → 0 < count → has_any slot first count ≡ (nat_lt slot.first (first + count) && nat_lt first (slot.first + slot.count))
any_meets slot first zero filled some = absurd (omega (arith, some))
any_meets slot first (suc zero) filled some = grind (arith, nat_tests)
any_meets slot first (suc (suc count)) filled some = grind (arith, nat_tests, any_meets slot (first + 1) (suc count) filled (omega arith))

-- a number of bytes of whole pages
pub whole : (bytes page : ℕ) → bytes % page ≡ 0 → bytes / page * page ≡ bytes
whole bytes page even = omega (arith, even, mod-add-div' bytes page)

-- where none passes a test, each fails it
pub none_at : {X : Type 0} (test : X → Bool) (xs : List X) (k : ℕ) (d : X) → list_any test xs ≡ false → k < length xs → test (get_or xs k d) ≡ false
none_at test xs k d nobody below = by (test (get_or xs k d)) refl where
  by : (b : Bool) → test (get_or xs k d) ≡ b → test (get_or xs k d) ≡ false
  by true passes = absurd (true≢false (sym (list_any_at test xs k d below passes) ∙ nobody))
  by false fails = fails

-- a slot has none of the pages of another where it has none of its run
has-none : (slot other : Slot) (gfn : ℕ) → has_any slot other.first other.count ≡ false → has slot gfn ≡ true → has other gfn ≡ true → ⊥
has-none slot other gfn none here there =
    let filled : 0 < slot.count = grind (arith, nat_tests, here) in
    let some : 0 < other.count = grind (arith, nat_tests, there) in
    let met = any_meets slot other.first other.count filled some in
    grind (arith, nat_tests, met, none, here, there)

-- a size of whole pages that isn't 0 has pages
pub some_pages : (page size : ℕ) → 0 < size → size % page ≡ 0 → 0 < size / page
some_pages page size some even = by (size / page) refl where
  by : (n : ℕ) → size / page ≡ n → 0 < size / page
  by zero none = absurd (let nothing : 0 * page ≡ size = subst (λ count. count * page ≡ size) none (whole size page even) in omega (arith, some, nothing))
  by (suc n) more = rw more (omega arith)

-- what holds of a slot holds of each in a list of it alone
alone : (P : Slot → Type 0) (slot : Slot) → P slot → All P (slot ∷ [])
alone P slot holds zero d below = holds
alone P slot holds (suc k) d below = absurd (omega (arith, below))

-- one with pages joins, whose id and pages no other has
pub joined : (slots : List Slot) (slot : Slot) → AreSlots slots → length slots < 32 → 0 < slot.count → slot.id < 2 ^ 16 → has_id slots slot.id ≡ false → meets_slots slots slot.first slot.count ≡ false → AreSlots (slots ++ slot ∷ [])
joined slots slot are room filled fits new free = record {
  few = omega (arith, length-append slots (slot ∷ []), room);
  filled = All-append (λ s. 0 < s.count) slots (slot ∷ []) are.filled (alone (λ s. 0 < s.count) slot filled);
  ids = All-append (λ s. s.id < 2 ^ 16) slots (slot ∷ []) are.ids (alone (λ s. s.id < 2 ^ 16) slot fits);
  apart = all_pairs_push AreApart slots slot are.apart (λ k d below. record {
    ids =
        let other = none_at (λ s. slot.id == s.id) slots k d new below in
        grind (arith, nat_tests, other);
    pages = λ gfn here there. has-none (get_or slots k d) slot gfn (none_at (λ s. has_any s slot.first slot.count) slots k d free below) here there;
  });
}

-- one leaves
pub left : (slots : List Slot) (id : ℕ) → AreSlots slots → AreSlots (without slots id)
left slots id are = record {
  few = omega (arith, length-filter (λ slot. not (id == slot.id)) slots, count_by-le-length (λ slot. not (id == slot.id)) slots, are.few);
  filled = All-filter (λ slot. not (id == slot.id)) (λ slot. 0 < slot.count) slots are.filled;
  ids = All-filter (λ slot. not (id == slot.id)) (λ slot. slot.id < 2 ^ 16) slots are.ids;
  apart = AllPairs-filter AreApart (λ slot. not (id == slot.id)) slots are.apart;
}

-- slots of a guest with so many pages
record Fit (pages : ℕ) (slots : List Slot) : Type 0 where
  are : AreSlots slots
  within : All (λ slot. slot.first + slot.count ≤ pages) slots

start_fits : (plan : Plan) → 0 < plan.pages → (born : Bool) → Fit plan.pages (start_slots plan born)
start_fits plan some true = record {
  are = record {
    few = omega arith;
    filled = alone (λ s. 0 < s.count) _ some;
    ids = alone (λ s. s.id < 2 ^ 16) _ (omega arith);
    apart = λ i j d before below. absurd (omega (arith, before, below));
  };
  within = alone (λ s. s.first + s.count ≤ plan.pages) _ (omega arith);
}
start_fits plan some false = record {
  are = record {
    few = omega arith;
    filled = λ k d below. absurd (omega (arith, below));
    ids = λ k d below. absurd (omega (arith, below));
    apart = λ i j d before below. absurd (omega (arith, before, below));
  };
  within = λ k d below. absurd (omega (arith, below));
}

-- a size that is accepted
sized : (plan : Plan) (first size : ℕ) → has_pages plan first size ≡ true → (0 < size / 2 ^ plan.shift) × (first + size / 2 ^ plan.shift ≤ plan.pages)
sized plan first size is = (some_pages (2 ^ plan.shift) size (grind (arith, nat_tests, is)) (grind (arith, nat_tests, is)), grind (arith, nat_tests, is))

module _ (plan : Plan) (past : List Event) (e : Event) (lpid : ℕ) (extends : Extends plan past e) where
  abbrev g : GuestPart
  g = part_after plan past lpid

  -- the slots after an entry
  fits_by : Fit plan.pages g.slots → (c : Ctx) (cmd : Cmd) (a : Answer) → e.saw.before ≡ c → e.trace.cmd ≡ cmd → e.trace.answer ≡ a → Fit plan.pages (slots_given plan g lpid c cmd a)
  fits_by fit ctx.Hv (URegslot named start size flags id) (Ret USuccess) before cmd_is answer_is = by_name (named == lpid) refl where
    may : MayBeRegistered plan past named start size flags id
    may = (registers_exactly_where plan past e named start size flags id extends before cmd_is).0 answer_is

    joins : named ≡ lpid → Fit plan.pages (g.slots ++ slot_asked plan start size id ∷ [])
    joins here =
        let pages = sized plan (slot_asked plan start size id).first size may.pages in record {
          are = joined g.slots (slot_asked plan start size id) fit.are (subst (λ (l : ℕ). length (part_after plan past l).slots < 32) here may.room) pages.0 may.id_is
              (subst (λ (l : ℕ). has_id (part_after plan past l).slots id ≡ false) here may.free)
              (subst (λ (l : ℕ). meets_slots (part_after plan past l).slots (slot_asked plan start size id).first (slot_asked plan start size id).count ≡ false) here may.apart);
          within = All-append (λ s. s.first + s.count ≤ plan.pages) g.slots (slot_asked plan start size id ∷ []) fit.within (alone (λ s. s.first + s.count ≤ plan.pages) (slot_asked plan start size id) pages.1);
        }

    by_name : (b : Bool) → (named == lpid) ≡ b → Fit plan.pages (if b then g.slots ++ slot_asked plan start size id ∷ [] else g.slots)
    by_name true t = joins (grind (arith, nat_tests))
    by_name false t = fit
  fits_by fit ctx.Hv (UUnregslot named id) (Ret USuccess) before cmd_is answer_is = by_name (named == lpid) where
    by_name : (b : Bool) → Fit plan.pages (if b then without g.slots id else g.slots)
    by_name true = record { are = left g.slots id fit.are; within = All-filter (λ slot. not (id == slot.id)) (λ slot. slot.first + slot.count ≤ plan.pages) g.slots fit.within }
    by_name false = fit
  fits_by fit c cmd a before cmd_is answer_is = fit

  fits_after : Fit plan.pages g.slots → Fit plan.pages (part_after plan (e ∷ past) lpid).slots
  fits_after fit = subst (Fit plan.pages) (sym (each_entry_leaves_slots plan past e lpid extends)) (fits_by fit e.saw.before e.trace.cmd e.trace.answer refl refl refl)

pub each_guest_has_its_slots : EachGuestHasItsSlots
each_guest_has_its_slots plan [] lpid some legal = let fit = start_fits plan some (plan.is_born lpid) in record { are = fit.are; within = fit.within }
each_guest_has_its_slots plan (e ∷ past) lpid some legal =
    let before : HasItsSlots plan past lpid = each_guest_has_its_slots plan past lpid some legal.1 in
    let fit = fits_after plan past e lpid legal.0 (record { are = before.are; within = before.within }) in
    record { are = fit.are; within = fit.within }
