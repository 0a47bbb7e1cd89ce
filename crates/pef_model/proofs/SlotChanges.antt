-- A guest's slots after an entry: the calls for them alone change them.
use Rattle.std.proofs.Common.{◌≡◌, ℕ, ◌==◌, ◌&&◌, nat_le, Bool, true, false, if◌then◌else◌, List, [], ◌∷◌, ◌++◌, Option, Some, None, refl, ap, sym, ◌∙◌}
use Rattle.pef_model.specs.declared.state.Work.TheVariants.{Inward}
use Rattle.pef_model.specs.declared.state.Ctx.{Ctx}
use Rattle.pef_model.specs.declared.state.Ctx.TheVariants as ctx
use Rattle.pef_model.specs.declared.command.Code.{Code}
use Rattle.pef_model.specs.declared.command.Code.TheVariants.{USuccess, UP2}
use Rattle.pef_model.specs.declared.command.Cmd.{Cmd}
use Rattle.pef_model.specs.declared.command.Cmd.TheVariants.{HEnter, UPate, URegslot, UUnregslot, UPagein, UPageout, UInval, UReturn, GLd, GSt, GIrq}
use Rattle.pef_model.specs.declared.entry.Answer.{Answer}
use Rattle.pef_model.specs.declared.entry.Answer.TheVariants.{Done, Val, Ret, Step, Enter, Exit}
use Rattle.pef_model.specs.declared.entry.PoolSaw.{PoolSaw}
use Rattle.pef_model.specs.Plan.{Plan, IsWithin}
use Rattle.pef_model.specs.Event.{Event}
use Rattle.pef_model.specs.Target.{Alone, AtGuest, target_in, is_guest, touches_guest}
use Rattle.pef_model.specs.Slots.{without}
use Rattle.pef_model.specs.GuestPart.{GuestPart, page_of, slot_asked, part_of_write, part_of_inval, part_of_access, part_in}
use Rattle.pef_model.specs.Guest.{Guest, next_guest}
use Rattle.pef_model.specs.History.{guest_after, part_after, Extends}
use Rattle.pef_model.specs.TransitionLaw.{slots_given, EachEntryLeavesSlots}
use Rattle.pef_model.proofs.Changes.{entry_gives}
use Rattle.pef_model.proofs.PageCalls.{test_within}
use Rattle.pef_model.proofs.SlotAnswers.{registers_exactly_where, unregisters_exactly_where}

-- a partition entry that is set, a page's frame that is taken, and an access leave them
write_slots : (g : GuestPart) (code : Code) (dw0 dw1 : ℕ) → (part_of_write g code dw0 dw1).slots ≡ g.slots
write_slots g USuccess dw0 dw1 = entry_gives (λ (new : GuestPart). new.slots ≡ g.slots) g dw0 dw1 refl refl
write_slots g code dw0 dw1 = refl

inval_slots : (g : GuestPart) (code : Code) (gfn : ℕ) → (part_of_inval g code gfn).slots ≡ g.slots
inval_slots g USuccess gfn = refl
inval_slots g code gfn = refl

access_slots : (g : GuestPart) (gfn : ℕ) (pool : Option PoolSaw) → (part_of_access g gfn pool).slots ≡ g.slots
access_slots g gfn None = refl
access_slots g gfn (Some saw) = refl

-- a call that aims at a guest of the machine names it
named_is : (lpid named : ℕ) (b : Bool) → is_guest lpid (if b then AtGuest named else Alone) ≡ true → (named == lpid) ≡ true
named_is lpid named true u = u
named_is lpid named false u = cc

-- an entry that aims at the guest
aimed_slots : (plan : Plan) (g : GuestPart) (pool : Option PoolSaw) (v cpu : ℕ) (bytes : List ℕ) (lpid l : ℕ) (c : Ctx) (cmd : Cmd) (a : Answer) → is_guest lpid (target_in plan c l cmd) ≡ true →
    (part_in plan g c a cmd pool v cpu bytes).slots ≡ slots_given plan g lpid c cmd a
aimed_slots plan g pool v cpu bytes lpid l ctx.Hv (URegslot named start size flags id) (Ret USuccess) t =
    ap (λ (b : Bool). if b then g.slots ++ slot_asked plan start size id ∷ [] else g.slots) (sym (named_is lpid named (nat_le 1 named && nat_le named plan.guests) t))
aimed_slots plan g pool v cpu bytes lpid l ctx.Hv (UUnregslot named id) (Ret USuccess) t =
    ap (λ (b : Bool). if b then without g.slots id else g.slots) (sym (named_is lpid named (nat_le 1 named && nat_le named plan.guests) t))
aimed_slots plan g pool v cpu bytes lpid l ctx.Hv (URegslot named start size flags id) (Ret code) t = refl
aimed_slots plan g pool v cpu bytes lpid l ctx.Hv (UUnregslot named id) (Ret code) t = refl
aimed_slots plan g pool v cpu bytes lpid l ctx.Hv (UPate named dw0 dw1) (Ret code) t = write_slots g code dw0 dw1
aimed_slots plan g pool v cpu bytes lpid l ctx.Hv (UInval named gpa order) (Ret code) t = inval_slots g code (page_of plan gpa)
aimed_slots plan g pool v cpu bytes lpid l ctx.Hv cmd (Ret code) t = refl
aimed_slots plan g pool v cpu bytes lpid l ctx.Hv (UReturn r0 r2 outs) Enter t = refl
aimed_slots plan g pool v cpu bytes lpid l ctx.Hv (HEnter named vid value) Enter t = refl
aimed_slots plan g pool v cpu bytes lpid l ctx.Hv cmd Enter t = refl
aimed_slots plan g pool v cpu bytes lpid l ctx.Hv (UPagein named src gpa flags order) Step t = refl
aimed_slots plan g pool v cpu bytes lpid l ctx.Hv (UPageout named dest gpa flags order) Step t = refl
aimed_slots plan g pool v cpu bytes lpid l ctx.Hv cmd Step t = refl
aimed_slots plan g pool v cpu bytes lpid l ctx.Hv cmd a t = refl
aimed_slots plan g pool v cpu bytes lpid l (ctx.Uv (Inward move)) cmd (Ret USuccess) t = refl
aimed_slots plan g pool v cpu bytes lpid l (ctx.Uv (Inward move)) cmd (Ret UP2) t = refl
aimed_slots plan g pool v cpu bytes lpid l (ctx.Uv work) cmd (Ret USuccess) t = refl
aimed_slots plan g pool v cpu bytes lpid l (ctx.Uv work) cmd a t = refl
aimed_slots plan g pool v cpu bytes lpid l (ctx.Guest run) (GLd rd gpa) (Val value) t = access_slots g _ pool
aimed_slots plan g pool v cpu bytes lpid l (ctx.Guest run) cmd (Val value) t = refl
aimed_slots plan g pool v cpu bytes lpid l (ctx.Guest run) (GSt rs gpa) Done t = access_slots g _ pool
aimed_slots plan g pool v cpu bytes lpid l (ctx.Guest run) cmd Done t = refl
aimed_slots plan g pool v cpu bytes lpid l (ctx.Guest run) GIrq (Exit exit) t = refl
aimed_slots plan g pool v cpu bytes lpid l (ctx.Guest run) cmd (Exit exit) t = refl
aimed_slots plan g pool v cpu bytes lpid l (ctx.Guest run) cmd a t = refl

module _ (plan : Plan) (past : List Event) (e : Event) (lpid : ℕ) (extends : Extends plan past e) where
  abbrev g : GuestPart
  g = part_after plan past lpid

  -- a call that names a guest of the machine aims at it
  elsewhere : (named : ℕ) → IsWithin 1 plan.guests named → is_guest lpid (if nat_le 1 named && nat_le named plan.guests then AtGuest named else Alone) ≡ false → (named == lpid) ≡ false
  elsewhere named within t = sym (ap (λ (b : Bool). is_guest lpid (if b then AtGuest named else Alone)) (test_within named plan.guests within)) ∙ t

  -- an entry that aims at another object, or at another guest
  other_slots : (c : Ctx) (cmd : Cmd) (a : Answer) → e.saw.before ≡ c → e.trace.cmd ≡ cmd → e.trace.answer ≡ a → is_guest lpid (target_in plan c e.saw.lpid cmd) ≡ false → g.slots ≡ slots_given plan g lpid c cmd a
  other_slots ctx.Hv (URegslot named start size flags id) (Ret USuccess) before cmd_is answer_is t =
      let may = (registers_exactly_where plan past e named start size flags id extends before cmd_is).0 answer_is in
      ap (λ (b : Bool). if b then g.slots ++ slot_asked plan start size id ∷ [] else g.slots) (sym (elsewhere named may.guest t))
  other_slots ctx.Hv (UUnregslot named id) (Ret USuccess) before cmd_is answer_is t =
      let may = (unregisters_exactly_where plan past e named id extends before cmd_is).0 answer_is in
      ap (λ (b : Bool). if b then without g.slots id else g.slots) (sym (elsewhere named may.0 t))
  other_slots c cmd a before cmd_is answer_is t = refl

  slots_after : (part_after plan (e ∷ past) lpid).slots ≡ slots_given plan g lpid e.saw.before e.trace.cmd e.trace.answer
  slots_after = by_test (touches_guest plan lpid e) refl where
    whole : Guest
    whole = guest_after plan lpid past

    by_test : (b : Bool) → touches_guest plan lpid e ≡ b → (if b then next_guest plan whole e else whole).part.slots ≡ slots_given plan g lpid e.saw.before e.trace.cmd e.trace.answer
    by_test true t = aimed_slots plan g e.saw.pool e.saw.vid e.trace.cpu e.bytes lpid e.saw.lpid e.saw.before e.trace.cmd e.trace.answer t
    by_test false t = other_slots e.saw.before e.trace.cmd e.trace.answer refl refl refl t

pub each_entry_leaves_slots : EachEntryLeavesSlots
each_entry_leaves_slots plan past e lpid extends = slots_after plan past e lpid extends
