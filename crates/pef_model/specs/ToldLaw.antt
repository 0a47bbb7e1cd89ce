-- Laws of what an entry tells of the objects beside its target.
use Rattle.std.specs.Prelude.{◌≡◌, ◌↔◌, ℕ, Bool, true, false, List, Option, Some, None}
use Rattle.pef_model.specs.declared.state.Run.{Run}
use Rattle.pef_model.specs.declared.state.Ctx.TheVariants as ctx
use Rattle.pef_model.specs.declared.entry.Answer.{Answer}
use Rattle.pef_model.specs.declared.entry.Answer.TheVariants as answer
use Rattle.pef_model.specs.Plan.{Plan}
use Rattle.pef_model.specs.Event.{Event, mark_of}
use Rattle.pef_model.specs.Target.{value_in, AtGuest, target_of, told, guest_address_in}
use Rattle.pef_model.specs.GuestPart.{Meeting, Normal, meets, is_private, page_of}
use Rattle.pef_model.specs.Deed.{deed_guest}
use Rattle.pef_model.specs.History.{guest_after, entry_of, Extends, part_after}
use Rattle.pef_model.specs.Memory.{tells_free}

-- whether an access was done
abbrev pub is_done : Answer → Bool
is_done answer.Done = true
is_done (answer.Val value) = true
is_done a = false

-- the normal frame that an access meets
abbrev pub frame_met : Meeting → Option ℕ
frame_met (Normal n) = Some n
frame_met met = None

-- an access of a vCPU that is done tells the normal frame that it meets, and none where it meets none
abbrev pub AccessTellsItsFrame : Type 0
AccessTellsItsFrame =
    (plan : Plan) (past : List Event) (e : Event) (run : Run) (gpa : ℕ) → Extends plan past e → e.saw.before ≡ ctx.Guest run → guest_address_in e.trace.cmd ≡ Some gpa →
    is_done e.trace.answer ≡ true → e.saw.frame ≡ frame_met (meets plan (part_after plan past run.lpid) gpa)

-- and it tells none exactly where the page is private, which last_store is of
abbrev pub PrivateAccessTellsNoFrame : Type 0
PrivateAccessTellsNoFrame =
    (plan : Plan) (past : List Event) (e : Event) (run : Run) (gpa : ℕ) → Extends plan past e → e.saw.before ≡ ctx.Guest run → guest_address_in e.trace.cmd ≡ Some gpa →
    is_done e.trace.answer ≡ true → (e.saw.frame ≡ None) ↔ (is_private (part_after plan past run.lpid) (page_of plan gpa) ≡ true)

-- whether an entry tells that a secure frame was free
abbrev pub told_any : Event → Bool
told_any e = tells_free e.saw.pool

-- the value that an entry tells of normal memory: that of its answer, whatever the frame and the offset
abbrev pub told_found : Event → ℕ → ℕ → ℕ
told_found e n offset = value_in e.trace.answer

-- an entry at a guest is what its step does at the guest, with the other objects as the entry tells them
abbrev pub EntryAtGuestIsTold : Type 0
EntryAtGuestIsTold =
    (plan : Plan) (past : List Event) (e : Event) (lpid : ℕ) → Extends plan past e → target_of plan e ≡ AtGuest lpid →
    e ≡ entry_of (told e) (mark_of e) e.trace.cmd (deed_guest plan (guest_after plan lpid past) (told_found e) (told_any e) (told e) e.trace.cmd)
