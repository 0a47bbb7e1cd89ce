-- Laws of pages that come in: only what was last sealed of a page is accepted, and the history before a collision.
use Rattle.std.specs.Prelude.{◌≡◌, ◌≢◌, ◌↔◌, ℕ, ◌≤◌, true, List, ◌∷◌, length, Some}
use Rattle.std.specs.List.{filter, AllByRecursion}
use Rattle.sha2.specs.Sha256.{sha256}
use Rattle.pef_model.specs.declared.state.Move.{Move}
use Rattle.pef_model.specs.declared.state.Run.{Run}
use Rattle.pef_model.specs.declared.state.Work.TheVariants.{Inward}
use Rattle.pef_model.specs.declared.state.Ctx.TheVariants as ctx
use Rattle.pef_model.specs.declared.command.Code.TheVariants.{USuccess, UP2}
use Rattle.pef_model.specs.declared.command.Cmd.TheVariants.{Go}
use Rattle.pef_model.specs.declared.entry.Answer.TheVariants as answer
use Rattle.pef_model.specs.Plan.{Plan}
use Rattle.pef_model.specs.Event.{Event, first}
use Rattle.pef_model.specs.Target.{vcpu_in, touches_guest}
use Rattle.pef_model.specs.declared.state.Kind.TheVariants.{Invalid, Out}
use Rattle.pef_model.specs.GuestPart.{page_of, secured, refused_in}
use Rattle.pef_model.specs.History.{guest_after, last_store, IsLegal, page_after, last_begun}
use Rattle.pef_model.specs.Sound.{is_clash, is_clean, sound}

-- an entry is the end of a page-in of a page that is Out, under the guest's generation
pub record EndsPageIn (plan : Plan) (past : List Event) (move : Move) (e : Event) : Type 0 where
  pub before : e.saw.before ≡ ctx.Uv (Inward move)
  pub copied : move.copied ≡ true
  pub cmd_is : e.trace.cmd ≡ Go
  pub generation : move.generation ≡ (guest_after plan move.lpid past).part.generation
  pub out : (page_after plan past move.lpid move.gfn).kind ≡ Out

-- a page that came in and was refused: the code is U_P2, and the page is at rest as it was, with what was last sealed of it
pub record IsRefused (plan : Plan) (past : List Event) (move : Move) (e : Event) : Type 0 where
  pub answer : e.trace.answer ≡ answer.Ret UP2
  pub page : page_after plan (e ∷ past) move.lpid move.gfn ≡ refused_in (page_after plan past move.lpid move.gfn)

-- what comes in is accepted exactly where it is what was last paged out
pub record IsFresh (plan : Plan) (past : List Event) (move : Move) (e : Event) : Type 0 where
  pub accepted : (e.trace.answer ≡ answer.Ret USuccess) ↔ (last_begun plan move.lpid move.gfn past ≡ Some e.bytes)
  -- the page is Secure and at rest then
  pub page : last_begun plan move.lpid move.gfn past ≡ Some e.bytes → page_after plan (e ∷ past) move.lpid move.gfn ≡ secured (page_after plan past move.lpid move.gfn)
  -- other bytes are refused
  pub refused : last_begun plan move.lpid move.gfn past ≢ Some e.bytes → IsRefused plan past move e
  -- the last stores stay either way
  pub stores : (gpa : ℕ) → last_store plan (e ∷ past) move.lpid gpa ≡ last_store plan past move.lpid gpa

abbrev pub Freshness : Type 0
Freshness = (plan : Plan) (past : List Event) (move : Move) (e : Event) → IsLegal plan (e ∷ past) → EndsPageIn plan past move e → IsFresh plan past move e

-- as long as the guest stays in one generation, no step but one of its own changes what it last stored in a page that isn't Invalid before it nor after it
abbrev pub MovesKeepLastStore : Type 0
MovesKeepLastStore =
    (plan : Plan) (past : List Event) (e : Event) (lpid gpa : ℕ) → IsLegal plan (e ∷ past) → ((run : Run) → vcpu_in e.saw.before ≡ Some run → run.lpid ≢ lpid) →
    (guest_after plan lpid (e ∷ past)).part.generation ≡ (guest_after plan lpid past).part.generation → (page_after plan past lpid (page_of plan gpa)).kind ≢ Invalid → (page_after plan (e ∷ past) lpid (page_of plan gpa)).kind ≢ Invalid →
    last_store plan (e ∷ past) lpid gpa ≡ last_store plan past lpid gpa

-- the part of a history before its first clash
pub record IsSound (plan : Plan) (past : List Event) : Type 0 where
  -- it is the history's first part of its length
  pub part : sound plan past ≡ first (length (sound plan past)) past
  -- no entry of it is a clash
  pub clean : is_clean plan (sound plan past) ≡ true
  -- no longer first part is without a clash
  pub longest : (k : ℕ) → k ≤ length past → is_clean plan (first k past) ≡ true → k ≤ length (sound plan past)
  -- it is the history where that has no clash
  pub whole : is_clean plan past ≡ true → sound plan past ≡ past
  -- it is legal where the history is
  pub legal : IsLegal plan past → IsLegal plan (sound plan past)

abbrev pub EachSoundPart : Type 0
EachSoundPart = (plan : Plan) (past : List Event) → IsSound plan past

-- whether an entry is a clash follows from the entries that touch its guest
abbrev pub OwnEntriesClash : Type 0
OwnEntriesClash =
    (plan : Plan) (past : List Event) (move : Move) (e : Event) → e.saw.before ≡ ctx.Uv (Inward move) → is_clash plan past e ≡ is_clash plan (filter (touches_guest plan move.lpid) past) e

-- a clash is the end of a page-in that is refused: what was last paged out of the page are other bytes, with the same SHA-256
pub record IsRefusedClash (plan : Plan) (past : List Event) (e : Event) : Type 0 where
  pub move : Move
  pub before : e.saw.before ≡ ctx.Uv (Inward move)
  pub answer : e.trace.answer ≡ answer.Ret UP2
  pub sealed : List ℕ
  pub begun : last_begun plan move.lpid move.gfn past ≡ Some sealed
  pub other : e.bytes ≢ sealed
  pub same : sha256 e.bytes ≡ sha256 sealed

abbrev pub EachClashIsRefused : Type 0
EachClashIsRefused = (plan : Plan) (past : List Event) (e : Event) → IsLegal plan (e ∷ past) → is_clash plan past e ≡ true → IsRefusedClash plan past e

-- where no step answers U_P2 there is no clash
abbrev pub NoRefusalIsClean : Type 0
NoRefusalIsClean = (plan : Plan) (past : List Event) → IsLegal plan past → AllByRecursion (λ (e : Event). e.trace.answer ≢ answer.Ret UP2) past → is_clean plan past ≡ true

-- and each page-in of other bytes, with the SHA-256 of what was last paged out of the page, is one
abbrev pub EachCollisionIsClash : Type 0
EachCollisionIsClash =
    (plan : Plan) (past : List Event) (move : Move) (e : Event) (sealed : List ℕ) → IsLegal plan (e ∷ past) → EndsPageIn plan past move e →
    last_begun plan move.lpid move.gfn past ≡ Some sealed → e.bytes ≢ sealed → sha256 e.bytes ≡ sha256 sealed → is_clash plan past e ≡ true
