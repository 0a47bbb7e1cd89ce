-- Laws of pages on the move, and of what is sealed.
use Rattle.std.specs.Prelude.{◌≡◌, ◌≢◌, ℕ, ◌+◌, ◌/◌, ◌%◌, ◌^◌, ◌<◌, ◌≤◌, ◌↔◌, true, false, List, ◌∷◌, ◌++◌, length, Some, IsSome, option_map}
use Rattle.std.specs.List.{count_by}
use Rattle.pef_model.specs.declared.config.Config.{Config}
use Rattle.pef_model.specs.declared.state.Tag.{Tag}
use Rattle.pef_model.specs.declared.state.Phase.TheVariants as phase
use Rattle.pef_model.specs.declared.state.Kind.TheVariants.{Secure, Out}
use Rattle.pef_model.specs.declared.state.Way.{Way}
use Rattle.pef_model.specs.declared.state.Way.TheVariants as way
use Rattle.pef_model.specs.declared.state.Mover.{Mover}
use Rattle.pef_model.specs.declared.state.Move.{Move}
use Rattle.pef_model.specs.declared.state.Work.TheVariants.{Inward, Outward}
use Rattle.pef_model.specs.declared.state.Ctx.TheVariants as ctx
use Rattle.pef_model.specs.declared.command.Cmd.TheVariants.{UPagein, UPageout, Go}
use Rattle.pef_model.specs.declared.entry.Answer.TheVariants as answer
use Rattle.pef_model.specs.Plan.{Plan, IsWithin, IsInRange, plan_of}
use Rattle.pef_model.specs.Event.{Event}
use Rattle.pef_model.specs.Doubleword.{doubleword}
use Rattle.pef_model.specs.Seal.{tag_bytes, image}
use Rattle.pef_model.specs.TagLaw.{HasDoublewords}
use Rattle.pef_model.specs.Target.{frame_of, work_by}
use Rattle.pef_model.specs.GuestPart.{Page, page_of}
use Rattle.pef_model.specs.PageOut.{tag_of, page_bytes}
use Rattle.pef_model.specs.Authority.{InSealedBytes, authority}
use Rattle.pef_model.specs.History.{cpu_after, guest_after, frame_after, last_store, public_state, Extends, IsLegal, page_after, begins_out, last_begun}

-- a CPU moves the page outward that its call in progress names
pub record MovesItsPage (plan : Plan) (past : List Event) (n : ℕ) (move : Move) : Type 0 where
  -- the page is still Secure, and this CPU moves it outward
  pub kind : (page_after plan past move.lpid move.gfn).kind ≡ Secure
  pub mover : (page_after plan past move.lpid move.gfn).mover ≡ Some (record { cpu = n; way = way.Outward })
  -- what is pending is what the CPU has in its hand
  pub pending : (page_after plan past move.lpid move.gfn).pending ≡ Some (cpu_after plan n past).hand

abbrev pub EachCpuMovesItsPage : Type 0
EachCpuMovesItsPage =
    (plan : Plan) (past : List Event) (n : ℕ) (move : Move) → IsLegal plan past → (cpu_after plan n past).ctx ≡ ctx.Uv (Outward move) →
    move.generation ≡ (guest_after plan move.lpid past).part.generation → MovesItsPage plan past n move

-- a CPU moves the page inward that its call in progress names: a page of a secure guest is still Out
pub record MovesItsPageIn (plan : Plan) (past : List Event) (n : ℕ) (move : Move) : Type 0 where
  pub kind : (guest_after plan move.lpid past).part.phase ≡ phase.Secure → (page_after plan past move.lpid move.gfn).kind ≡ Out
  pub mover : (page_after plan past move.lpid move.gfn).mover ≡ Some (record { cpu = n; way = way.Inward })

abbrev pub EachCpuMovesItsPageIn : Type 0
EachCpuMovesItsPageIn =
    (plan : Plan) (past : List Event) (n : ℕ) (move : Move) → IsLegal plan past → (cpu_after plan n past).ctx ≡ ctx.Uv (Inward move) →
    move.generation ≡ (guest_after plan move.lpid past).part.generation → MovesItsPageIn plan past n move

-- a page's mover has a call in progress that names the page
pub record IsMovedBy (plan : Plan) (past : List Event) (lpid gfn : ℕ) (mover : Mover) : Type 0 where
  pub move : Move
  pub ctx_is : (cpu_after plan mover.cpu past).ctx ≡ ctx.Uv (work_by mover.way move)
  pub lpid_is : move.lpid ≡ lpid
  pub gfn_is : move.gfn ≡ gfn
  pub generation : move.generation ≡ (guest_after plan lpid past).part.generation

abbrev pub EachMoverHasItsCall : Type 0
EachMoverHasItsCall =
    (plan : Plan) (past : List Event) (lpid gfn : ℕ) (mover : Mover) → IsLegal plan past → (page_after plan past lpid gfn).mover ≡ Some mover → IsMovedBy plan past lpid gfn mover

-- a call in progress names a generation that its guest has reached
abbrev pub EachMoveIsOfAGeneration : Type 0
EachMoveIsOfAGeneration =
    (plan : Plan) (past : List Event) (n : ℕ) (way : Way) (move : Move) → IsLegal plan past → (cpu_after plan n past).ctx ≡ ctx.Uv (work_by way move) → move.generation ≤ (guest_after plan move.lpid past).part.generation

-- what a page has beside its kind
pub record KeepsWhatIsSealed (page : Page) : Type 0 where
  -- last sealed bytes exactly where it is Out
  pub sealed : IsSome page.sealed ↔ (page.kind ≡ Out)
  -- pending bytes exactly where it moves outward
  pub pending : IsSome page.pending ↔ (option_map (λ (mover : Mover). mover.way) page.mover ≡ Some way.Outward)

abbrev pub EachPageKeepsWhatIsSealed : Type 0
EachPageKeepsWhatIsSealed = (plan : Plan) (past : List Event) (lpid gfn : ℕ) → IsLegal plan past → KeepsWhatIsSealed (page_after plan past lpid gfn)

-- what was last sealed of a page that is Out are the bytes of the begin of the page-out that made it Out, whatever happened between
abbrev pub LastSealedIsBegun : Type 0
LastSealedIsBegun =
    (plan : Plan) (past : List Event) (lpid gfn : ℕ) → IsLegal plan past → (page_after plan past lpid gfn).kind ≡ Out → (page_after plan past lpid gfn).sealed ≡ last_begun plan lpid gfn past

-- as long as a guest stays in one generation a page's version rises by how many page-outs of it began; at the start it is 0
abbrev pub VersionsCountPageOuts : Type 0
VersionsCountPageOuts =
    (plan : Plan) (past since : List Event) (lpid gfn : ℕ) → IsLegal plan (since ++ past) → (guest_after plan lpid (since ++ past)).part.generation ≡ (guest_after plan lpid past).part.generation →
    (page_after plan (since ++ past) lpid gfn).version ≡ (page_after plan past lpid gfn).version + count_by (begins_out plan lpid gfn) since

-- the tag under which the next page-out of a page seals it: that of its next version
abbrev pub sealing_tag : Plan → List Event → ℕ → ℕ → Tag
sealing_tag plan past lpid gfn = tag_of (guest_after plan lpid past).part lpid gfn ((page_after plan past lpid gfn).version + 1)

-- two tags differ, and so do their bytes where their numbers are doublewords
pub record AreApart (one other : Tag) : Type 0 where
  pub tags : one ≢ other
  pub bytes : HasDoublewords one → HasDoublewords other → tag_bytes one ≢ tag_bytes other

-- no two page-outs of a history seal under one tag
abbrev pub NoTagTwice : Type 0
NoTagTwice =
    (plan : Plan) (past since : List Event) (e f : Event) (lpid gfn other_lpid other_gfn : ℕ) →
    IsLegal plan (f ∷ (since ++ e ∷ past)) → begins_out plan lpid gfn e ≡ true → begins_out plan other_lpid other_gfn f ≡ true →
    AreApart (sealing_tag plan past lpid gfn) (sealing_tag plan (since ++ e ∷ past) other_lpid other_gfn)

-- what a page-out that begins seals, of a guest that is to stay secure, is the image of the page of last_store, under the tag of the page's next version
abbrev pub PageOutSealsLastStore : Type 0
PageOutSealsLastStore =
    (config : Config) (past : List Event) (e : Event) (lpid dest gpa flags order : ℕ) →
    Extends (plan_of config) past e → e.saw.before ≡ ctx.Hv → e.trace.cmd ≡ UPageout lpid dest gpa flags order → e.trace.answer ≡ answer.Step →
    (guest_after (plan_of config) lpid past).part.phase ≡ phase.Secure →
    e.bytes ≡ image config (sealing_tag (plan_of config) past lpid (page_of (plan_of config) gpa))
    (page_bytes config.shift (last_store (plan_of config) past lpid) (page_of (plan_of config) gpa))

-- the bytes of a page have the doubleword of each address at its offset
abbrev pub PageHasEachDoubleword : Type 0
PageHasEachDoubleword =
    (shift : ℕ) (value : ℕ → ℕ) (gpa : ℕ) → IsWithin 8 16 shift → gpa % 8 ≡ 0 → value gpa < 2 ^ 64 →
    doubleword (page_bytes shift value (gpa / 2 ^ shift)) (gpa % 2 ^ shift) ≡ value gpa

-- and there are as many as the page has
abbrev pub PageHasItsLength : Type 0
PageHasItsLength = (shift : ℕ) (value : ℕ → ℕ) (gfn : ℕ) → IsWithin 8 16 shift → length (page_bytes shift value gfn) ≡ 2 ^ shift

-- a configuration's sealed pages have as many bytes as its pages
abbrev pub SealedPagesFill : Type 0
SealedPagesFill = (config : Config) (tag : Tag) (plain : List ℕ) → IsInRange config → length plain ≡ 2 ^ config.shift → length (image config tag plain) ≡ 2 ^ config.shift

-- the sealed page of a page's last stores, under the tag of the page's version
abbrev pub sealed_last_stores : Config → List Event → ℕ → ℕ → List ℕ
sealed_last_stores config past lpid gfn =
    image config (tag_of (guest_after (plan_of config) lpid past).part lpid gfn (page_after (plan_of config) past lpid gfn).version) (page_bytes config.shift (last_store (plan_of config) past lpid) gfn)

-- the one copy that counts of a page that is Out are the sealed bytes of its last stores
abbrev pub OutPageIsSealed : Type 0
OutPageIsSealed =
    (config : Config) (past : List Event) (lpid gfn : ℕ) → IsLegal (plan_of config) past → (page_after (plan_of config) past lpid gfn).kind ≡ Out →
    authority (public_state (plan_of config) past) lpid gfn ≡ Some (InSealedBytes (sealed_last_stores config past lpid gfn))

-- the steps of a page's move go through the CPU's hand: a page-out writes it, a page-in reads the normal frame that the call names, and tests what it has in the hand
pub record GoesThroughHand (plan : Plan) (past : List Event) (e : Event) : Type 0 where
  pub writes : (move : Move) → e.saw.before ≡ ctx.Uv (Outward move) → e.trace.cmd ≡ Go → move.copied ≡ false → e.bytes ≡ (cpu_after plan e.trace.cpu past).hand
  pub reads : (move : Move) → e.saw.before ≡ ctx.Uv (Inward move) → e.trace.cmd ≡ Go → move.copied ≡ false → e.bytes ≡ frame_after plan move.frame past
  pub tests : (move : Move) → e.saw.before ≡ ctx.Uv (Inward move) → e.trace.cmd ≡ Go → move.copied ≡ true → e.bytes ≡ (cpu_after plan e.trace.cpu past).hand

abbrev pub EachMoveGoesThroughHand : Type 0
EachMoveGoesThroughHand = (plan : Plan) (past : List Event) (e : Event) → Extends plan past e → GoesThroughHand plan past e

-- the move of a call that names a guest, a real address and a guest address
abbrev pub move_named : Plan → List Event → ℕ → ℕ → ℕ → Move
move_named plan past lpid ra gpa = record { lpid = lpid; generation = (guest_after plan lpid past).part.generation; gfn = page_of plan gpa; frame = frame_of plan ra; copied = false }

-- a call that begins moves the page that it names, from or into the normal frame that it names
pub record BeginsWhatIsNamed (plan : Plan) (past : List Event) (e : Event) (lpid ra gpa flags order : ℕ) : Type 0 where
  pub page_out : e.trace.cmd ≡ UPageout lpid ra gpa flags order → e.saw.after ≡ ctx.Uv (Outward (move_named plan past lpid ra gpa))
  pub page_in : e.trace.cmd ≡ UPagein lpid ra gpa flags order → e.saw.after ≡ ctx.Uv (Inward (move_named plan past lpid ra gpa))

abbrev pub EachCallBeginsWhatIsNamed : Type 0
EachCallBeginsWhatIsNamed =
    (plan : Plan) (past : List Event) (e : Event) (lpid ra gpa flags order : ℕ) → Extends plan past e → e.saw.before ≡ ctx.Hv → e.trace.answer ≡ answer.Step →
    BeginsWhatIsNamed plan past e lpid ra gpa flags order
