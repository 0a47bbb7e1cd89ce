-- What was last sealed of a page that is Out are its last stores, under the tag of its version, and so is what is pending of one that moves outward.
use Rattle.std.proofs.Common.{◌≡◌, ℕ, ◌+◌, List, [], ◌∷◌, Bool, true, false, if◌then◌else◌, refl, ap, sym, subst, ◌∙◌, Option, Some, None, is_some, ◌⊎◌, inl, inr}
use Rattle.std.proofs.lemmas.Bool.{cases_eq}
use Rattle.std.specs.Prelude.{option_map}
use Rattle.pef_model.specs.declared.state.Kind.{Kind}
use Rattle.pef_model.specs.declared.state.Kind.TheVariants as kind
use Rattle.pef_model.specs.declared.state.Mover.{Mover}
use Rattle.pef_model.specs.declared.state.Way.TheVariants as way
use Rattle.pef_model.specs.declared.state.Run.{Run}
use Rattle.pef_model.specs.declared.state.Ctx.{Ctx}
use Rattle.pef_model.specs.declared.state.Ctx.TheVariants as ctx
use Rattle.pef_model.specs.declared.command.Cmd.{Cmd}
use Rattle.pef_model.specs.declared.entry.Answer.{Answer}
use Rattle.pef_model.specs.Plan.{Plan, plan_of}
use Rattle.pef_model.specs.Event.{Event}
use Rattle.pef_model.specs.GuestPart.{Page, GuestPart, Moves, meets_kind, page_of, invalid_page, is_invalid, with_entry}
use Rattle.pef_model.specs.PageOut.{tag_of, private_page, sealed_page}
use Rattle.pef_model.specs.Authority.{InSealedBytes, authority_by}
use Rattle.pef_model.specs.History.{cpu_after, guest_after, part_after, last_store, IsLegal, begins_out_in, begins_out}
use Rattle.pef_model.specs.MoveLaw.{OutPageIsSealed}
use Rattle.pef_model.proofs.Changes.{Change, Quiet, Begins, Copies, Ends, Drops, Comes, Reads, Accepts, Refuses, Takes, Parked, Gone, Backs, Writes, Slots, Unmaps, Selected, WritesEntry}
use Rattle.pef_model.proofs.ChangeOf.{change}
use Rattle.pef_model.proofs.Fields.{same_field, kept_field}
use Rattle.pef_model.proofs.Paging.{pages, generations, AllPlain, all_plain, all_moved}
use Rattle.pef_model.proofs.Puts.{put-other}
use Rattle.pef_model.proofs.Moving.{unmapped_out}
use Rattle.pef_model.proofs.Begun.{PageStep, Stays, Begun, Ended, Coming, Refused, Unmapped, Secured, not_both_ways, page_step}
use Rattle.pef_model.proofs.PageBytes.{same_page_bytes}
use Rattle.pef_model.proofs.KeptStores.{StoresNothing, others_store_nothing, content_stays}
use Rattle.pef_model.proofs.Away.{Fails, IsAway, moves_away, out_away, away_stores_nothing}

-- no step but one that sets a partition entry changes a generation
stays_or_written : (plan : Plan) (past : List Event) (e : Event) → Change plan past (cpu_after plan e.trace.cpu past) e →
    (generations plan past ≡ generations plan (e ∷ past)) ⊎ WritesEntry plan past (cpu_after plan e.trace.cpu past) e
stays_or_written plan past e (Quiet x) = inl (kept_field plan past e (λ (g : GuestPart). g.generation) x.parts)
stays_or_written plan past e (Begins x) = inl (same_field plan past e (λ (g : GuestPart). g.generation) _ _ x.parts refl)
stays_or_written plan past e (Copies x) = inl (kept_field plan past e (λ (g : GuestPart). g.generation) x.parts)
stays_or_written plan past e (Ends x) = inl (same_field plan past e (λ (g : GuestPart). g.generation) _ _ x.parts refl)
stays_or_written plan past e (Drops x) = inl (kept_field plan past e (λ (g : GuestPart). g.generation) x.parts)
stays_or_written plan past e (Comes x) = inl (same_field plan past e (λ (g : GuestPart). g.generation) _ _ x.parts refl)
stays_or_written plan past e (Reads x) = inl (kept_field plan past e (λ (g : GuestPart). g.generation) x.parts)
stays_or_written plan past e (Accepts x) = inl (same_field plan past e (λ (g : GuestPart). g.generation) _ _ x.parts refl)
stays_or_written plan past e (Refuses x) = inl (same_field plan past e (λ (g : GuestPart). g.generation) _ _ x.parts refl)
stays_or_written plan past e (Takes x) = inl (same_field plan past e (λ (g : GuestPart). g.generation) _ _ x.parts refl)
stays_or_written plan past e (Parked x) = inl (same_field plan past e (λ (g : GuestPart). g.generation) _ _ x.parts refl)
stays_or_written plan past e (Gone x) = inl (kept_field plan past e (λ (g : GuestPart). g.generation) x.parts)
stays_or_written plan past e (Backs x) = inl (same_field plan past e (λ (g : GuestPart). g.generation) _ _ x.parts refl)
stays_or_written plan past e (Slots x) = inl (same_field plan past e (λ (g : GuestPart). g.generation) _ _ x.parts refl)
stays_or_written plan past e (Unmaps x) = inl (same_field plan past e (λ (g : GuestPart). g.generation) _ _ x.parts refl)
stays_or_written plan past e (Selected x) = inl (kept_field plan past e (λ (g : GuestPart). g.generation) x.parts)
stays_or_written plan past e (Writes x) = inr x

-- so none changes that of a guest that has a page that isn't Invalid, or moves
generation_stays : (plan : Plan) (past : List Event) (e : Event) (lpid gfn : ℕ) → AllPlain plan past → (is_invalid (pages plan past lpid gfn) ≡ true → (pages plan past lpid gfn).mover ≡ None → ⊥) →
    Change plan past (cpu_after plan e.trace.cpu past) e → generations plan past lpid ≡ generations plan (e ∷ past) lpid
generation_stays plan past e lpid gfn plain held changes = elim (stays_or_written plan past e changes) [
  | inl same ↦ ap (λ (f : ℕ → ℕ). f lpid) same
  | inr x ↦ elim (cases_eq lpid x.lpid) [
    | inl here ↦
        let page = plain x.lpid x.allowed gfn in
        absurd (held (ap (λ (l : ℕ). is_invalid (pages plan past l gfn)) here ∙ page.0) (ap (λ (l : ℕ). (pages plan past l gfn).mover) here ∙ page.1))
    | inr other ↦ ap (λ (g : GuestPart). g.generation) (sym (x.parts lpid ∙ put-other (part_after plan past) x.lpid (with_entry (part_after plan past x.lpid) x.base x.length_) lpid other))
  ]
]

-- a page to which no access is done isn't Invalid at rest
away_held : (page : Page) → IsAway page → is_invalid page ≡ true → page.mover ≡ None → ⊥
away_held page away invalid rests =
    none page.kind invalid (subst (λ (m : Option Mover). Fails (if is_some m then Moves else meets_kind page.kind)) rests away) where
      none : (k : Kind) → is_invalid (record page { kind = k }) ≡ true → Fails (meets_kind k) → ⊥
      none kind.Invalid is fails = fails
      none kind.Secure is fails = cc
      none kind.Out is fails = cc
      none (kind.Shared frame fresh) is fails = cc

-- nor does one that is Secure
secure_held : (page : Page) → page.kind ≡ kind.Secure → is_invalid page ≡ true → page.mover ≡ None → ⊥
secure_held page secure invalid rests = let none : false ≡ true = ap (λ (k : Kind). is_invalid (record page { kind = k })) (sym secure) ∙ invalid in cc

-- a page of which a page-out begins is Secure
begun_secure : (old new : Page) (begins : Bool) (bytes seal : List ℕ) → PageStep old new begins bytes seal → begins ≡ true → old.kind ≡ kind.Secure
begun_secure old new begins bytes seal (Stays none is) some = let no : true ≡ false = sym some ∙ none in cc
begun_secure old new begins bytes seal (Begun begun cpu secure sealed is) some = secure
begun_secure old new begins bytes seal (Ended none hand cpu moving is) some = let no : true ≡ false = sym some ∙ none in cc
begun_secure old new begins bytes seal (Coming none cpu is) some = let no : true ≡ false = sym some ∙ none in cc
begun_secure old new begins bytes seal (Refused none is) some = let no : true ≡ false = sym some ∙ none in cc
begun_secure old new begins bytes seal (Unmapped none is) some = let no : true ≡ false = sym some ∙ none in cc
begun_secure old new begins bytes seal (Secured none is) some = let no : true ≡ false = sym some ∙ none in cc

-- a step that begins a page-out is no guest's
no_guest_begins : (plan : Plan) (lpid gfn : ℕ) (c : Ctx) (cmd : Cmd) (a : Answer) → begins_out_in plan lpid gfn c cmd a ≡ true → (run : Run) → c ≡ ctx.Guest run → ⊥
no_guest_begins plan lpid gfn ctx.Hv cmd a begins run is = cc
no_guest_begins plan lpid gfn (ctx.Uv work) cmd a begins run is = cc
no_guest_begins plan lpid gfn (ctx.Guest other) cmd a begins run is = cc

-- a page that has this copy where it is Out, and where it moves outward
record HasCopy (page : Page) (copy : List ℕ) : Type 0 where
  sealed : page.kind ≡ kind.Out → page.sealed ≡ Some copy
  pending : (cpu : ℕ) → page.mover ≡ Some (record { cpu = cpu; way = way.Outward }) → page.pending ≡ Some copy

-- an entry makes this copy of that: the bytes that a page-out seals, and else the old one where no access to the page is done
record MakesCopy (old new : Page) (begins : Bool) (seal before after : List ℕ) : Type 0 where
  made : begins ≡ true → new.version ≡ old.version + 1 → after ≡ seal
  kept : IsAway old → new.version ≡ old.version → after ≡ before

-- so the page has it then
copy_after : (old new : Page) (begins : Bool) (bytes seal before after : List ℕ) → PageStep old new begins bytes seal → MakesCopy old new begins seal before after → HasCopy old before → HasCopy new after
copy_after old new begins bytes seal before after (Stays none is) makes h = subst (λ (page : Page). HasCopy page after) (sym is) (record {
  sealed = λ out. h.sealed out ∙ ap Some (sym (same (out_away old out)));
  pending = λ cpu moves. h.pending cpu moves ∙ ap Some (sym (same (moves_away old _ moves)));
}) where
  same : IsAway old → after ≡ before
  same away = makes.kept away (ap (λ (page : Page). page.version) is)
copy_after old new begins bytes seal before after (Begun some cpu secure sealed is) makes h = subst (λ (page : Page). HasCopy page after) (sym is) (record {
  sealed = λ out. cc;
  pending = λ n moves. ap Some (sealed ∙ sym (makes.made some (ap (λ (page : Page). page.version) is)));
})
copy_after old new begins bytes seal before after (Ended none hand cpu moving is) makes h = subst (λ (page : Page). HasCopy page after) (sym is) (record {
  sealed = λ out. h.pending cpu moving.mover ∙ ap Some (sym same);
  pending = λ n rests. cc;
}) where
  same : after ≡ before
  same = makes.kept (moves_away old _ moving.mover) (ap (λ (page : Page). page.version) is)
copy_after old new begins bytes seal before after (Coming none cpu is) makes h = subst (λ (page : Page). HasCopy page after) (sym is) (record {
  sealed = λ out. h.sealed out ∙ ap Some (sym (makes.kept (out_away old out) (ap (λ (page : Page). page.version) is)));
  pending = λ n moves. absurd (not_both_ways n cpu _ _ refl moves refl);
})
copy_after old new begins bytes seal before after (Refused none is) makes h = subst (λ (page : Page). HasCopy page after) (sym is) (record {
  sealed = λ out. h.sealed out ∙ ap Some (sym (makes.kept (out_away old out) (ap (λ (page : Page). page.version) is)));
  pending = λ n rests. cc;
})
copy_after old new begins bytes seal before after (Unmapped none is) makes h = subst (λ (page : Page). HasCopy page after) (sym is) (record {
  sealed = λ out. h.sealed (unmapped_out old.kind out) ∙ ap Some (sym (makes.kept (out_away old (unmapped_out old.kind out)) (ap (λ (page : Page). page.version) is)));
  pending = λ cpu moves. h.pending cpu moves ∙ ap Some (sym (makes.kept (moves_away old _ moves) (ap (λ (page : Page). page.version) is)));
})
copy_after old new begins bytes seal before after (Secured none is) makes h = subst (λ (page : Page). HasCopy page after) (sym is) (record { sealed = λ out. cc; pending = λ n rests. cc })

-- the sealed page of a page's last stores, under the tag of the page's version
abbrev copy_of : Plan → List Event → ℕ → ℕ → List ℕ
copy_of plan past lpid gfn =
    let g = guest_after plan lpid past in
    plan.image (tag_of g.part lpid gfn (g.part.pages gfn).version) (private_page plan g gfn)

module _ (plan : Plan) (past : List Event) (e : Event) (lpid gfn : ℕ) (legal : IsLegal plan (e ∷ past)) where
  abbrev old : Page
  old = pages plan past lpid gfn

  abbrev new : Page
  new = pages plan (e ∷ past) lpid gfn

  abbrev g : GuestPart
  g = (guest_after plan lpid past).part

  -- where nothing is stored in the page, its copy differs in the version alone
  same_copy : (version : ℕ) → (is_invalid old ≡ true → old.mover ≡ None → ⊥) → ((gpa : ℕ) → page_of plan gpa ≡ gfn → StoresNothing plan past e lpid gpa) → new.version ≡ version →
      copy_of plan (e ∷ past) lpid gfn ≡ plan.image (tag_of g lpid gfn version) (private_page plan (guest_after plan lpid past) gfn)
  same_copy version held none is =
      let generation : generations plan (e ∷ past) lpid ≡ g.generation = sym (generation_stays plan past e lpid gfn (all_plain plan past legal.1) held (change plan past e legal.0)) in
      let bytes : private_page plan (guest_after plan lpid (e ∷ past)) gfn ≡ private_page plan (guest_after plan lpid past) gfn =
      same_page_bytes plan.shift (last_store plan (e ∷ past) lpid) (last_store plan past lpid) gfn
      (λ gpa here. content_stays plan past e lpid gpa (none gpa here)) in
      ap (λ (x : ℕ). plan.image (record { lpid = lpid; generation = x; gfn = gfn; version = new.version }) (private_page plan (guest_after plan lpid (e ∷ past)) gfn)) generation
      ∙ ap (λ (x : ℕ). plan.image (tag_of g lpid gfn x) (private_page plan (guest_after plan lpid (e ∷ past)) gfn)) is
      ∙ ap (plan.image (tag_of g lpid gfn version)) bytes

  -- so an entry makes the copy
  makes_copy : MakesCopy old new (begins_out plan lpid gfn e) (sealed_page plan (guest_after plan lpid past) lpid gfn) (copy_of plan past lpid gfn) (copy_of plan (e ∷ past) lpid gfn)
  makes_copy = record {
    made = λ begins. same_copy (old.version + 1)
        (secure_held old (begun_secure _ _ (begins_out plan lpid gfn e) e.bytes _ (page_step plan past e legal.0 lpid gfn (all_moved plan past legal.1) (change plan past e legal.0)) begins))
        (λ gpa here. others_store_nothing plan past e lpid gpa (λ run is same. no_guest_begins plan lpid gfn e.saw.before e.trace.cmd e.trace.answer begins run is));
    kept = λ away. same_copy old.version (away_held old away)
        (λ gpa here. away_stores_nothing plan past e lpid gpa legal.0 (subst (λ (n : ℕ). IsAway (pages plan past lpid n)) (sym here) away));
  }

-- at the start no page is Out or moves
start_has_copy : (copy : List ℕ) → HasCopy invalid_page copy
start_has_copy copy = record { sealed = λ out. cc; pending = λ cpu moves. cc }

-- by induction over the history
has_copy : (plan : Plan) (past : List Event) (lpid gfn : ℕ) → IsLegal plan past → HasCopy (pages plan past lpid gfn) (copy_of plan past lpid gfn)
has_copy plan [] lpid gfn legal = start_has_copy (copy_of plan [] lpid gfn)
has_copy plan (e ∷ past) lpid gfn legal =
    copy_after _ _ (begins_out plan lpid gfn e) e.bytes (sealed_page plan (guest_after plan lpid past) lpid gfn) (copy_of plan past lpid gfn) (copy_of plan (e ∷ past) lpid gfn)
    (page_step plan past e legal.0 lpid gfn (all_moved plan past legal.1) (change plan past e legal.0)) (makes_copy plan past e lpid gfn legal) (has_copy plan past lpid gfn legal.1)

-- so the one copy that counts of a page that is Out are the sealed bytes of its last stores
pub out_page_is_sealed : OutPageIsSealed
out_page_is_sealed config past lpid gfn legal out =
    let page : Page = pages (plan_of config) past lpid gfn in
    let has = has_copy (plan_of config) past lpid gfn legal in
    ap (λ (k : Kind). authority_by k page.sealed) out ∙ ap (option_map InSealedBytes) (has.sealed out)
