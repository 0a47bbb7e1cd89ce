-- A page's version counts the page-outs of it that began, and the newest of them is what is pending or was last sealed.
use Rattle.std.proofs.Common.{◌≡◌, ℕ, ◌+◌, List, [], ◌∷◌, Bool, true, false, refl, ap, sym, subst, ◌∙◌, ◌==◌, ◌&&◌, cond, if◌then◌else◌, inl, inr, Option, Some, None, arith, ◌++◌}
use Rattle.std.specs.List.{count_by}
use Rattle.std.proofs.lemmas.List.Sums.{sum_by-cons, sum_by-append}
use Rattle.pef_model.specs.declared.state.Kind.TheVariants.{Secure, Out}
use Rattle.pef_model.specs.declared.state.Way.{Way}
use Rattle.pef_model.specs.declared.state.Way.TheVariants as way
use Rattle.pef_model.specs.declared.state.Mover.{Mover}
use Rattle.pef_model.specs.declared.state.Move.{Move}
use Rattle.pef_model.specs.declared.state.Work.TheVariants.{Outward}
use Rattle.pef_model.specs.declared.state.Ctx.{Ctx}
use Rattle.pef_model.specs.declared.state.Ctx.TheVariants as ctx
use Rattle.pef_model.specs.declared.command.Cmd.{Cmd}
use Rattle.pef_model.specs.declared.command.Cmd.TheVariants.{UPageout}
use Rattle.pef_model.specs.declared.entry.Answer.{Answer}
use Rattle.pef_model.specs.declared.entry.Answer.TheVariants.{Step}
use Rattle.pef_model.specs.Plan.{Plan}
use Rattle.pef_model.specs.Event.{Event}
use Rattle.pef_model.specs.Target.{touches_cpu}
use Rattle.pef_model.specs.Cpu.{CpuPart, start_cpu, next_cpu}
use Rattle.pef_model.specs.GuestPart.{Page, GuestPart, invalid_page, secured, begun_out, ended_out, begun_in, refused_in, unmapped}
use Rattle.pef_model.specs.PageOut.{sealed_page}
use Rattle.pef_model.specs.History.{cpu_after, guest_after, Extends, IsLegal, begins_out_in, begins_out, last_begun}
use Rattle.pef_model.specs.MoveLaw.{LastSealedIsBegun, VersionsCountPageOuts}
use Rattle.pef_model.proofs.Folds.{same_test, test_same, counts}
use Rattle.pef_model.proofs.Puts.{put_in, here_or_elsewhere, put_in-here, put_in-elsewhere, IsElsewhere}
use Rattle.pef_model.proofs.Outcomes.{Outcome, outcome}
use Rattle.pef_model.proofs.Steps.{ctx_after}
use Rattle.pef_model.proofs.Changes.{Change, Quiet, Begins, Copies, Ends, Drops, Comes, Reads, Accepts, Refuses, Takes, Parked, Gone, Backs, Writes, Slots, Unmaps, Selected, LeavesCpu}
use Rattle.pef_model.proofs.ChangeOf.{change}
use Rattle.pef_model.proofs.Fields.{field_after, same_field, kept_field, entry_field}
use Rattle.pef_model.proofs.Works.{outward, moves_none}
use Rattle.pef_model.proofs.Moving.{IsMoving, unmapped_out}
use Rattle.pef_model.proofs.Paging.{pages, AllMoved, all_moved}

-- a page-out that begins leaves the hypervisor with a call in progress
abbrev StaysOut : Ctx → Ctx → Type 0
StaysOut before after = (move : Move) → before ≡ ctx.Hv → after ≡ ctx.Uv (Outward move) → ⊥

-- so a step that doesn't begins no page-out
begins_none : (plan : Plan) (lpid gfn : ℕ) (c : Ctx) (cmd : Cmd) (a : Answer) (after : Ctx) (shown : List ℕ) → Outcome c cmd a after shown → StaysOut c after → begins_out_in plan lpid gfn c cmd a ≡ false
begins_none plan lpid gfn ctx.Hv (UPageout named dest gpa flags order) Step (ctx.Uv (Outward move)) shown h stays = absurd (stays move refl refl)
begins_none plan lpid gfn ctx.Hv (UPageout named dest gpa flags order) Step after shown h stays = absurd h.0
begins_none plan lpid gfn c cmd a after shown h stays = refl

-- the test of a place holds there
both_same : (l g m n : ℕ) → m ≡ l → n ≡ g → (l == m) && (g == n) ≡ true
both_same l g m n p q = rw (p, q, same_test l, same_test g) refl

-- and nowhere else
not_both : (l g m n : ℕ) → IsElsewhere l g m n → (l == m) && (g == n) ≡ false
not_both l g m n elsewhere = by_first (l == m) refl where
  by_second : l ≡ m → (b : Bool) → (g == n) ≡ b → b ≡ false
  by_second p true s = absurd (elsewhere (sym p) (sym (test_same g n s)))
  by_second p false s = refl

  by_first : (b : Bool) → (l == m) ≡ b → b && (g == n) ≡ false
  by_first true t = by_second (test_same l m t) (g == n) refl
  by_first false t = refl

-- how an entry leaves a page, by whether it begins a page-out of it, which seals these bytes
pub data PageStep (old new : Page) (begins : Bool) (bytes seal : List ℕ) : Type 0 where
  Stays : begins ≡ false → new ≡ old → PageStep old new begins bytes seal
  Begun : begins ≡ true → (cpu : ℕ) → old.kind ≡ Secure → bytes ≡ seal → new ≡ begun_out old cpu bytes → PageStep old new begins bytes seal
  Ended : begins ≡ false → (hand : List ℕ) (cpu : ℕ) → IsMoving way.Outward old hand cpu → new ≡ ended_out old → PageStep old new begins bytes seal
  Coming : begins ≡ false → (cpu : ℕ) → new ≡ begun_in old cpu → PageStep old new begins bytes seal
  Refused : begins ≡ false → new ≡ refused_in old → PageStep old new begins bytes seal
  Unmapped : begins ≡ false → new ≡ unmapped old → PageStep old new begins bytes seal
  Secured : begins ≡ false → new ≡ secured old → PageStep old new begins bytes seal

-- a page that has begun so often, the last time with these bytes
record IsCounted (page : Page) (count : ℕ) (last : Option (List ℕ)) : Type 0 where
  version : page.version ≡ count
  sealed : page.kind ≡ Out → page.sealed ≡ last
  pending : (cpu : ℕ) → page.mover ≡ Some (record { cpu = cpu; way = way.Outward }) → page.pending ≡ last

-- one more where a page-out begins
abbrev counted_on : Bool → ℕ → ℕ
counted_on begins count = if begins then 1 + count else count

-- as the count has it
counted_on_is : (begins : Bool) (count : ℕ) → cond begins 1 0 + count ≡ counted_on begins count
counted_on_is true count = refl
counted_on_is false count = omega arith

-- where none begins the count and the newest bytes are the old
counted_still : (new : Page) (begins : Bool) (bytes : List ℕ) (count : ℕ) (last : Option (List ℕ)) → begins ≡ false → IsCounted new count last → IsCounted new (counted_on begins count) (if begins then Some bytes else last)
counted_still new true bytes count last none h = cc
counted_still new false bytes count last none h = h

-- and where one does they are the entry's
counted_more : (new : Page) (begins : Bool) (bytes : List ℕ) (count : ℕ) (last : Option (List ℕ)) → begins ≡ true → IsCounted new (1 + count) (Some bytes) →
    IsCounted new (counted_on begins count) (if begins then Some bytes else last)
counted_more new true bytes count last some h = h
counted_more new false bytes count last some h = cc

-- no page moves both ways
pub not_both_ways : (n cpu : ℕ) (mover other : Option Mover) → mover ≡ Some (record { cpu = cpu; way = way.Inward }) → other ≡ Some (record { cpu = n; way = way.Outward }) → mover ≡ other → ⊥
not_both_ways n cpu mover other inward outward same = let ways : way.Inward ≡ way.Outward = sym (ap way_in inward) ∙ ap way_in same ∙ ap way_in outward in cc where
  way_in : Option Mover → Way
  way_in None = way.Inward
  way_in (Some mover) = mover.way

-- the count and the newest bytes after an entry
counted_after : (old new : Page) (begins : Bool) (bytes seal : List ℕ) (count : ℕ) (last : Option (List ℕ)) → PageStep old new begins bytes seal → IsCounted old count last →
    IsCounted new (counted_on begins count) (if begins then Some bytes else last)
counted_after old new begins bytes seal count last (Stays none is) h = counted_still new begins bytes count last none (subst (λ (page : Page). IsCounted page count last) (sym is) h)
counted_after old new begins bytes seal count last (Begun some cpu secure sealed is) h =
    counted_more new begins bytes count last some (subst (λ (page : Page). IsCounted page (1 + count) (Some bytes)) (sym is)
    (record { version = let same = h.version in omega arith; sealed = λ out. cc; pending = λ n moves. refl }))
counted_after old new begins bytes seal count last (Ended none hand cpu moving is) h =
    counted_still new begins bytes count last none (subst (λ (page : Page). IsCounted page count last) (sym is)
    (record { version = h.version; sealed = λ out. h.pending cpu moving.mover; pending = λ n rests. cc }))
counted_after old new begins bytes seal count last (Coming none cpu is) h =
    counted_still new begins bytes count last none (subst (λ (page : Page). IsCounted page count last) (sym is)
    (record { version = h.version; sealed = h.sealed; pending = λ n moves. absurd (not_both_ways n cpu _ _ refl moves refl) }))
counted_after old new begins bytes seal count last (Refused none is) h =
    counted_still new begins bytes count last none (subst (λ (page : Page). IsCounted page count last) (sym is)
    (record { version = h.version; sealed = h.sealed; pending = λ n rests. cc }))
counted_after old new begins bytes seal count last (Unmapped none is) h =
    counted_still new begins bytes count last none (subst (λ (page : Page). IsCounted page count last) (sym is)
    (record { version = h.version; sealed = λ out. h.sealed (unmapped_out old.kind out); pending = h.pending }))
counted_after old new begins bytes seal count last (Secured none is) h =
    counted_still new begins bytes count last none (subst (λ (page : Page). IsCounted page count last) (sym is)
    (record { version = h.version; sealed = λ out. cc; pending = λ n rests. cc }))

module _ (plan : Plan) (past : List Event) (e : Event) (extends : Extends plan past e) (lpid gfn : ℕ) where
  abbrev cpu : CpuPart
  cpu = cpu_after plan e.trace.cpu past

  -- the context before the entry is its CPU's
  before_is : cpu.ctx ≡ e.saw.before
  before_is = ap (λ (x : Event). x.saw.before) (sym extends.is)

  -- and so is the one after it
  after_is : (after : Ctx) (hand : List ℕ) (l : ℕ) → LeavesCpu cpu e after hand l → e.saw.after ≡ after
  after_is after hand l left =
      sym (ctx_after plan past e)
      ∙ ap (λ (x : CpuPart). x.ctx) (counts (touches_cpu e.trace.cpu) next_cpu (start_cpu plan) e past (same_test e.trace.cpu))
      ∙ left.ctx_is

  -- an entry that leaves its CPU so begins no page-out
  none_begins : (after : Ctx) (hand : List ℕ) (l : ℕ) → LeavesCpu cpu e after hand l → StaysOut cpu.ctx after → begins_out plan lpid gfn e ≡ false
  none_begins after hand l left stays =
      begins_none plan lpid gfn e.saw.before e.trace.cmd e.trace.answer e.saw.after e.saw.shown (outcome plan past e extends)
      (λ move hypervisor call. stays move (before_is ∙ hypervisor) (sym (after_is after hand l left) ∙ call))

  -- the page, and whether a page-out of it begins
  abbrev pub StepsPage : Type 0
  StepsPage = PageStep (pages plan past lpid gfn) (pages plan (e ∷ past) lpid gfn) (begins_out plan lpid gfn e) e.bytes (sealed_page plan (guest_after plan lpid past) lpid gfn)

  -- where no part or no page changes
  page_kept : begins_out plan lpid gfn e ≡ false → pages plan past ≡ pages plan (e ∷ past) → StepsPage
  page_kept none same = Stays none (ap (λ (f : ℕ → ℕ → Page). f lpid gfn) (sym same))

  -- where one page changes
  page_put : (l g : ℕ) (new : Page) → put_in (pages plan past) l g new ≡ pages plan (e ∷ past) →
      (lpid ≡ l → gfn ≡ g → pages plan (e ∷ past) lpid gfn ≡ new → StepsPage) → (IsElsewhere l g lpid gfn → begins_out plan lpid gfn e ≡ false) → StepsPage
  page_put l g new is here none = elim (here_or_elsewhere l g lpid gfn) [
    | inl (p, q) ↦ here p q (
        ap (λ (f : ℕ → ℕ → Page). f lpid gfn) (sym is) ∙ ap (λ (x : ℕ). put_in (pages plan past) l g new x gfn) p ∙ ap (put_in (pages plan past) l g new l) q
        ∙ put_in-here (pages plan past) l g new)
    | inr elsewhere ↦ Stays (none elsewhere) (ap (λ (f : ℕ → ℕ → Page). f lpid gfn) (sym is) ∙ put_in-elsewhere (pages plan past) l g new lpid gfn elsewhere)
  ]

  -- what is here is the old page of this place
  old_page : (l g : ℕ) → lpid ≡ l → gfn ≡ g → pages plan past l g ≡ pages plan past lpid gfn
  old_page l g p q = ap (λ (x : ℕ). pages plan past x g) (sym p) ∙ ap (pages plan past lpid) (sym q)

  -- each change steps the page so
  pub page_step : AllMoved plan past → Change plan past cpu e → StepsPage
  page_step all (Quiet x) =
      page_kept (none_begins _ _ _ x.cpu_is (λ move hypervisor call. cc)) (kept_field plan past e (λ (g : GuestPart). g.pages) x.parts)
  page_step all (Begins x) =
      page_put x.move.lpid x.move.gfn _ (field_after plan past e (λ (g : GuestPart). g.pages) _ _ x.parts)
      (λ p q is. Begun (x.begins lpid gfn ∙ both_same x.move.lpid x.move.gfn lpid gfn p q) e.trace.cpu
      (ap (λ (page : Page). page.kind) (sym (old_page x.move.lpid x.move.gfn p q)) ∙ x.kind_is)
      (x.sealed ∙ ap (λ (l : ℕ). sealed_page plan (guest_after plan l past) l x.move.gfn) (sym p) ∙ ap (sealed_page plan (guest_after plan lpid past) lpid) (sym q))
      (is ∙ ap (λ (page : Page). begun_out page e.trace.cpu e.bytes) (old_page x.move.lpid x.move.gfn p q)))
      (λ elsewhere. x.begins lpid gfn ∙ not_both x.move.lpid x.move.gfn lpid gfn elsewhere)
  page_step all (Copies x) =
      page_kept (none_begins _ _ _ x.cpu_is (λ move hypervisor call. let before = x.before in cc)) (kept_field plan past e (λ (g : GuestPart). g.pages) x.parts)
  page_step all (Ends x) =
      let moving = all.moves e.trace.cpu (outward x.move) x.before x.generation in
      let none = none_begins _ _ _ x.cpu_is (λ move hypervisor call. let before = x.before in cc) in
      page_put x.move.lpid x.move.gfn _ (field_after plan past e (λ (g : GuestPart). g.pages) _ _ x.parts)
      (λ p q is. Ended none cpu.hand e.trace.cpu
      (subst (λ (page : Page). IsMoving way.Outward page cpu.hand e.trace.cpu) (old_page x.move.lpid x.move.gfn p q) moving)
      (is ∙ ap ended_out (old_page x.move.lpid x.move.gfn p q)))
      (λ elsewhere. none)
  page_step all (Drops x) =
      page_kept (none_begins _ _ _ x.cpu_is (λ move hypervisor call. let before = x.before in cc)) (kept_field plan past e (λ (g : GuestPart). g.pages) x.parts)
  page_step all (Comes x) =
      let none = none_begins _ _ _ x.cpu_is (λ move hypervisor call. cc) in
      page_put x.move.lpid x.move.gfn _ (field_after plan past e (λ (g : GuestPart). g.pages) _ _ x.parts)
      (λ p q is. Coming none e.trace.cpu (is ∙ ap (λ (page : Page). begun_in page e.trace.cpu) (old_page x.move.lpid x.move.gfn p q)))
      (λ elsewhere. none)
  page_step all (Reads x) =
      page_kept (none_begins _ _ _ x.cpu_is (λ move hypervisor call. let before = x.before in cc)) (kept_field plan past e (λ (g : GuestPart). g.pages) x.parts)
  page_step all (Accepts x) =
      let none = none_begins _ _ _ x.cpu_is (λ move hypervisor call. let before = x.before in cc) in
      page_put x.move.lpid x.move.gfn _ (field_after plan past e (λ (g : GuestPart). g.pages) _ _ x.parts)
      (λ p q is. Secured none (is ∙ ap secured (old_page x.move.lpid x.move.gfn p q)))
      (λ elsewhere. none)
  page_step all (Refuses x) =
      let none = none_begins _ _ _ x.cpu_is (λ move hypervisor call. let before = x.before in cc) in
      page_put x.move.lpid x.move.gfn _ (field_after plan past e (λ (g : GuestPart). g.pages) _ _ x.parts)
      (λ p q is. Refused none (is ∙ ap refused_in (old_page x.move.lpid x.move.gfn p q)))
      (λ elsewhere. none)
  page_step all (Takes x) =
      page_kept (none_begins _ _ _ x.cpu_is (λ move hypervisor call. moves_none x.after _ x.runs (outward move) call)) (same_field plan past e (λ (g : GuestPart). g.pages) _ _ x.parts refl)
  page_step all (Parked x) =
      page_kept (none_begins _ _ _ x.cpu_is (λ move hypervisor call. cc)) (same_field plan past e (λ (g : GuestPart). g.pages) _ _ x.parts refl)
  page_step all (Gone x) =
      page_kept (none_begins _ _ _ x.cpu_is (λ move hypervisor call. cc)) (kept_field plan past e (λ (g : GuestPart). g.pages) x.parts)
  page_step all (Backs x) =
      let none = none_begins _ _ _ x.cpu_is (λ move hypervisor call. let before = x.before in cc) in
      page_put x.run.lpid x.gfn _ (field_after plan past e (λ (g : GuestPart). g.pages) _ _ x.parts)
      (λ p q is. Secured none (is ∙ ap secured (old_page x.run.lpid x.gfn p q)))
      (λ elsewhere. none)
  page_step all (Writes x) =
      page_kept (none_begins _ _ _ x.cpu_is (λ move hypervisor call. cc)) (entry_field plan past e (λ (g : GuestPart). g.pages) x.lpid x.base x.length_ x.parts refl refl)
  page_step all (Slots x) =
      page_kept (none_begins _ _ _ x.cpu_is (λ move hypervisor call. cc)) (same_field plan past e (λ (g : GuestPart). g.pages) _ _ x.parts refl)
  page_step all (Unmaps x) =
      let none = none_begins _ _ _ x.cpu_is (λ move hypervisor call. cc) in
      page_put x.lpid x.gfn _ (field_after plan past e (λ (g : GuestPart). g.pages) _ _ x.parts)
      (λ p q is. Unmapped none (is ∙ ap unmapped (old_page x.lpid x.gfn p q)))
      (λ elsewhere. none)
  page_step all (Selected x) =
      page_kept (none_begins _ _ _ x.cpu_is (λ move hypervisor call. cc)) (kept_field plan past e (λ (g : GuestPart). g.pages) x.parts)

-- at the start no page-out has begun
start_counted : IsCounted invalid_page 0 None
start_counted = record { version = refl; sealed = λ out. cc; pending = λ n moves. refl }

-- by induction over the history
counted : (plan : Plan) (past : List Event) (lpid gfn : ℕ) → IsLegal plan past → IsCounted (pages plan past lpid gfn) (count_by (begins_out plan lpid gfn) past) (last_begun plan lpid gfn past)
counted plan [] lpid gfn legal = start_counted
counted plan (e ∷ past) lpid gfn legal =
    let begins : Bool = begins_out plan lpid gfn e in
    let last : Option (List ℕ) = last_begun plan lpid gfn (e ∷ past) in
    subst (λ (count : ℕ). IsCounted (pages plan (e ∷ past) lpid gfn) count last)
    (sym (sum_by-cons (λ (x : Event). cond (begins_out plan lpid gfn x) 1 0) e past ∙ counted_on_is begins (count_by (begins_out plan lpid gfn) past)))
    (counted_after _ _ begins e.bytes _ _ _ (page_step plan past e legal.0 lpid gfn (all_moved plan past legal.1) (change plan past e legal.0)) (counted plan past lpid gfn legal.1))

-- what was last sealed is the newest begin's
pub last_sealed_is_begun : LastSealedIsBegun
last_sealed_is_begun plan past lpid gfn legal out = let is = counted plan past lpid gfn legal in is.sealed out

-- and the version the number of begins
pub version_counts : (plan : Plan) (past : List Event) (lpid gfn : ℕ) → IsLegal plan past → (pages plan past lpid gfn).version ≡ count_by (begins_out plan lpid gfn) past
version_counts plan past lpid gfn legal = let is = counted plan past lpid gfn legal in is.version

pub legal_before : (plan : Plan) (past since : List Event) → IsLegal plan (since ++ past) → IsLegal plan past
legal_before plan past [] legal = legal
legal_before plan past (e ∷ since) legal = legal_before plan past since legal.1

pub versions_count_page_outs : VersionsCountPageOuts
versions_count_page_outs plan past since lpid gfn legal same =
    let old = version_counts plan past lpid gfn (legal_before plan past since legal) in
    let new = version_counts plan (since ++ past) lpid gfn legal in
    let both = sum_by-append (λ (e : Event). cond (begins_out plan lpid gfn e) 1 0) since past in
    omega (arith, old, new, both)
