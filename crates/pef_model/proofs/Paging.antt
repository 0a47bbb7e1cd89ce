-- In a legal history the calls in progress and the pages on the move are each other's.
use Rattle.std.proofs.Common.{◌≡◌, ◌∙◌, ℕ, ◌+◌, ◌≤◌, List, [], ◌∷◌, true, false, refl, ap, sym, subst, None, is_some, arith}
use Rattle.std.specs.Prelude.{option_map}
use Rattle.pef_model.specs.declared.state.Phase.{Phase}
use Rattle.pef_model.specs.declared.state.Phase.TheVariants as phase
use Rattle.pef_model.specs.declared.state.Way.{Way}
use Rattle.pef_model.specs.declared.state.Way.TheVariants as way
use Rattle.pef_model.specs.declared.state.Mover.{Mover}
use Rattle.pef_model.specs.declared.state.Work.TheVariants.{Inward}
use Rattle.pef_model.specs.declared.state.Ctx.{Ctx}
use Rattle.pef_model.specs.declared.state.Ctx.TheVariants as ctx
use Rattle.pef_model.specs.declared.state.Move.{Move}
use Rattle.pef_model.specs.declared.state.Kind.{Kind}
use Rattle.pef_model.specs.declared.state.Kind.TheVariants.{Invalid, Secure, Out, Shared}
use Rattle.pef_model.specs.Plan.{Plan}
use Rattle.pef_model.specs.Event.{Event}
use Rattle.pef_model.specs.GuestPart.{Page, GuestPart, put, is_invalid, secured, begun_out, ended_out, begun_in, refused_in}
use Rattle.pef_model.specs.Entry.{may_write_in}
use Rattle.pef_model.specs.PageIn.{may_page_in_in}
use Rattle.pef_model.specs.History.{cpu_after, IsLegal, part_after}
use Rattle.pef_model.specs.MoveLaw.{KeepsWhatIsSealed, EachCpuMovesItsPage, EachCpuMovesItsPageIn, EachMoverHasItsCall, EachPageKeepsWhatIsSealed}
use Rattle.pef_model.specs.CountLaw.{EachNormalGuestIsPlain}
use Rattle.pef_model.specs.Target.{work_by}
use Rattle.pef_model.proofs.Fields.{ctxs, hands, ctxs_after, hands_after, same_ctxs, same_hands, field_after, same_field, kept_field, entry_field, holds_same, holds_one}
use Rattle.pef_model.proofs.Changes.{Change, Quiet, Begins, Copies, Ends, Drops, Comes, Reads, Accepts, Refuses, Takes, Parked, Gone, Backs, Writes, Slots, Unmaps, Selected, KeepsParts, PutsPart, may_run_in, is_backed_in, entry_gives}
use Rattle.pef_model.proofs.ChangeOf.{change}
use Rattle.pef_model.proofs.Works.{PageMove, inward, outward, work_of, moves_none}
use Rattle.pef_model.proofs.Moving.{AreMoved, IsMoving, moved_on, moved_copied, moved_dropped, moved_backed, moved_unmapped, moved_begun, moved_ended, moved_renewed}
use Rattle.pef_model.proofs.Puts.{put-same}
use Rattle.pef_model.proofs.Reached.{all_reached}
use Rattle.pef_model.proofs.Running.{all_run, runs_in}

-- the pages of the guests
abbrev pub pages : Plan → List Event → ℕ → ℕ → Page
pages plan past lpid = (part_after plan past lpid).pages

-- the generations of the guests
abbrev pub generations : Plan → List Event → ℕ → ℕ
generations plan past lpid = (part_after plan past lpid).generation

-- what holds of contexts, hands, pages and generations holds of equal ones
carry : {c d : ℕ → Ctx} {h k : ℕ → List ℕ} {p q : ℕ → ℕ → Page} {g f : ℕ → ℕ} → c ≡ d → h ≡ k → p ≡ q → g ≡ f → AreMoved c h p g → AreMoved d k q f
carry {c = c} {d = d} {h = h} {k = k} {p = p} {q = q} {g = g} {f = f} one two three four are =
    subst (λ (x : ℕ → Ctx). AreMoved x k q f) one (subst (λ (x : ℕ → List ℕ). AreMoved c x q f) two
    (subst (λ (x : ℕ → ℕ → Page). AreMoved c h x f) three (subst (λ (x : ℕ → ℕ). AreMoved c h p x) four are)))

-- the calls in progress after a history and the pages on the move are each other's
abbrev pub AllMoved : Plan → List Event → Type 0
AllMoved plan past = AreMoved (ctxs plan past) (hands plan past) (pages plan past) (generations plan past)

-- the hypervisor's context has no call in progress
hv_is_no_call : (c : Ctx) → c ≡ ctx.Hv → (work : PageMove) → c ≡ ctx.Uv (work_of work) → ⊥
hv_is_no_call c h work is = cc

-- a page without sealed and pending bytes keeps what is sealed where it is Secure at rest
keeps_secured : (page : Page) → KeepsWhatIsSealed (secured page)
keeps_secured page = record { sealed = ((λ k. cc), (λ k. cc)); pending = ((λ k. cc), (λ k. cc)) }

-- one that begins to move outward has what is pending
keeps_begun_out : (page : Page) (n : ℕ) (bytes : List ℕ) → KeepsWhatIsSealed page → KeepsWhatIsSealed (begun_out page n bytes)
keeps_begun_out page n bytes old = record { sealed = old.sealed; pending = ((λ k. refl), (λ k. refl)) }

-- and it is what is sealed once it has moved
keeps_ended_out : (page : Page) (n : ℕ) (hand : List ℕ) → IsMoving way.Outward page hand n → KeepsWhatIsSealed (ended_out page)
keeps_ended_out page n hand moving = record { sealed = ((λ k. refl), (λ k. ap is_some moving.pending)); pending = ((λ k. cc), (λ k. cc)) }

-- nothing is pending of a page that moves inward
keeps_begun_in : (page : Page) (n : ℕ) → page.mover ≡ None → KeepsWhatIsSealed page → KeepsWhatIsSealed (begun_in page n)
keeps_begun_in page n rests old =
    record { sealed = old.sealed; pending = ((λ k. let none = old.pending.0 k in let rest = ap (option_map (λ (x : Mover). x.way)) rests in cc), (λ k. cc)) }

-- a page that is refused
keeps_refused : (page : Page) (n : ℕ) (hand : List ℕ) → IsMoving way.Inward page hand n → KeepsWhatIsSealed page → KeepsWhatIsSealed (refused_in page)
keeps_refused page n hand moving old =
    record { sealed = old.sealed; pending = ((λ k. let none = old.pending.0 k in let inward = ap (option_map (λ (x : Mover). x.way)) moving.mover in cc), (λ k. cc)) }

-- a guest that isn't to be secure, nor was, has Invalid pages at rest alone
abbrev IsPlain : GuestPart → Type 0
IsPlain g = may_write_in g.phase ≡ true → (gfn : ℕ) → (is_invalid (g.pages gfn) ≡ true) × ((g.pages gfn).mover ≡ None)

-- each guest is such
abbrev pub AllPlain : Plan → List Event → Type 0
AllPlain plan past = (lpid : ℕ) → IsPlain (part_after plan past lpid)

-- a guest of which a page may go out or come in isn't such
secure_not_plain : (p : Phase) → p ≡ phase.Secure → may_write_in p ≡ true → ⊥
secure_not_plain p secure plain = let none : false ≡ true = ap may_write_in (sym secure) ∙ plain in cc

in_not_plain : (p : Phase) → may_page_in_in p ≡ true → may_write_in p ≡ true → ⊥
in_not_plain phase.Absent may plain = cc
in_not_plain phase.Normal may plain = cc
in_not_plain phase.Starting may plain = cc
in_not_plain phase.Secure may plain = cc
in_not_plain phase.Aborting may plain = cc

-- nor is one that runs and backs a page
backed_not_plain : (p : Phase) → may_run_in p ≡ true → is_backed_in p ≡ true → may_write_in p ≡ true → ⊥
backed_not_plain phase.Absent runs backed plain = cc
backed_not_plain phase.Normal runs backed plain = cc
backed_not_plain phase.Starting runs backed plain = cc
backed_not_plain phase.Secure runs backed plain = cc
backed_not_plain phase.Aborting runs backed plain = cc

module _ (plan : Plan) (past : List Event) (e : Event) (legal : IsLegal plan past) (all : AllMoved plan past) (plain : AllPlain plan past) where
  -- where no part changes
  no_parts : {c : ℕ → Ctx} {h : ℕ → List ℕ} → c ≡ ctxs plan (e ∷ past) → h ≡ hands plan (e ∷ past) → KeepsParts plan past e → AreMoved c h (pages plan past) (generations plan past) → AllMoved plan (e ∷ past)
  no_parts one two parts = carry one two (kept_field plan past e (λ (g : GuestPart). g.pages) parts) (kept_field plan past e (λ (g : GuestPart). g.generation) parts)

  -- where one part changes, and no page
  no_pages : {c : ℕ → Ctx} {h : ℕ → List ℕ} (l : ℕ) (new : GuestPart) → c ≡ ctxs plan (e ∷ past) → h ≡ hands plan (e ∷ past) → PutsPart plan past e l new → new.pages ≡ pages plan past l →
      new.generation ≡ generations plan past l → AreMoved c h (pages plan past) (generations plan past) → AllMoved plan (e ∷ past)
  no_pages l new one two parts three four = carry one two (same_field plan past e (λ (g : GuestPart). g.pages) l new parts three) (same_field plan past e (λ (g : GuestPart). g.generation) l new parts four)

  -- where one page changes
  one_page : {c : ℕ → Ctx} {h : ℕ → List ℕ} (l : ℕ) (new : GuestPart) → c ≡ ctxs plan (e ∷ past) → h ≡ hands plan (e ∷ past) → PutsPart plan past e l new →
      new.generation ≡ generations plan past l → AreMoved c h (put (pages plan past) l new.pages) (generations plan past) → AllMoved plan (e ∷ past)
  one_page l new one two parts four = carry one two (field_after plan past e (λ (g : GuestPart). g.pages) l new parts) (same_field plan past e (λ (g : GuestPart). g.generation) l new parts four)

  abbrev m : ℕ
  m = e.trace.cpu

  -- each change keeps it so
  moved_by : Change plan past (cpu_after plan m past) e → AllMoved plan (e ∷ past)
  moved_by (Quiet x) = no_parts (same_ctxs plan past e _ _ x.cpu_is) (same_hands plan past e _ _ x.cpu_is) x.parts all
  moved_by (Begins x) =
      one_page _ _ (ctxs_after plan past e _ _ _ x.cpu_is) (hands_after plan past e _ _ _ x.cpu_is) x.parts refl
      (moved_begun _ _ _ _ m all (outward x.move) e.bytes (begun_out (pages plan past x.move.lpid x.move.gfn) m e.bytes) x.before x.generation x.at_rest
      (record { kind_is = x.kind_is; mover = refl; pending = refl }) (keeps_begun_out _ m e.bytes (all.keeps x.move.lpid x.move.gfn)))
  moved_by (Copies x) = no_parts (ctxs_after plan past e _ _ _ x.cpu_is) (hands_after plan past e _ _ _ x.cpu_is) x.parts (moved_copied _ _ _ _ m all (outward x.move) _ x.before (λ out. refl))
  moved_by (Ends x) =
      one_page _ _ (ctxs_after plan past e _ _ _ x.cpu_is) (same_hands plan past e _ _ x.cpu_is) x.parts refl
      (moved_ended _ _ _ _ m all (outward x.move) (ended_out (pages plan past x.move.lpid x.move.gfn)) x.before x.generation refl
      (keeps_ended_out _ m _ (all.moves m (outward x.move) x.before x.generation)))
  moved_by (Drops x) = no_parts (ctxs_after plan past e _ _ _ x.cpu_is) (same_hands plan past e _ _ x.cpu_is) x.parts (moved_dropped _ _ _ _ m all x.work x.before x.generation)
  moved_by (Comes x) =
      one_page _ _ (ctxs_after plan past e _ _ _ x.cpu_is) (hands_after plan past e _ _ _ x.cpu_is) x.parts refl
      (moved_begun _ _ _ _ m all (inward x.move) _ (begun_in (pages plan past x.move.lpid x.move.gfn) m) x.before x.generation x.at_rest
      (record { kind_is = x.kind_is; mover = refl; pending = tt }) (keeps_begun_in _ m x.at_rest (all.keeps x.move.lpid x.move.gfn)))
  moved_by (Reads x) = no_parts (ctxs_after plan past e _ _ _ x.cpu_is) (hands_after plan past e _ _ _ x.cpu_is) x.parts (moved_copied _ _ _ _ m all (inward x.move) _ x.before (λ out. cc))
  moved_by (Accepts x) =
      one_page _ _ (ctxs_after plan past e _ _ _ x.cpu_is) (same_hands plan past e _ _ x.cpu_is) x.parts refl
      (moved_ended _ _ _ _ m all (inward x.move) (secured (pages plan past x.move.lpid x.move.gfn)) x.before x.generation refl (keeps_secured (pages plan past x.move.lpid x.move.gfn)))
  moved_by (Refuses x) =
      one_page _ _ (ctxs_after plan past e _ _ _ x.cpu_is) (same_hands plan past e _ _ x.cpu_is) x.parts refl
      (moved_ended _ _ _ _ m all (inward x.move) (refused_in (pages plan past x.move.lpid x.move.gfn)) x.before x.generation refl
      (keeps_refused _ m _ (all.moves m (inward x.move) x.before x.generation) (all.keeps x.move.lpid x.move.gfn)))
  moved_by (Takes x) =
      no_pages _ _ (ctxs_after plan past e _ _ _ x.cpu_is) (same_hands plan past e _ _ x.cpu_is) x.parts refl refl (moved_on _ _ _ _ m all _ (hv_is_no_call _ x.before) (moves_none x.after _ x.runs))
  moved_by (Parked x) =
      no_pages _ _ (ctxs_after plan past e _ _ _ x.cpu_is) (same_hands plan past e _ _ x.cpu_is) x.parts refl refl
      (moved_on _ _ _ _ m all ctx.Hv (λ work is. let before = x.before in cc) (hv_is_no_call ctx.Hv refl))
  moved_by (Gone x) =
      no_parts (ctxs_after plan past e _ _ _ x.cpu_is) (same_hands plan past e _ _ x.cpu_is) x.parts (moved_on _ _ _ _ m all ctx.Hv (λ work is. let before = x.before in cc) (hv_is_no_call ctx.Hv refl))
  moved_by (Backs x) =
      one_page _ _ (same_ctxs plan past e _ _ x.cpu_is) (same_hands plan past e _ _ x.cpu_is) x.parts refl
      (moved_backed _ _ _ _ m all x.run.lpid x.gfn (secured (pages plan past x.run.lpid x.gfn)) x.at_rest refl (keeps_secured (pages plan past x.run.lpid x.gfn)))
  moved_by (Slots x) = no_pages _ _ (same_ctxs plan past e _ _ x.cpu_is) (same_hands plan past e _ _ x.cpu_is) x.parts refl refl all
  moved_by (Writes x) =
      let g : GuestPart = part_after plan past x.lpid in
      let rest : (gfn : ℕ) → (pages plan past x.lpid gfn).mover ≡ None = (λ gfn. let page = plain x.lpid x.allowed gfn in page.1) in
      let reached : (n : ℕ) (work : PageMove) → ctxs plan past n ≡ ctx.Uv (work_of work) → work.move.lpid ≡ x.lpid → work.move.generation ≤ g.generation =
      (λ n work is here. subst (λ (l : ℕ). work.move.generation ≤ generations plan past l) here ((all_reached plan past legal n).moves work is)) in
      carry (same_ctxs plan past e _ _ x.cpu_is) (same_hands plan past e _ _ x.cpu_is) (entry_field plan past e (λ (p : GuestPart). p.pages) x.lpid x.base x.length_ x.parts refl refl)
      (field_after plan past e (λ (p : GuestPart). p.generation) _ _ x.parts)
      (entry_gives (λ (p : GuestPart). AreMoved (ctxs plan past) (hands plan past) (pages plan past) (put (generations plan past) x.lpid p.generation)) g x.base x.length_
      (carry refl refl refl (λ i n. sym (put-same (generations plan past) x.lpid n) i) all)
      (moved_renewed _ _ _ _ m all x.lpid (g.generation + 1) rest (λ n work is here now. let low = reached n work is here in omega arith)))
  moved_by (Unmaps x) = one_page _ _ (same_ctxs plan past e _ _ x.cpu_is) (same_hands plan past e _ _ x.cpu_is) x.parts refl (moved_unmapped _ _ _ _ m all x.lpid x.gfn x.drops)
  moved_by (Selected x) = no_parts (same_ctxs plan past e _ _ x.cpu_is) (same_hands plan past e _ _ x.cpu_is) x.parts all

  -- a page that moves in its guest's generation is none of a guest that isn't to be secure
  no_call : (work : PageMove) → (cpu_after plan m past).ctx ≡ ctx.Uv (work_of work) → work.move.generation ≡ generations plan past work.move.lpid → may_write_in (part_after plan past work.move.lpid).phase ≡ true → ⊥
  no_call work before lives may =
      let moving = all.moves m work before lives in
      let page = plain work.move.lpid may work.move.gfn in
      let none = sym moving.mover ∙ page.1 in cc

  -- so each guest that isn't stays so
  plain_by : Change plan past (cpu_after plan m past) e → AllPlain plan (e ∷ past)
  plain_by (Quiet x) = holds_same plan past e IsPlain x.parts plain
  plain_by (Begins x) = holds_one plan past e IsPlain _ _ x.parts (λ may. absurd (secure_not_plain _ x.secure may)) plain
  plain_by (Copies x) = holds_same plan past e IsPlain x.parts plain
  plain_by (Ends x) = holds_one plan past e IsPlain _ _ x.parts (λ may. absurd (no_call (outward x.move) x.before x.generation may)) plain
  plain_by (Drops x) = holds_same plan past e IsPlain x.parts plain
  plain_by (Comes x) = holds_one plan past e IsPlain _ _ x.parts (λ may. absurd (in_not_plain _ x.allowed may)) plain
  plain_by (Reads x) = holds_same plan past e IsPlain x.parts plain
  plain_by (Accepts x) = holds_one plan past e IsPlain _ _ x.parts (λ may. absurd (no_call (inward x.move) x.before x.generation may)) plain
  plain_by (Refuses x) = holds_one plan past e IsPlain _ _ x.parts (λ may. absurd (no_call (inward x.move) x.before x.generation may)) plain
  plain_by (Takes x) = holds_one plan past e IsPlain _ _ x.parts (plain x.lpid) plain
  plain_by (Parked x) = holds_one plan past e IsPlain _ _ x.parts (plain x.run.lpid) plain
  plain_by (Gone x) = holds_same plan past e IsPlain x.parts plain
  plain_by (Backs x) = holds_one plan past e IsPlain _ _ x.parts (λ may. absurd (backed_not_plain _ (runs_in plan past (all_run plan past legal) m x.run x.before x.generation) x.backed may)) plain
  plain_by (Writes x) = holds_one plan past e IsPlain _ _ x.parts (entry_gives IsPlain (part_after plan past x.lpid) x.base x.length_ (λ may. plain x.lpid x.allowed) (λ may. plain x.lpid x.allowed)) plain
  plain_by (Slots x) = holds_one plan past e IsPlain _ _ x.parts (plain x.lpid) plain
  plain_by (Unmaps x) = holds_one plan past e IsPlain _ _ x.parts (λ may. absurd (in_not_plain _ x.allowed may)) plain
  plain_by (Selected x) = holds_same plan past e IsPlain x.parts plain

-- so it is after a legal history
all_kept : (plan : Plan) (past : List Event) → IsLegal plan past → AllMoved plan past × AllPlain plan past
all_kept plan [] legal = (
  record {
    moves = λ n work is same. cc;
    moved = λ lpid gfn mover is. cc;
    keeps = λ lpid gfn. record { sealed = ((λ k. cc), (λ k. cc)); pending = ((λ k. cc), (λ k. cc)) };
  },
  λ lpid may gfn. (refl, refl),
)
all_kept plan (e ∷ past) legal =
    let kept = all_kept plan past legal.1 in
    (moved_by plan past e legal.1 kept.0 kept.1 (change plan past e legal.0), plain_by plan past e legal.1 kept.0 kept.1 (change plan past e legal.0))

pub all_moved : (plan : Plan) (past : List Event) → IsLegal plan past → AllMoved plan past
all_moved plan past legal = let kept = all_kept plan past legal in kept.0

pub all_plain : (plan : Plan) (past : List Event) → IsLegal plan past → AllPlain plan past
all_plain plan past legal = let kept = all_kept plan past legal in kept.1

-- a page-out in progress moves the page that it names
pub each_cpu_moves_its_page : EachCpuMovesItsPage
each_cpu_moves_its_page plan past n move legal is same =
    let all = all_moved plan past legal in
    let moving = all.moves n (outward move) is same in
    record { kind = moving.kind_is; mover = moving.mover; pending = moving.pending }

-- a page that moves inward is Out
pub moving_in_is_out : (plan : Plan) (past : List Event) (n : ℕ) (move : Move) → IsLegal plan past → (cpu_after plan n past).ctx ≡ ctx.Uv (Inward move) → move.generation ≡ (part_after plan past move.lpid).generation →
    (pages plan past move.lpid move.gfn).kind ≡ Out
moving_in_is_out plan past n move legal is same =
    let all = all_moved plan past legal in
    let moving = all.moves n (inward move) is same in
    moving.kind_is

-- so a page-in in progress moves the page that it names
pub each_cpu_moves_its_page_in : EachCpuMovesItsPageIn
each_cpu_moves_its_page_in plan past n move legal is same =
    let all = all_moved plan past legal in
    let moving = all.moves n (inward move) is same in
    record { kind = λ secure. moving.kind_is; mover = moving.mover }

-- a page that moves is named by a call in progress
pub each_mover_has_its_call : EachMoverHasItsCall
each_mover_has_its_call plan past lpid gfn mover legal is =
    let all = all_moved plan past legal in
    let call = all.moved lpid gfn mover is in
    record {
      move = call.work.move;
      ctx_is = call.ctx_is ∙ ap (λ (w : Way). ctx.Uv (work_by w call.work.move)) call.way_is;
      lpid_is = call.lpid_is;
      gfn_is = call.gfn_is;
      generation = call.generation_is;
    }

-- a page has sealed bytes where it is Out, and pending ones where it moves outward
pub each_page_keeps_what_is_sealed : EachPageKeepsWhatIsSealed
each_page_keeps_what_is_sealed plan past lpid gfn legal = let all = all_moved plan past legal in all.keeps lpid gfn

-- an Invalid page has this kind
invalid_kind : (page : Page) → is_invalid page ≡ true → page.kind ≡ Invalid
invalid_kind page h = by_kind page.kind h where
  by_kind : (k : Kind) → is_invalid (record page { kind = k }) ≡ true → k ≡ Invalid
  by_kind Invalid h = refl
  by_kind Secure h = cc
  by_kind Out h = cc
  by_kind (Shared frame fresh) h = cc

pub each_normal_guest_is_plain : EachNormalGuestIsPlain
each_normal_guest_is_plain plan past lpid gfn legal may =
    let page = all_plain plan past legal lpid may gfn in
    record { kind = invalid_kind (pages plan past lpid gfn) page.0; mover = page.1 }
