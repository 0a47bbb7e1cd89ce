-- Pages on the move and the calls that move them, as steps change them.
use Rattle.std.proofs.Common.{◌≡◌, ◌≢◌, ℕ, List, true, false, refl, ap, sym, subst, ◌∙◌, inl, inr, Option, Some, None}
use Rattle.std.proofs.lemmas.Bool.{cases_eq}
use Rattle.pef_model.specs.declared.state.Way.{Way}
use Rattle.pef_model.specs.declared.state.Way.TheVariants as way
use Rattle.pef_model.specs.declared.state.Mover.{Mover}
use Rattle.pef_model.specs.declared.state.Kind.{Kind}
use Rattle.pef_model.specs.declared.state.Kind.TheVariants as kind
use Rattle.pef_model.specs.declared.state.Ctx.{Ctx}
use Rattle.pef_model.specs.declared.state.Ctx.TheVariants as ctx
use Rattle.pef_model.specs.GuestPart.{Page, put, unmapped, unmapped_kind}
use Rattle.pef_model.specs.PageInval.{may_be_dropped}
use Rattle.pef_model.specs.MoveLaw.{KeepsWhatIsSealed}
use Rattle.pef_model.proofs.Works.{PageMove, work_of, with_copy, one_move, one_call, kind_on}
use Rattle.pef_model.proofs.Puts.{put-here, put-other, put_in, IsElsewhere, here_or_elsewhere, put_in-here, put_in-elsewhere}

-- what is pending of a page that moves outward is in its mover's hand
abbrev pub HasPending : Way → Option (List ℕ) → List ℕ → Type 0
HasPending way.Inward pending hand = Unit {0}
HasPending way.Outward pending hand = pending ≡ Some hand

-- a page that a CPU moves this way, with this in its hand
pub record IsMoving (way : Way) (page : Page) (hand : List ℕ) (n : ℕ) : Type 0 where
  pub kind_is : page.kind ≡ kind_on way
  pub mover : page.mover ≡ Some (record { cpu = n; way = way })
  pub pending : HasPending way page.pending hand

-- a CPU in this context has a call in progress that moves this page this way
pub record HasCall (c : Ctx) (way : Way) (lpid gfn generation : ℕ) : Type 0 where
  pub work : PageMove
  pub ctx_is : c ≡ ctx.Uv (work_of work)
  pub way_is : work.way ≡ way
  pub lpid_is : work.move.lpid ≡ lpid
  pub gfn_is : work.move.gfn ≡ gfn
  pub generation_is : work.move.generation ≡ generation

-- the page that a call in progress names
abbrev pub page_named : (ℕ → ℕ → Page) → PageMove → Page
page_named pages work = pages work.move.lpid work.move.gfn

-- by the contexts and hands of the CPUs, and the guests' pages and generations: the calls in progress and the pages on the move are each other's
pub record AreMoved (ctxs : ℕ → Ctx) (hands : ℕ → List ℕ) (pages : ℕ → ℕ → Page) (generations : ℕ → ℕ) : Type 0 where
  pub moves : (n : ℕ) (work : PageMove) → ctxs n ≡ ctx.Uv (work_of work) → work.move.generation ≡ generations work.move.lpid → IsMoving work.way (page_named pages work) (hands n) n
  pub moved : (lpid gfn : ℕ) (mover : Mover) → (pages lpid gfn).mover ≡ Some mover → HasCall (ctxs mover.cpu) mover.way lpid gfn (generations lpid)
  pub keeps : (lpid gfn : ℕ) → KeepsWhatIsSealed (pages lpid gfn)

-- a page without its normal frame is Out exactly where it was
pub unmapped_out : (k : Kind) → unmapped_kind k ≡ kind.Out → k ≡ kind.Out
unmapped_out kind.Invalid h = cc
unmapped_out kind.Secure h = cc
unmapped_out kind.Out h = refl
unmapped_out (kind.Shared frame fresh) h = cc

-- so it keeps what is sealed
keeps_unmapped : (page : Page) → KeepsWhatIsSealed page → KeepsWhatIsSealed (unmapped page)
keeps_unmapped page old =
    record { sealed = ((λ some. ap unmapped_kind (old.sealed.0 some)), (λ out. old.sealed.1 (unmapped_out page.kind out))); pending = old.pending }

-- and a page that moves isn't Invalid or Shared
moves_undropped : (way : Way) (k : Kind) → k ≡ kind_on way → may_be_dropped k ≡ true → ⊥
moves_undropped way.Inward k is drops = let none : false ≡ true = ap may_be_dropped (sym is) ∙ drops in cc
moves_undropped way.Outward k is drops = let none : false ≡ true = ap may_be_dropped (sym is) ∙ drops in cc

-- a context has one call in progress
one_work : (c : Ctx) (work other : PageMove) → c ≡ ctx.Uv (work_of work) → c ≡ ctx.Uv (work_of other) → work ≡ other
one_work c work other h k = one_move work other (one_call (work_of work) (work_of other) (sym h ∙ k))

-- a page that moves isn't at rest
page_moves : (way : Way) (page : Page) (hand : List ℕ) (n : ℕ) → IsMoving way page hand n → page.mover ≡ None → ⊥
page_moves way page hand n moving rests = let mover = moving.mover in cc

-- a page has one mover
one_mover : (left right : Way) (page : Page) (hand other : List ℕ) (n m : ℕ) → IsMoving left page hand n → IsMoving right page other m → n ≡ m
one_mover left right page hand other n m one two = ap cpu_of (sym one.mover ∙ two.mover) where
  cpu_of : Option Mover → ℕ
  cpu_of None = 0
  cpu_of (Some mover) = mover.cpu

-- what is copied moves the same page the same way
copy_moves : (pages : ℕ → ℕ → Page) (hand : List ℕ) (n : ℕ) (work : PageMove) → IsMoving work.way (page_named pages work) hand n → IsMoving (with_copy work).way (page_named pages (with_copy work)) hand n
copy_moves pages hand n work moving = moving

-- in the generation that is the guest's
copy_lives : (generations : ℕ → ℕ) (work : PageMove) → (with_copy work).move.generation ≡ generations (with_copy work).move.lpid → work.move.generation ≡ generations work.move.lpid
copy_lives generations work life = life

-- and is the same call
copy_calls : (c : Ctx) (way : Way) (lpid gfn generation : ℕ) (work : PageMove) → c ≡ ctx.Uv (work_of (with_copy work)) → work.way ≡ way → work.move.lpid ≡ lpid → work.move.gfn ≡ gfn →
    work.move.generation ≡ generation → HasCall c way lpid gfn generation
copy_calls c way lpid gfn generation work is one two three four = record { work = with_copy work; ctx_is = is; way_is = one; lpid_is = two; gfn_is = three; generation_is = four }

-- a hand that changes only where a page moves inward has what is pending
pending_held : (w : Way) (pending : Option (List ℕ)) (hand old : List ℕ) → (w ≡ way.Outward → hand ≡ old) → HasPending w pending old → HasPending w pending hand
pending_held way.Inward pending hand old same held = tt
pending_held way.Outward pending hand old same held = held ∙ ap Some (sym (same refl))

module _ (ctxs : ℕ → Ctx) (hands : ℕ → List ℕ) (pages : ℕ → ℕ → Page) (generations : ℕ → ℕ) (m : ℕ) (h : AreMoved ctxs hands pages generations) where
  -- a CPU without a call in progress goes into a context that is none either
  pub moved_on : (after : Ctx) → ((work : PageMove) → ctxs m ≡ ctx.Uv (work_of work) → ⊥) → ((work : PageMove) → after ≡ ctx.Uv (work_of work) → ⊥) → AreMoved (put ctxs m after) hands pages generations
  moved_on after before_none after_none = record {
    moves = λ n work is same. elim (cases_eq n m) [
      | inl here ↦ absurd (after_none work (sym (put-here ctxs m after) ∙ ap (put ctxs m after) (sym here) ∙ is))
      | inr other ↦ h.moves n work (sym (put-other ctxs m after n other) ∙ is) same
    ];
    moved = λ lpid gfn mover is.
        let call = h.moved lpid gfn mover is in
        let other : mover.cpu ≢ m = (λ same. before_none call.work (ap ctxs (sym same) ∙ call.ctx_is)) in
        subst (λ (c : Ctx). HasCall c mover.way lpid gfn (generations lpid)) (sym (put-other ctxs m after mover.cpu other)) call;
    keeps = h.keeps;
  }

  -- the copy of a page leaves all as it is but the hand of a CPU that moves one inward
  pub moved_copied : (work : PageMove) (hand : List ℕ) → ctxs m ≡ ctx.Uv (work_of work) → (work.way ≡ way.Outward → hand ≡ hands m) →
      AreMoved (put ctxs m (ctx.Uv (work_of (with_copy work)))) (put hands m hand) pages generations
  moved_copied work hand before held = record {
    moves = λ n other is same. elim (cases_eq n m) [
      | inl here ↦
          let one = one_work (put ctxs m after m) (with_copy work) other (put-here ctxs m after) (ap (put ctxs m after) (sym here) ∙ is) in
          subst (λ (x : ℕ). IsMoving other.way (page_named pages other) (put hands m hand x) x) (sym here)
          (subst (λ (x : List ℕ). IsMoving other.way (page_named pages other) x m) (sym (put-here hands m hand))
          (subst (λ (x : PageMove). IsMoving x.way (page_named pages x) hand m) one
          (copy_moves pages hand m work
          (hold (h.moves m work before (copy_lives generations work
          (ap (λ (x : PageMove). x.move.generation) one ∙ same ∙ ap (λ (x : PageMove). generations x.move.lpid) (sym one))))))))
      | inr elsewhere ↦
          subst (λ (x : List ℕ). IsMoving other.way (page_named pages other) x n) (sym (put-other hands m hand n elsewhere))
          (h.moves n other (sym (put-other ctxs m after n elsewhere) ∙ is) same)
    ];
    moved = λ lpid gfn mover is.
        let call = h.moved lpid gfn mover is in
        elim (cases_eq mover.cpu m) [
          | inl here ↦
              let one = one_work (ctxs m) work call.work before (ap ctxs (sym here) ∙ call.ctx_is) in
              copy_calls _ mover.way lpid gfn (generations lpid) work (ap (put ctxs m after) here ∙ put-here ctxs m after) (ap (λ (x : PageMove). x.way) one ∙ call.way_is)
              (ap (λ (x : PageMove). x.move.lpid) one ∙ call.lpid_is) (ap (λ (x : PageMove). x.move.gfn) one ∙ call.gfn_is) (ap (λ (x : PageMove). x.move.generation) one ∙ call.generation_is)
          | inr other ↦ subst (λ (c : Ctx). HasCall c mover.way lpid gfn (generations lpid)) (sym (put-other ctxs m after mover.cpu other)) call
        ];
    keeps = h.keeps;
  } where
    after : Ctx
    after = ctx.Uv (work_of (with_copy work))

    hold : IsMoving work.way (page_named pages work) (hands m) m → IsMoving work.way (page_named pages work) hand m
    hold moving = record { kind_is = moving.kind_is; mover = moving.mover; pending = pending_held work.way (page_named pages work).pending hand (hands m) held moving.pending }

  -- a call of a guest that has ended moves no page
  pub moved_dropped : (work : PageMove) → ctxs m ≡ ctx.Uv (work_of work) → work.move.generation ≢ generations work.move.lpid → AreMoved (put ctxs m ctx.Hv) hands pages generations
  moved_dropped work before ended = record {
    moves = λ n other is same. elim (cases_eq n m) [
      | inl here ↦ let none : ctx.Hv ≡ ctx.Uv (work_of other) = sym (put-here ctxs m ctx.Hv) ∙ ap (put ctxs m ctx.Hv) (sym here) ∙ is in cc
      | inr elsewhere ↦ h.moves n other (sym (put-other ctxs m ctx.Hv n elsewhere) ∙ is) same
    ];
    moved = λ lpid gfn mover is.
        let call = h.moved lpid gfn mover is in
        let other : mover.cpu ≢ m = (λ same.
        let one = one_work (ctxs m) work call.work before (ap ctxs (sym same) ∙ call.ctx_is) in
        ended (ap (λ (x : PageMove). x.move.generation) one ∙ call.generation_is ∙ ap generations (sym call.lpid_is) ∙ ap (λ (x : PageMove). generations x.move.lpid) (sym one))) in
        subst (λ (c : Ctx). HasCall c mover.way lpid gfn (generations lpid)) (sym (put-other ctxs m ctx.Hv mover.cpu other)) call;
    keeps = h.keeps;
  }

  -- each page keeps what is sealed where the new one does
  kept : (l g : ℕ) (new : Page) (lpid gfn : ℕ) → KeepsWhatIsSealed new → KeepsWhatIsSealed (put_in pages l g new lpid gfn)
  kept l g new lpid gfn keeps = elim (here_or_elsewhere l g lpid gfn) [
    | inl (p, q) ↦ subst KeepsWhatIsSealed (sym (ap (λ (x : ℕ). put_in pages l g new x gfn) p ∙ ap (put_in pages l g new l) q ∙ put_in-here pages l g new)) keeps
    | inr elsewhere ↦ subst KeepsWhatIsSealed (sym (put_in-elsewhere pages l g new lpid gfn elsewhere)) (h.keeps lpid gfn)
  ]

  -- the mover of a page that is put is the new page's
  mover_put : (l g : ℕ) (new : Page) (lpid gfn : ℕ) (mover : Mover) → lpid ≡ l → gfn ≡ g → (put_in pages l g new lpid gfn).mover ≡ Some mover → new.mover ≡ Some mover
  mover_put l g new lpid gfn mover p q is =
      ap (λ (x : Page). x.mover) (sym (put_in-here pages l g new) ∙ ap (λ (x : ℕ). put_in pages l g new x g) (sym p) ∙ ap (put_in pages l g new lpid) (sym q)) ∙ is

  -- and every other page has its own
  mover_else : (l g : ℕ) (new : Page) (lpid gfn : ℕ) (mover : Mover) → IsElsewhere l g lpid gfn → (put_in pages l g new lpid gfn).mover ≡ Some mover → (pages lpid gfn).mover ≡ Some mover
  mover_else l g new lpid gfn mover elsewhere is = ap (λ (x : Page). x.mover) (sym (put_in-elsewhere pages l g new lpid gfn elsewhere)) ∙ is

  -- a page that moves is none that is at rest
  apart_of_rest : (l g : ℕ) (n : ℕ) (work : PageMove) → (pages l g).mover ≡ None → IsMoving work.way (page_named pages work) (hands n) n → IsElsewhere l g work.move.lpid work.move.gfn
  apart_of_rest l g n work rests moving p q =
      page_moves work.way (page_named pages work) (hands n) n moving (ap (λ (x : ℕ). (pages x work.move.gfn).mover) p ∙ ap (λ (x : ℕ). (pages l x).mover) q ∙ rests)

  -- a page at rest becomes another at rest
  pub moved_backed : (l g : ℕ) (new : Page) → (pages l g).mover ≡ None → new.mover ≡ None → KeepsWhatIsSealed new → AreMoved ctxs hands (put_in pages l g new) generations
  moved_backed l g new rests still keeps = record {
    moves = λ n work is same.
        let moving = h.moves n work is same in
        subst (λ (page : Page). IsMoving work.way page (hands n) n) (sym (put_in-elsewhere pages l g new work.move.lpid work.move.gfn (apart_of_rest l g n work rests moving))) moving;
    moved = λ lpid gfn mover is. elim (here_or_elsewhere l g lpid gfn) [
      | inl (p, q) ↦ let none : None ≡ Some mover = sym still ∙ mover_put l g new lpid gfn mover p q is in cc
      | inr elsewhere ↦ h.moved lpid gfn mover (mover_else l g new lpid gfn mover elsewhere is)
    ];
    keeps = λ lpid gfn. kept l g new lpid gfn keeps;
  }

  -- a page that is Invalid or Shared loses its normal frame
  pub moved_unmapped : (l g : ℕ) → may_be_dropped (pages l g).kind ≡ true → AreMoved ctxs hands (put_in pages l g (unmapped (pages l g))) generations
  moved_unmapped l g drops = record {
    moves = λ n work is same.
        let moving = h.moves n work is same in
        let apart : IsElsewhere l g work.move.lpid work.move.gfn = (λ p q.
        moves_undropped work.way (page_named pages work).kind moving.kind_is
        (ap (λ (x : ℕ). may_be_dropped (pages x work.move.gfn).kind) p ∙ ap (λ (x : ℕ). may_be_dropped (pages l x).kind) q ∙ drops)) in
        subst (λ (page : Page). IsMoving work.way page (hands n) n) (sym (put_in-elsewhere pages l g (unmapped (pages l g)) work.move.lpid work.move.gfn apart)) moving;
    moved = λ lpid gfn mover is. elim (here_or_elsewhere l g lpid gfn) [
      | inl (p, q) ↦ h.moved lpid gfn mover
          (ap (λ (x : ℕ). (pages x gfn).mover) p ∙ ap (λ (x : ℕ). (pages l x).mover) q ∙ mover_put l g (unmapped (pages l g)) lpid gfn mover p q is)
      | inr elsewhere ↦ h.moved lpid gfn mover (mover_else l g (unmapped (pages l g)) lpid gfn mover elsewhere is)
    ];
    keeps = λ lpid gfn. kept l g (unmapped (pages l g)) lpid gfn (keeps_unmapped (pages l g) (h.keeps l g));
  }

  -- a page at rest begins to move
  pub moved_begun : (work : PageMove) (hand : List ℕ) (new : Page) → ctxs m ≡ ctx.Hv → work.move.generation ≡ generations work.move.lpid → (page_named pages work).mover ≡ None →
      IsMoving work.way new hand m → KeepsWhatIsSealed new → AreMoved (put ctxs m (ctx.Uv (work_of work))) (put hands m hand) (put_in pages work.move.lpid work.move.gfn new) generations
  moved_begun work hand new before life rests moves keeps = record {
    moves = λ n other is same. elim (cases_eq n m) [
      | inl here ↦
          let one = one_work (put ctxs m after m) work other (put-here ctxs m after) (ap (put ctxs m after) (sym here) ∙ is) in
          subst (λ (x : ℕ). IsMoving other.way (page_named (put_in pages l g new) other) (put hands m hand x) x) (sym here)
          (subst (λ (x : List ℕ). IsMoving other.way (page_named (put_in pages l g new) other) x m) (sym (put-here hands m hand))
          (subst (λ (x : PageMove). IsMoving x.way (page_named (put_in pages l g new) x) hand m) one
          (subst (λ (page : Page). IsMoving work.way page hand m) (sym (put_in-here pages l g new)) moves)))
      | inr elsewhere ↦
          let moving = h.moves n other (sym (put-other ctxs m after n elsewhere) ∙ is) same in
          subst (λ (page : Page). IsMoving other.way page (put hands m hand n) n) (sym (put_in-elsewhere pages l g new other.move.lpid other.move.gfn (apart_of_rest l g n other rests moving)))
          (subst (λ (x : List ℕ). IsMoving other.way (page_named pages other) x n) (sym (put-other hands m hand n elsewhere)) moving)
    ];
    moved = λ lpid gfn mover is. elim (here_or_elsewhere l g lpid gfn) [
      | inl (p, q) ↦
          let one : Some (record { cpu = m; way = work.way }) ≡ Some mover = sym moves.mover ∙ mover_put l g new lpid gfn mover p q is in
          let cpu : mover.cpu ≡ m = cc in
          let way_is : work.way ≡ mover.way = cc in
          record {
            work = work;
            ctx_is = ap (put ctxs m after) cpu ∙ put-here ctxs m after;
            way_is = way_is;
            lpid_is = sym p;
            gfn_is = sym q;
            generation_is = life ∙ ap generations (sym p);
          }
      | inr elsewhere ↦
          let call = h.moved lpid gfn mover (mover_else l g new lpid gfn mover elsewhere is) in
          let other : mover.cpu ≢ m = (λ same. let none : ctx.Hv ≡ ctx.Uv (work_of call.work) = sym before ∙ ap ctxs (sym same) ∙ call.ctx_is in cc) in
          subst (λ (c : Ctx). HasCall c mover.way lpid gfn (generations lpid)) (sym (put-other ctxs m after mover.cpu other)) call
    ];
    keeps = λ lpid gfn. kept l g new lpid gfn keeps;
  } where
    l : ℕ
    l = work.move.lpid

    g : ℕ
    g = work.move.gfn

    after : Ctx
    after = ctx.Uv (work_of work)

  -- a page has moved, and is at rest
  pub moved_ended : (work : PageMove) (new : Page) → ctxs m ≡ ctx.Uv (work_of work) → work.move.generation ≡ generations work.move.lpid → new.mover ≡ None → KeepsWhatIsSealed new →
      AreMoved (put ctxs m ctx.Hv) hands (put_in pages work.move.lpid work.move.gfn new) generations
  moved_ended work new before life still keeps = record {
    moves = λ n other is same. elim (cases_eq n m) [
      | inl here ↦ let none : ctx.Hv ≡ ctx.Uv (work_of other) = sym (put-here ctxs m ctx.Hv) ∙ ap (put ctxs m ctx.Hv) (sym here) ∙ is in cc
      | inr elsewhere ↦
          let moving = h.moves n other (sym (put-other ctxs m ctx.Hv n elsewhere) ∙ is) same in
          let apart : IsElsewhere l g other.move.lpid other.move.gfn = (λ p q.
          elsewhere (one_mover other.way work.way (pages l g) (hands n) (hands m) n m
          (subst (λ (x : ℕ). IsMoving other.way (pages l x) (hands n) n) q (subst (λ (x : ℕ). IsMoving other.way (pages x other.move.gfn) (hands n) n) p moving))
          (h.moves m work before life))) in
          subst (λ (page : Page). IsMoving other.way page (hands n) n) (sym (put_in-elsewhere pages l g new other.move.lpid other.move.gfn apart)) moving
    ];
    moved = λ lpid gfn mover is. elim (here_or_elsewhere l g lpid gfn) [
      | inl (p, q) ↦ let none : None ≡ Some mover = sym still ∙ mover_put l g new lpid gfn mover p q is in cc
      | inr elsewhere ↦
          let call = h.moved lpid gfn mover (mover_else l g new lpid gfn mover elsewhere is) in
          let other : mover.cpu ≢ m = (λ same.
          let one = one_work (ctxs m) work call.work before (ap ctxs (sym same) ∙ call.ctx_is) in
          elsewhere (sym call.lpid_is ∙ ap (λ (x : PageMove). x.move.lpid) (sym one)) (sym call.gfn_is ∙ ap (λ (x : PageMove). x.move.gfn) (sym one))) in
          subst (λ (c : Ctx). HasCall c mover.way lpid gfn (generations lpid)) (sym (put-other ctxs m ctx.Hv mover.cpu other)) call
    ];
    keeps = λ lpid gfn. kept l g new lpid gfn keeps;
  } where
    l : ℕ
    l = work.move.lpid

    g : ℕ
    g = work.move.gfn

  -- a guest of which no page moves has another generation, in which no call in progress names a page of it
  pub moved_renewed : (l generation : ℕ) → ((gfn : ℕ) → (pages l gfn).mover ≡ None) → ((n : ℕ) (work : PageMove) → ctxs n ≡ ctx.Uv (work_of work) → work.move.lpid ≡ l → work.move.generation ≡ generation → ⊥) →
      AreMoved ctxs hands pages (put generations l generation)
  moved_renewed l generation rest none = record {
    moves = λ n work is same. elim (cases_eq work.move.lpid l) [
      | inl here ↦ absurd (none n work is here (same ∙ ap (put generations l generation) here ∙ put-here generations l generation))
      | inr other ↦ h.moves n work is (same ∙ put-other generations l generation work.move.lpid other)
    ];
    moved = λ lpid gfn mover is. elim (cases_eq lpid l) [
      | inl here ↦ let rests : None ≡ Some mover = sym (ap (λ (x : ℕ). (pages x gfn).mover) here ∙ rest gfn) ∙ is in cc
      | inr other ↦ subst (HasCall (ctxs mover.cpu) mover.way lpid gfn) (sym (put-other generations l generation lpid other)) (h.moved lpid gfn mover is)
    ];
    keeps = h.keeps;
  }
