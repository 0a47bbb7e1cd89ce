-- The row of UV_PAGE_INVAL: a page loses its normal frame, or the call comes back.
use Rattle.std.proofs.Common.{◌≡◌, ℕ, ◌+◌, ◌/◌, ◌^◌, ◌<◌, ◌==◌, ◌↔◌, Bool, true, List, length, count_by, Option, Some, None, IsSome, arith, refl, ap, sym, subst, ◌∙◌, inl}
use Rattle.pef_model.specs.declared.state.Phase.{Phase}
use Rattle.pef_model.specs.declared.state.Phase.TheVariants as phase
use Rattle.pef_model.specs.declared.state.Kind.{Kind}
use Rattle.pef_model.specs.declared.state.Kind.TheVariants as kind
use Rattle.pef_model.specs.declared.state.Way.TheVariants.{Outward}
use Rattle.pef_model.specs.declared.state.Tag.{Tag}
use Rattle.pef_model.specs.declared.state.Ctx.TheVariants as ctx
use Rattle.pef_model.specs.declared.command.Code.{Code}
use Rattle.pef_model.specs.declared.command.Code.TheVariants.{USuccess}
use Rattle.pef_model.specs.declared.command.Cmd.{Cmd}
use Rattle.pef_model.specs.declared.command.Cmd.TheVariants.{UInval}
use Rattle.pef_model.specs.declared.entry.Answer.TheVariants.{Ret}
use Rattle.pef_model.specs.Plan.{Plan}
use Rattle.pef_model.specs.Registers.{loaded, with_code}
use Rattle.pef_model.specs.GuestPart.{GuestPart, page_of, unmapped as unmapped_part, unmapped_kind, part_of_inval}
use Rattle.pef_model.specs.Guest.{Guest as GuestWhole}
use Rattle.pef_model.specs.PageIn.{may_page_in_in}
use Rattle.pef_model.specs.PageInval.{page_inval_code}
use Rattle.pef_model.specs.Deed.{answering}
use Rattle.pef_model.specs.History.{entry_of}
use Rattle.pef_frames.specs.Frame.{FrameState}
use Rattle.pef_frames.specs.Pool.{PoolState}
use Rattle.pef_pages.specs.declared.cell.Cell.{Cell}
use Rattle.pef_pages.specs.declared.cell.Cell.TheVariants as cell
use Rattle.pef_pages.specs.declared.page.Page.{Page}
use Rattle.pef_pages.specs.Cells.{kind_of, mover_of, way_of, frame_in, unmapped}
use Rattle.pef_pages.specs.Pages.{page_at, cell_at, frame_at, with_page, held}
use Rattle.pef_pages.specs.Laws.{count_in}
use Rattle.pef_pages.proofs.Frames.{frames-set}
use Rattle.pef_guest.specs.declared.cpu.Cpu.{Cpu}
use Rattle.pef_guest.specs.declared.guest.Guest.{Guest}
use Rattle.pef_guest.specs.Keeps.{times_held}
use Rattle.pef_guest.specs.Does.{MakesEntry, DoesRow}
use Rattle.pef_guest.specs.Ready.{WorksAt}
use Rattle.pef_guest.specs.Refused.{RefusesCpu, Refuses}
use Rattle.pef_guest.specs.Rows.{RowWithPool, ask_hypervisor}
use Rattle.pef_guest.specs.Shows.{Shows, kept_in, sealed_of}
use Rattle.pef_guest.specs.Whole.{IsOutside, IsWhole}
use Rattle.pef_guest.proofs.Asked.{frames_stay, makes_hypervisor, refused_call}
use Rattle.pef_guest.proofs.OnePage.{IsShownPage, shows_with, shows_counted}
use Rattle.pef_guest.proofs.Wholes.{stepped_with, keeps_with, movers_with, whole_with}
use Rattle.pef_move.specs.PageInval.{Unmaps}

-- a guest that is Starting or Secure has private pages
for_no_outside : (p : Phase) → may_page_in_in p ≡ true → IsOutside p → ⊥
for_no_outside phase.Absent may out = cc
for_no_outside phase.Normal may out = cc
for_no_outside phase.Starting may out = out
for_no_outside phase.Secure may out = out
for_no_outside phase.Aborting may out = out

-- what a page without its normal frame is: its kind changes as in the model
module _ {F : Type 0} where
  unmapped_kind_is : (c : Cell F) → kind_of (unmapped c) ≡ unmapped_kind (kind_of c)
  unmapped_kind_is (cell.Shared frame) = refl
  unmapped_kind_is (cell.Unbacked fresh) = refl
  unmapped_kind_is cell.Invalid = refl
  unmapped_kind_is (cell.Secure frame) = refl
  unmapped_kind_is (cell.Out digest) = refl
  unmapped_kind_is (cell.MovesOut frame cpu digest) = refl
  unmapped_kind_is (cell.MovesIn frame cpu None) = refl
  unmapped_kind_is (cell.MovesIn frame cpu (Some digest)) = refl

  -- its mover, its digest and its secure frame stay
  mover_stays : (c : Cell F) → mover_of (unmapped c) ≡ mover_of c
  mover_stays (cell.Shared frame) = refl
  mover_stays c = refl

  kept_stays : (c : Cell F) → kept_in (unmapped c) ≡ kept_in c
  kept_stays (cell.Shared frame) = refl
  kept_stays c = refl

  frame_stays : (c : Cell F) → frame_in (unmapped c) ≡ frame_in c
  frame_stays (cell.Shared frame) = refl
  frame_stays c = refl

-- a kind that is Secure or Invalid then was so before, and none has a normal frame
was_secure : (k : Kind) → unmapped_kind k ≡ kind.Secure → k ≡ kind.Secure
was_secure kind.Invalid is = cc
was_secure kind.Secure is = refl
was_secure kind.Out is = cc
was_secure (kind.Shared frame fresh) is = cc

was_invalid : (k : Kind) → unmapped_kind k ≡ kind.Invalid → k ≡ kind.Invalid
was_invalid kind.Invalid is = refl
was_invalid kind.Secure is = cc
was_invalid kind.Out is = cc
was_invalid (kind.Shared frame fresh) is = cc

unbacked : (k : Kind) (frame : ℕ) (fresh : Bool) → unmapped_kind k ≡ kind.Shared (Some frame) fresh → ⊥
unbacked kind.Invalid frame fresh is = cc
unbacked kind.Secure frame fresh is = cc
unbacked kind.Out frame fresh is = cc
unbacked (kind.Shared other mark) frame fresh is = cc

module _ {S : Type 0} (takes : S → ℕ → ℕ → Type 0) (stands : S → Tag → List ℕ → List ℕ → Type 0) (image : S → Tag → List ℕ → List ℕ) (old : Guest S) (cpu : Cpu) (pool : PoolState) (lpid gpa order : ℕ) (hv : cpu.ctx ≡ ctx.Hv) (whole : IsWhole takes old) where
  -- the command
  abbrev call : Cmd
  call = UInval lpid gpa order

  -- the guest that only counts a step, and the CPU with the call's registers and its code
  abbrev counted : Guest S
  counted = record old { steps = old.steps + 1 }

  abbrev answered : Code → Cpu
  answered code = record cpu { gpr = with_code (loaded cpu.gpr call) code; last = Ret code }

  -- the code is the model's
  abbrev HasCode : Code → Type 0
  HasCode code = (plan : Plan) (g : GuestWhole) → Shows stands image plan old g → code ≡ page_inval_code plan g.part gpa order

  -- the entry, where the guest is what the model makes of its own
  makes : (code : Code) (new : Guest S) → HasCode code →
      ((clean : Bool) (plan : Plan) (g : GuestWhole) → Shows stands image plan old g → Shows stands image plan new (record g { part = part_of_inval g.part code (page_of plan gpa); clean = clean })) →
      MakesEntry takes stands image call old new cpu (answered code) pool pool (Ret code)
  makes code new same shown =
      makes_hypervisor takes stands image call old new cpu (answered code) pool pool (Ret code) hv (λ plan g found c mark marked shows shows_cpu.
      subst (λ (x : Code). RowWithPool stands image plan g c (entry_of (ask_hypervisor c) mark call (answering (ask_hypervisor c) (Ret x))) new (answered code) (length pool.free) (length pool.free) (Ret code)) (same plan g shows) (record {
        row = record {
          answered = refl;
          guest = shown _ plan g shows;
          cpu_is = record {
            ctx = hv;
            own = ap (λ (own : List ℕ). with_code (loaded own call) code) shows_cpu.own;
            lpid = shows_cpu.lpid;
            vid = shows_cpu.vid;
            last = refl;
            hand = shows_cpu.hand;
          };
        };
        pool = refl;
      }))

  -- a call that is refused does its row
  refused : (code : Code) → ((p : GuestPart) (gfn : ℕ) → part_of_inval p code gfn ≡ p) → HasCode code → RefusesCpu cpu (answered code) code → DoesRow takes stands image call old counted cpu (answered code) pool pool (Ret code)
  refused code leaves same refuses = record {
    whole = record {
      shift = whole.shift;
      served = whole.served;
      frames = whole.frames;
      entry = whole.entry;
      lives = omega (arith, whole.lives);
      vcpus = whole.vcpus;
      shared = whole.shared;
      outside = whole.outside;
      rests = whole.rests;
      digests = whole.digests;
      versions = λ gfn. (let few = whole.versions gfn in omega arith);
    };
    keeps = record { lpid = refl; shift = refl; normal = refl; secure = refl; pages = refl; vcpus = refl; generation = omega arith; phase = λ stays. inl refl; steps = refl };
    life = λ still. record { phase = refl; generation = refl; entry = refl };
    movers = λ gfn mover stays other moves. moves;
    frames = frames_stay old counted pool (λ number. refl);
    own = record { number = refl; hand = refl; selects = inl (refl, refl) };
    works = subst (WorksAt counted (answered code)) (sym hv) tt;
    pool_stays = λ unused. refl;
    refused = refused_call call hv refuses
        (record { rest = record { lpid = refl; shift = refl; normal = refl; secure = refl; phase = refl; generation = refl; entry = refl; slots = refl; words = refl; pages = refl; sealer = refl }; vcpus = refl }, refl);
    row = makes code counted same (λ clean plan g shows.
        subst (λ (p : GuestPart). Shows stands image plan counted (record g { part = p; clean = clean })) (sym (leaves g.part (page_of plan gpa))) (shows_counted stands image plan old g (old.steps + 1) shows));
  }

  module _ (gfn : ℕ) (below : gfn < length old.pages.pages) (inside : IsOutside old.phase → ⊥) (gfn_is : gfn ≡ gpa / 2 ^ old.shift) where
    -- the page, and the guest with it
    abbrev page : Page FrameState
    page = record (page_at old.pages gfn) { cell = unmapped (cell_at old.pages gfn) }

    abbrev new : Guest S
    new = stepped_with old gfn page old.pages.order old.sealer

    abbrev before : Cell FrameState
    before = cell_at old.pages gfn

    -- it keeps its secure frame
    frames : (number : ℕ) → times_held new number ≡ times_held old number
    frames number =
        let test : FrameState → Bool = λ frame. frame.number == number in
        let set : count_by test (held (with_page old.pages gfn page)) + count_in test (frame_at old.pages gfn) ≡ count_by test (held old.pages) + count_in test (frame_in page.cell) = frames-set old.pages gfn page test below in
        let same : count_in test (frame_in page.cell) ≡ count_in test (frame_at old.pages gfn) = ap (count_in test) (frame_stays before) in
        omega (arith, set, same)

    -- the guest is whole
    whole_after : IsWhole takes new
    whole_after = whole_with old gfn page old.pages.order old.sealer below takes whole inside (λ n size same. same) (record {
      shared = λ frame fresh is. absurd (unbacked (kind_of before) frame fresh (sym (unmapped_kind_is before) ∙ is));
      frames = λ frame is. whole.frames gfn frame (sym (frame_stays before) ∙ is);
      rests = λ secure is. mover_stays before ∙ whole.rests secure gfn (was_invalid (kind_of before) (sym (unmapped_kind_is before) ∙ is));
      digests = λ outward. subst (λ (o : Option _). IsSome o ↔ (old.phase ≡ phase.Secure)) (sym (kept_stays before)) (whole.digests gfn (sym (ap way_of (mover_stays before)) ∙ outward));
      version = (let few = whole.versions gfn in omega arith);
    })

    -- and it shows the model's with the page that has lost its frame
    module _ (clean : Bool) (plan : Plan) (g : GuestWhole) (shows : Shows stands image plan old g) where
      there : gfn < plan.pages
      there = subst (λ (count : ℕ). gfn < count) shows.pages.count below

      shown : IsShownPage stands image plan old g gfn page (unmapped_part (g.part.pages gfn)) old.pages.order g.part.order old.sealer (old.steps + 1)
      shown = record {
        kind_is = unmapped_kind_is before ∙ ap unmapped_kind (shows.pages.kinds gfn there);
        mover_is = mover_stays before ∙ shows.pages.movers gfn there;
        version_is = shows.sealed.versions gfn there;
        digest_is = kept_stays before ∙ shows.sealed.digests gfn there;
        pending_is = subst (λ (o : Option _). (way_of o ≡ Some Outward) ↔ IsSome (g.part.pages gfn).pending) (sym (mover_stays before)) (shows.sealed.pendings gfn there);
        order_is = shows.pages.order;
        frame_is = λ frame is held. shows.pages.holds gfn frame (was_secure (kind_of before) (sym (unmapped_kind_is before) ∙ is)) (sym (frame_stays before) ∙ held);
        zero_is = λ is. shows.pages.zeros gfn (was_invalid (kind_of before) (sym (unmapped_kind_is before) ∙ is));
        images = refl;
        stands_here = λ sealed is. shows.sealed.stands_for gfn sealed there is;
        words_here = λ sealed is at aligned same. shows.sealed.words at sealed aligned (subst (λ (n : ℕ). n < plan.pages) (sym same) there) (ap (λ (n : ℕ). sealed_of (g.part.pages n)) same ∙ is);
        stands_there = λ tag plain sealed other stood. stood;
      }

      named : gfn ≡ page_of plan gpa
      named = gfn_is ∙ ap (λ (shift : ℕ). gpa / 2 ^ shift) shows.shift

      shows_after : Shows stands image plan new (record g { part = part_of_inval g.part USuccess (page_of plan gpa); clean = clean })
      shows_after = subst (λ (n : ℕ). Shows stands image plan new (record g { part = part_of_inval g.part USuccess n; clean = clean })) named
          (shows_with stands image plan old g gfn page (unmapped_part (g.part.pages gfn)) old.pages.order g.part.order old.sealer (old.steps + 1) clean shows below shown)

    -- a call that is accepted does its row
    accepted : HasCode USuccess → DoesRow takes stands image call old new cpu (answered USuccess) pool pool (Ret USuccess)
    accepted same = record {
      whole = whole_after;
      keeps = keeps_with old gfn page old.pages.order old.sealer;
      life = λ still. record { phase = refl; generation = refl; entry = refl };
      movers = movers_with old gfn page old.pages.order old.sealer below cpu.number (λ mover other is. mover_stays before ∙ is);
      frames = frames_stay old new pool frames;
      own = record { number = refl; hand = refl; selects = inl (refl, refl) };
      works = subst (WorksAt new (answered USuccess)) (sym hv) tt;
      pool_stays = λ unused. refl;
      refused = subst (λ c. Refuses c call old new cpu (answered USuccess) pool pool (Ret USuccess)) (sym hv) (λ refusal. absurd cc);
      row = makes USuccess new same (λ clean plan g shows. shows_after clean plan g shows);
    }

  -- so each does
  pub inval_does : (code : Code) (after : Guest S) → Unmaps code gpa counted after → HasCode code → RefusesCpu cpu (answered code) code → DoesRow takes stands image call old after cpu (answered code) pool pool (Ret code)
  inval_does USuccess after is same refuses =
      subst (λ (guest : Guest S). DoesRow takes stands image call old guest cpu (answered USuccess) pool pool (Ret USuccess)) (sym is.guest)
      (accepted (gpa / 2 ^ old.shift) is.below (for_no_outside old.phase is.phase) refl same)
  inval_does code after is same refuses =
      subst (λ (guest : Guest S). DoesRow takes stands image call old guest cpu (answered code) pool pool (Ret code)) (sym is) (refused code (λ p gfn. refl) same refuses)
