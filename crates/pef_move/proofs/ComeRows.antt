-- The rows of the end of a page-in: the page is Secure with what was last stored there, or Out as before.
use Rattle.std.proofs.Common.{◌≡◌, ◌≢◌, ℕ, ◌+◌, ◌^◌, ◌<◌, ◌==◌, Bool, true, false, ◌&&◌, if◌then◌else◌, List, [], ◌∷◌, ◌++◌, length, Option, Some, None, is_some, option_map, IsTrue, ◌↔◌, arith, refl, ap, sym, subst, ◌∙◌}
use Rattle.std.proofs.lemmas.Bool.Decides.{nat_tests}
use Rattle.pef_model.specs.declared.state.Move.{Move}
use Rattle.pef_model.specs.declared.state.Tag.{Tag}
use Rattle.pef_model.specs.declared.state.Ctx.TheVariants as ctx
use Rattle.pef_model.specs.declared.state.Way.TheVariants as way
use Rattle.pef_model.specs.declared.command.Code.{Code}
use Rattle.pef_model.specs.declared.command.Code.TheVariants.{USuccess, UParameter, UP2}
use Rattle.pef_model.specs.declared.command.Cmd.TheVariants.{Go}
use Rattle.pef_model.specs.declared.entry.Answer.TheVariants as answer
use Rattle.pef_model.specs.Plan.{Plan, IsWithin}
use Rattle.pef_model.specs.Event.{Mark}
use Rattle.pef_model.specs.Doubleword.{doubleword}
use Rattle.pef_model.specs.Registers.{with_code}
use Rattle.pef_model.specs.Cpu.{CpuPart}
use Rattle.pef_model.specs.GuestPart.{secured, refused_in as part_refused}
use Rattle.pef_model.specs.Guest.{Guest as GuestWhole}
use Rattle.pef_model.specs.PageOut.{tag_of, private_page}
use Rattle.pef_model.specs.PageIn.{is_last_sealed}
use Rattle.pef_model.specs.Clash.{collides_with, ends_in_clash}
use Rattle.pef_model.specs.Deed.{coming_back, deed_page_in_test, deed_page_in_end}
use Rattle.pef_model.specs.History.{entry_of}
use Rattle.pef_model.specs.Memory.{offset_of}
use Rattle.pef_model.proofs.PageBytes.{page_has_each_doubleword}
use Rattle.pef_frames.specs.Frame.{FrameState}
use Rattle.pef_frames.specs.Pool.{PoolState, with_free}
use Rattle.pef_pages.specs.Cells.{kind_of, mover_of, way_of, digest_of, frame_in}
use Rattle.pef_pages.specs.Pages.{mover_at, frame_at, digest_at}
use Rattle.pef_guest.specs.declared.cpu.Cpu.{Cpu}
use Rattle.pef_guest.specs.declared.guest.Guest.{Guest}
use Rattle.pef_guest.specs.Shows.{HoldsPage, ShowsCpu, Shows, kept_in, first_there, sealed_of, digest_by}
use Rattle.pef_guest.specs.Rows.{RowWithPool, ask_inward}
use Rattle.pef_move.specs.Unseal.{last_tag}
use Rattle.pef_move.proofs.Ended.{no_frame, no_mover}
use Rattle.pef_guest.proofs.OnePage.{IsShownPage, shows_with, shows_counted}
use Rattle.pef_move.proofs.OnWayIn.{last_sealed, sealed_is}
use Rattle.pef_move.proofs.Come.{comes, refused, page_refused, refused_is, accepted, page_accepted, kept_without, kind_without_frame}

-- an end under another generation leaves the guest
pub row_old : {S : Type 0} (stands : S → Tag → List ℕ → List ℕ → Type 0) (image : S → Tag → List ℕ → List ℕ) (plan : Plan) (g : GuestWhole) (c : CpuPart) (mark : Mark) (old : Guest S) (cpu : Cpu) (move : Move) (pool : PoolState) →
    Shows stands image plan old g → ShowsCpu cpu c → move.generation ≢ old.generation →
    RowWithPool stands image plan g c (entry_of (ask_inward move c) mark Go (deed_page_in_end g.part (ask_inward move c) move)) (record old { steps = old.steps + 1 })
    (record cpu { ctx = ctx.Hv; gpr = with_code cpu.gpr UParameter; last = answer.Ret UParameter }) (length pool.free) (length pool.free) (answer.Ret UParameter)
row_old stands image plan g c mark old cpu move pool shows shows_cpu other =
    let test : (move.generation == g.part.generation) ≡ false = (let life = shows.generation in grind (arith, nat_tests, other)) in
    subst (λ (same : Bool).
    RowWithPool stands image plan g c (entry_of (ask_inward move c) mark Go (if same then deed_page_in_test (ask_inward move c) (is_last_sealed (g.part.pages move.gfn).sealed c.hand) else coming_back (ask_inward move c) UParameter)) (record old { steps = old.steps + 1 })
    (record cpu { ctx = ctx.Hv; gpr = with_code cpu.gpr UParameter; last = answer.Ret UParameter }) (length pool.free) (length pool.free) (answer.Ret UParameter)) (sym test) (record {
      row = record {
        answered = refl;
        guest = shows_counted stands image plan old g (old.steps + 1) shows;
        cpu_is = record {
          ctx = refl;
          own = ap (λ (own : List ℕ). with_code own UParameter) shows_cpu.own;
          lpid = shows_cpu.lpid;
          vid = shows_cpu.vid;
          last = refl;
          hand = shows_cpu.hand;
        };
      };
      pool = refl;
    })

module _ {S : Type 0} (stands : S → Tag → List ℕ → List ℕ → Type 0) (image : S → Tag → List ℕ → List ℕ) (plan : Plan) (g : GuestWhole) (c : CpuPart) (mark : Mark) (old : Guest S) (cpu : Cpu) (move : Move) (pool : PoolState)
    (below : move.gfn < length old.pages.pages) (moves : mover_at old.pages move.gfn ≡ Some (record { cpu = cpu.number; way = way.Inward }))
    (shows : Shows stands image plan old g) (shows_cpu : ShowsCpu cpu c) (now : move.generation ≡ old.generation) (clean : ends_in_clash g.part (record move { copied = true }) c.hand ≡ false)
    (kept : Bool) (test : IsTrue kept ↔ (digest_at old.pages move.gfn ≡ Some (digest_by cpu.hand))) where
  -- its number
  abbrev gfn : ℕ
  gfn = move.gfn

  -- the page is one of the model's
  within : gfn < plan.pages
  within = subst (λ (count : ℕ). gfn < count) shows.pages.count below

  -- nothing is pending of a page that moves inward
  none_pending : (g.part.pages gfn).pending ≡ None
  none_pending = by_pending (g.part.pages gfn).pending refl where
    by_pending : (bytes : Option (List ℕ)) → (g.part.pages gfn).pending ≡ bytes → (g.part.pages gfn).pending ≡ None
    by_pending None e = e
    by_pending (Some bytes) e = absurd (let outward = (shows.sealed.pendings gfn within).1 (ap (λ (o : Option (List ℕ)). is_some o) e) in let inward = ap way_of moves in cc)

  -- so what is sealed of it is what was last sealed
  sealed : sealed_of (g.part.pages gfn) ≡ (g.part.pages gfn).sealed
  sealed = ap (λ (one : Option (List ℕ)). first_there one (g.part.pages gfn).sealed) none_pending

  -- the move is of the guest's generation
  lives : (move.generation == g.part.generation) ≡ true
  lives = let own = shows.generation in grind (arith, nat_tests)

  -- so the hand doesn't collide with what was last sealed
  apart : collides_with (g.part.pages gfn).sealed c.hand ≡ false
  apart = sym (ap (λ (own : Bool). own && collides_with (g.part.pages gfn).sealed c.hand) lives) ∙ clean

  -- the test is the model's
  pub is_kept : is_last_sealed (g.part.pages gfn).sealed c.hand ≡ kept
  is_kept = last_sealed (g.part.pages gfn).sealed c.hand (digest_at old.pages gfn) kept
      (ap digest_of (comes old cpu move below moves).is ∙ sym (ap kept_in (comes old cpu move below moves).is) ∙ shows.sealed.digests gfn within ∙ ap (option_map digest_by) sealed)
      apart (subst (λ (hand : List ℕ). IsTrue kept ↔ (digest_at old.pages gfn ≡ Some (digest_by hand))) shows_cpu.hand test)

  -- the CPU after the call has come back
  abbrev pub cpu_back : Code → Cpu
  cpu_back one = record cpu { ctx = ctx.Hv; gpr = with_code cpu.gpr one; last = answer.Ret one }

  -- the row of the end
  abbrev pub RowOf : Guest S → Code → ℕ → Type 0
  RowOf new one free =
      RowWithPool stands image plan g c (entry_of (ask_inward move c) mark Go (deed_page_in_end g.part (ask_inward move c) move)) new (cpu_back one) (length pool.free) free (answer.Ret one)

  -- the row by the test
  abbrev RowBy : Bool → Guest S → Code → ℕ → Type 0
  RowBy same new one free =
      RowWithPool stands image plan g c (entry_of (ask_inward move c) mark Go (deed_page_in_test (ask_inward move c) same)) new (cpu_back one) (length pool.free) free (answer.Ret one)

  row_by : (new : Guest S) (one : Code) (free : ℕ) → RowBy kept new one free → RowOf new one free
  row_by new one free row =
      subst (λ (same : Bool). RowWithPool stands image plan g c (entry_of (ask_inward move c) mark Go
      (if same then deed_page_in_test (ask_inward move c) (is_last_sealed (g.part.pages gfn).sealed c.hand) else coming_back (ask_inward move c) UParameter)) new (cpu_back one) (length pool.free) free (answer.Ret one)) (sym lives)
      (subst (λ (same : Bool). RowBy same new one free) (sym is_kept) row)

  shows_back : (one : Code) → ShowsCpu (cpu_back one) (record c { ctx = ctx.Hv; own = with_code c.own one; last = answer.Ret one })
  shows_back one = record {
    ctx = refl;
    own = ap (λ (own : List ℕ). with_code own one) shows_cpu.own;
    lpid = shows_cpu.lpid;
    vid = shows_cpu.vid;
    last = refl;
    hand = shows_cpu.hand;
  }

  shown_refused : IsShownPage stands image plan old g gfn (page_refused old cpu move below moves) (part_refused (g.part.pages gfn)) old.pages.order g.part.order old.sealer (old.steps + 1)
  shown_refused =
      let had = comes old cpu move below moves in
      let is = refused_is old cpu move below moves in
      record {
        kind_is = ap kind_of is ∙ kind_without_frame had.frame cpu.number had.digest ∙ sym (ap kind_of had.is) ∙ shows.pages.kinds gfn within;
        mover_is = ap mover_of is ∙ no_mover FrameState had.digest;
        version_is = shows.sealed.versions gfn within;
        digest_is = ap kept_in is ∙ kept_without FrameState had.digest ∙ sym (ap kept_in had.is) ∙ shows.sealed.digests gfn within;
        pending_is = (λ outward. absurd (let none = ap mover_of is ∙ no_mover FrameState had.digest in cc), λ there. absurd (let none = none_pending in cc));
        order_is = shows.pages.order;
        frame_is = λ one k e. absurd (let none = ap frame_in is ∙ no_frame FrameState had.digest in cc);
        zero_is = λ invalid. shows.pages.zeros gfn (ap kind_of had.is ∙ sym (kind_without_frame had.frame cpu.number had.digest) ∙ sym (ap kind_of is) ∙ invalid);
        images = refl;
        stands_here = λ bytes e. shows.sealed.stands_for gfn bytes within e;
        words_here = λ bytes e gpa aligned at. shows.sealed.words gpa bytes aligned (subst (λ (n : ℕ). n < plan.pages) (sym at) within) (ap (λ (n : ℕ). sealed_of (g.part.pages n)) at ∙ e);
        stands_there = λ tag plain bytes other it. it;
      }

  -- the page was refused, and its frame is free
  pub row_refused : kept ≡ false → (number : ℕ) → RowOf (refused old cpu move below moves) UP2 (length (with_free pool number).free)
  row_refused rejected number = row_by (refused old cpu move below moves) UP2 (length (with_free pool number).free) (subst (λ (same : Bool). RowBy same (refused old cpu move below moves) UP2 (length (with_free pool number).free)) (sym rejected) (record {
    row = record {
      answered = refl;
      guest =
          shows_with stands image plan old g gfn (page_refused old cpu move below moves) (part_refused (g.part.pages gfn)) old.pages.order g.part.order old.sealer (old.steps + 1) _
          shows below shown_refused;
      cpu_is = shows_back UP2;
    };
    pool = omega arith;
  }))

  module _ (accepts : kept ≡ true) (range : IsWithin 8 16 old.shift) (frame : FrameState) (there : frame_at old.pages move.gfn ≡ Some frame) (bytes : List ℕ) (size : length bytes ≡ length frame.bytes)
      (plain : (page : List ℕ) → stands old.sealer (last_tag old move.gfn) page cpu.hand → bytes ≡ page) where
    -- the hand is what was last sealed
    hand_is : sealed_of (g.part.pages gfn) ≡ Some c.hand
    hand_is = sealed ∙ sealed_is (g.part.pages gfn).sealed c.hand (is_kept ∙ accepts)

    -- the tag is the model's
    tag : last_tag old gfn ≡ tag_of g.part old.lpid gfn (g.part.pages gfn).version
    tag i = record { lpid = old.lpid; generation = shows.generation i; gfn = gfn; version = shows.sealed.versions gfn within i }

    -- so what was unsealed is the page of the last stores
    bytes_are : bytes ≡ private_page plan g gfn
    bytes_are =
        plain (private_page plan g gfn) (subst (stands old.sealer (last_tag old gfn) (private_page plan g gfn)) (sym shows_cpu.hand)
        (subst (λ (one : Tag). stands old.sealer one (private_page plan g gfn) c.hand) (sym tag) (shows.sealed.stands_for gfn c.hand within hand_is)))

    holds : HoldsPage plan g gfn (record frame { bytes = bytes })
    holds gpa aligned at =
        let small : g.content gpa < 2 ^ 64 = shows.sealed.words gpa c.hand aligned (subst (λ (n : ℕ). n < plan.pages) (sym at) within) (ap (λ (n : ℕ). sealed_of (g.part.pages n)) at ∙ hand_is) in
        ap (λ (list : List ℕ). doubleword list (offset_of plan gpa)) (bytes_are ∙ ap (private_page plan g) (sym at))
        ∙ page_has_each_doubleword plan.shift g.content gpa (subst (IsWithin 8 16) shows.shift range) aligned small

    shown_accepted : IsShownPage stands image plan old g gfn (page_accepted old cpu move below moves frame there bytes size) (secured (g.part.pages gfn)) (old.pages.order ++ gfn ∷ []) (g.part.order ++ gfn ∷ []) old.sealer (old.steps + 1)
    shown_accepted = record {
      kind_is = refl;
      mover_is = refl;
      version_is = shows.sealed.versions gfn within;
      digest_is = refl;
      pending_is = (λ outward. absurd cc, λ pending. absurd cc);
      order_is = ap (λ (order : List ℕ). order ++ gfn ∷ []) shows.pages.order;
      frame_is = λ one k e. subst (HoldsPage plan g gfn) (let same : record frame { bytes = bytes } ≡ one = cc in same) holds;
      zero_is = λ invalid. absurd cc;
      images = refl;
      stands_here = λ one e. absurd cc;
      words_here = λ one e. absurd cc;
      stands_there = λ tag plain bytes other it. it;
    }

    -- the page was accepted
    pub row_accepted : RowOf (accepted old cpu move below moves frame there bytes size) USuccess (length pool.free)
    row_accepted = row_by (accepted old cpu move below moves frame there bytes size) USuccess (length pool.free) (subst (λ (same : Bool). RowBy same (accepted old cpu move below moves frame there bytes size) USuccess (length pool.free)) (sym accepts) (record {
      row = record {
        answered = refl;
        guest =
            shows_with stands image plan old g gfn (page_accepted old cpu move below moves frame there bytes size) (secured (g.part.pages gfn)) (old.pages.order ++ gfn ∷ []) (g.part.order ++ gfn ∷ []) old.sealer (old.steps + 1) _
            shows below shown_accepted;
        cpu_is = shows_back USuccess;
      };
      pool = refl;
    }))
