-- A page that has moved outward: its guest stays whole, its frame is free, and the model's page is Out.
use Rattle.std.proofs.Common.{◌≡◌, ◌≢◌, ℕ, ◌+◌, ◌<◌, ◌≤◌, ◌==◌, not, Bool, true, false, if◌then◌else◌, List, length, count_by, filter, Option, Some, None, IsSome, option_map, ◌⊎◌, inl, inr, arith, refl, ap, sym, subst, ◌∙◌}
use Rattle.std.proofs.lemmas.List.{get_or_past}
use Rattle.std.proofs.lemmas.Bool.{cases_lt}
use Rattle.std.proofs.lemmas.Bool.Decides.{nat_tests}
use Rattle.std.proofs.lemmas.List.Sums.{sum_by-cons}
use Rattle.pef_model.specs.declared.state.Kind.TheVariants as kind
use Rattle.pef_model.specs.declared.state.Digest32.{Digest32}
use Rattle.pef_model.specs.declared.state.Move.{Move}
use Rattle.pef_model.specs.declared.state.Mover.{Mover}
use Rattle.pef_model.specs.declared.state.Tag.{Tag}
use Rattle.pef_model.specs.declared.state.Ctx.TheVariants as ctx
use Rattle.pef_model.specs.declared.state.Way.TheVariants as way
use Rattle.pef_model.specs.declared.command.Code.TheVariants.{USuccess, UParameter}
use Rattle.pef_model.specs.declared.command.Cmd.TheVariants.{Go}
use Rattle.pef_model.specs.declared.entry.Answer.TheVariants as answer
use Rattle.pef_model.specs.Plan.{Plan}
use Rattle.pef_model.specs.Event.{Mark}
use Rattle.pef_model.specs.Registers.{with_code}
use Rattle.pef_model.specs.Cpu.{CpuPart}
use Rattle.pef_model.specs.GuestPart.{ended_out as part_ended}
use Rattle.pef_model.specs.Guest.{Guest as GuestWhole}
use Rattle.pef_model.specs.Deed.{giving, coming_back, deed_page_out_end}
use Rattle.pef_model.specs.History.{entry_of}
use Rattle.pef_frames.specs.Frame.{FrameState}
use Rattle.pef_frames.specs.Pool.{PoolState, with_free}
use Rattle.pef_frames.specs.PoolLaw.{times_free, once}
use Rattle.pef_pages.specs.declared.cell.Cell.{Cell}
use Rattle.pef_pages.specs.declared.cell.Cell.TheVariants as cell
use Rattle.pef_pages.specs.declared.page.Page.{Page}
use Rattle.pef_pages.specs.Cells.{kind_of, mover_of, way_of, frame_in, without_frame, ended_out}
use Rattle.pef_pages.specs.Pages.{PagesState, invalid_page, page_at, cell_at, mover_at, frame_at, with_page, held}
use Rattle.pef_pages.specs.Laws.{count_in}
use Rattle.pef_pages.proofs.Frames.{frames-set}
use Rattle.pef_guest.specs.declared.cpu.Cpu.{Cpu}
use Rattle.pef_guest.specs.declared.guest.Guest.{Guest}
use Rattle.pef_guest.specs.Keeps.{KeepsFrames, times_held}
use Rattle.pef_guest.specs.Shows.{ShowsCpu, Shows, kept_in, first_there, sealed_of, digest_by}
use Rattle.pef_guest.specs.Whole.{IsWhole}
use Rattle.pef_guest.specs.Rows.{RowWithPool, ask_outward}
use Rattle.pef_guest.proofs.OnePage.{IsShownPage, shows_with, shows_counted}
use Rattle.pef_guest.proofs.Wholes.{stepped_with, whole_with}

-- a page that a CPU moves outward, with its frame, and with the digest that it is to have
pub record IsOnWay {F : Type 0} (c : Cell F) (frame : F) (cpu : ℕ) : Type 0 where
  pub digest : Option Digest32
  pub is : c ≡ cell.MovesOut frame cpu digest

-- the CPU of a mover
abbrev pub cpu_of : Option Mover → ℕ
cpu_of None = 0
cpu_of (Some mover) = mover.cpu

pub on_way : {F : Type 0} (c : Cell F) (frame : F) (cpu : ℕ) → mover_of c ≡ Some (record { cpu = cpu; way = way.Outward }) → frame_in c ≡ Some frame → IsOnWay c frame cpu
on_way (cell.MovesOut old n digest) frame cpu moves there =
    let same : old ≡ frame = cc in
    let one : n ≡ cpu = ap cpu_of moves in
    record { digest = digest; is = λ i. cell.MovesOut (same i) (one i) digest }
on_way (cell.MovesIn old n digest) frame cpu moves there = absurd (let other = ap way_of moves in cc)
on_way (cell.Secure old) frame cpu moves there = absurd cc
on_way cell.Invalid frame cpu moves there = absurd cc
on_way (cell.Out digest) frame cpu moves there = absurd cc
on_way (cell.Shared normal) frame cpu moves there = absurd cc
on_way (cell.Unbacked fresh) frame cpu moves there = absurd cc

-- a page that moves is one of the guest's
pub moving_below : {F : Type 0} (pages : PagesState F) (gfn : ℕ) (mover : Mover) → mover_at pages gfn ≡ Some mover → gfn < length pages.pages
moving_below {F = F} pages gfn mover moves = by_place (cases_lt gfn (length pages.pages)) where
  by_place : (gfn < length pages.pages) ⊎ (length pages.pages ≤ gfn) → gfn < length pages.pages
  by_place (inl below) = below
  by_place (inr past) = absurd (let none = ap (λ (page : Page F). mover_of page.cell) (get_or_past pages.pages gfn invalid_page past) in cc)

-- bytes that are there
pub some_bytes : (bytes : Option (List ℕ)) → IsSome bytes → (it : List ℕ) × (bytes ≡ Some it)
some_bytes None there = cc
some_bytes (Some bytes) there = (bytes, refl)

-- a page without a frame has none, and no mover
pub no_frame : (F : Type 0) (digest : Option Digest32) → frame_in {F = F} (without_frame digest) ≡ None
no_frame F None = refl
no_frame F (Some digest) = refl

pub no_mover : (F : Type 0) (digest : Option Digest32) → mover_of {F = F} (without_frame digest) ≡ None
no_mover F None = refl
no_mover F (Some digest) = refl

-- and isn't Shared
pub not_shared : (F : Type 0) (digest : Option Digest32) (n : Option ℕ) (fresh : Bool) → kind_of {F = F} (without_frame digest) ≡ kind.Shared n fresh → ⊥
not_shared F None n fresh is = cc
not_shared F (Some digest) n fresh is = cc

-- an end under another generation leaves the guest
pub row_old : {S : Type 0} (stands : S → Tag → List ℕ → List ℕ → Type 0) (image : S → Tag → List ℕ → List ℕ) (plan : Plan) (g : GuestWhole) (c : CpuPart) (mark : Mark) (old : Guest S) (cpu : Cpu) (move : Move) (pool : PoolState) →
    Shows stands image plan old g → ShowsCpu cpu c → move.generation ≢ old.generation →
    RowWithPool stands image plan g c (entry_of (ask_outward move c) mark Go (deed_page_out_end g.part (ask_outward move c) move)) (record old { steps = old.steps + 1 })
    (record cpu { ctx = ctx.Hv; gpr = with_code cpu.gpr UParameter; last = answer.Ret UParameter }) (length pool.free) (length pool.free) (answer.Ret UParameter)
row_old stands image plan g c mark old cpu move pool shows shows_cpu other =
    let test : (move.generation == g.part.generation) ≡ false = (let life = shows.generation in grind (arith, nat_tests, other)) in
    subst (λ (same : Bool).
    RowWithPool stands image plan g c (entry_of (ask_outward move c) mark Go (if same then giving (coming_back (ask_outward move c) USuccess) 1 else coming_back (ask_outward move c) UParameter)) (record old { steps = old.steps + 1 })
    (record cpu { ctx = ctx.Hv; gpr = with_code cpu.gpr UParameter; last = answer.Ret UParameter }) (length pool.free) (length pool.free) (answer.Ret UParameter)) (sym test) (record {
      row = record {
        answered = refl;
        guest = shows_counted stands image plan old g (old.steps + 1) shows;
        cpu_is = record {
          ctx = refl;
          own = ap (λ (own : List ℕ). with_code own UParameter) shows_cpu.own;
          lpid = shows_cpu.lpid;
          vid = shows_cpu.vid;
          last = refl;
          hand = shows_cpu.hand;
        };
      };
      pool = refl;
    })

module _ {S : Type 0} (takes : S → ℕ → ℕ → Type 0) (old : Guest S) (cpu : Cpu) (move : Move) (frame : FrameState) (below : move.gfn < length old.pages.pages)
    (moves : mover_at old.pages move.gfn ≡ Some (record { cpu = cpu.number; way = way.Outward })) (there : frame_at old.pages move.gfn ≡ Some frame) where
  -- its number
  abbrev gfn : ℕ
  gfn = move.gfn

  -- what the page had
  pub goes : IsOnWay (cell_at old.pages gfn) frame cpu.number
  goes = on_way (cell_at old.pages gfn) frame cpu.number moves there

  -- the page afterwards
  abbrev pub page : Page FrameState
  page = record (page_at old.pages gfn) { cell = ended_out (cell_at old.pages gfn) }

  pub cell_is : page.cell ≡ without_frame goes.digest
  cell_is = ap ended_out goes.is

  -- the guest afterwards
  abbrev pub ended : Guest S
  ended = stepped_with old gfn page (filter (λ n. not (n == gfn)) old.pages.order) old.sealer

  pub whole : IsWhole takes old → IsWhole takes ended
  whole old_whole =
      whole_with old gfn page (filter (λ n. not (n == gfn)) old.pages.order) old.sealer below takes old_whole
      (λ outside. (let none = (old_whole.outside outside gfn).1 in cc)) (λ n size takes_it. takes_it) (record {
        frames = λ one e. absurd (let none = ap frame_in cell_is ∙ no_frame FrameState goes.digest in cc);
        shared = λ one fresh e. absurd (not_shared FrameState goes.digest (Some one) fresh (sym (ap kind_of cell_is) ∙ e));
        rests = λ secure e. ap mover_of cell_is ∙ no_mover FrameState goes.digest;
        digests = λ outward. absurd (let none = ap mover_of cell_is ∙ no_mover FrameState goes.digest in cc);
        version = (let few = old_whole.versions gfn in omega arith);
      })

  -- its frame is free
  pub frames : (pool : PoolState) → KeepsFrames old ended pool (with_free pool frame.number)
  frames pool = record { count = refl; size = refl; frames = each } where
    each : (number : ℕ) → times_held ended number + times_free (with_free pool frame.number) number ≡ times_held old number + times_free pool number
    each number =
        let test : FrameState → Bool = λ one. one.number == number in
        let set : count_by test (held (with_page old.pages gfn page)) + count_in test (frame_at old.pages gfn) ≡ count_by test (held old.pages) + count_in test (frame_in page.cell) = frames-set old.pages gfn page test below in
        let left : count_in test (frame_at old.pages gfn) ≡ once frame.number number = ap (count_in test) there in
        let came : count_in test (frame_in page.cell) ≡ 0 = ap (count_in test) (ap frame_in cell_is ∙ no_frame FrameState goes.digest) in
        let free : times_free (with_free pool frame.number) number ≡ once frame.number number + times_free pool number = sum_by-cons (λ (n : ℕ). if n == number then 1 else 0) frame.number pool.free in
        omega (arith, set, left, came, free)

  module _ (stands : S → Tag → List ℕ → List ℕ → Type 0) (image : S → Tag → List ℕ → List ℕ) (plan : Plan) (g : GuestWhole) (shows : Shows stands image plan old g) (bytes : List ℕ) (pending : (g.part.pages move.gfn).pending ≡ Some bytes) where
    -- the page is one of the model's
    within : gfn < plan.pages
    within = subst (λ (count : ℕ). gfn < count) shows.pages.count below

    -- the digest is that of the pending bytes
    digest_is : goes.digest ≡ Some (digest_by bytes)
    digest_is = sym (ap kept_in goes.is) ∙ shows.sealed.digests gfn within ∙ ap (λ (one : Option (List ℕ)). option_map digest_by (first_there one (g.part.pages gfn).sealed)) pending

    out : page.cell ≡ cell.Out (digest_by bytes)
    out = cell_is ∙ ap without_frame digest_is

    shown : IsShownPage stands image plan old g gfn page (part_ended (g.part.pages gfn)) (filter (λ n. not (n == gfn)) old.pages.order) (filter (λ n. not (n == gfn)) g.part.order) old.sealer (old.steps + 1)
    shown = record {
      kind_is = ap kind_of out;
      mover_is = ap mover_of out;
      version_is = shows.sealed.versions gfn within;
      digest_is = ap kept_in out ∙ sym (ap (λ (one : Option (List ℕ)). option_map digest_by (first_there None one)) pending);
      pending_is = (λ outward. absurd (let none = ap mover_of out in cc), λ there. absurd (let no : false ≡ true = there in cc));
      order_is = ap (filter (λ n. not (n == gfn))) shows.pages.order;
      frame_is = λ one k. absurd (let o = ap kind_of out in cc);
      zero_is = λ invalid. absurd (let o = ap kind_of out in cc);
      images = refl;
      stands_here = λ sealed e. shows.sealed.stands_for gfn sealed within (ap (λ (one : Option (List ℕ)). first_there one (g.part.pages gfn).sealed) pending ∙ sym pending ∙ e);
      words_here = λ sealed e gpa aligned at. shows.sealed.words gpa bytes aligned (subst (λ (n : ℕ). n < plan.pages) (sym at) within) (ap (λ (n : ℕ). sealed_of (g.part.pages n)) at ∙ ap (λ (one : Option (List ℕ)). first_there one (g.part.pages gfn).sealed) pending);
      stands_there = λ tag plain sealed other it. it;
    }

    -- the guest shows the model's with the page Out
    pub row_ended : (c : CpuPart) (mark : Mark) (pool : PoolState) → ShowsCpu cpu c → move.generation ≡ old.generation →
        RowWithPool stands image plan g c (entry_of (ask_outward move c) mark Go (deed_page_out_end g.part (ask_outward move c) move)) ended
        (record cpu { ctx = ctx.Hv; gpr = with_code cpu.gpr USuccess; last = answer.Ret USuccess }) (length pool.free) (length (with_free pool frame.number).free) (answer.Ret USuccess)
    row_ended c mark pool shows_cpu now =
        let test : (move.generation == g.part.generation) ≡ true = (let life = shows.generation in grind (arith, nat_tests)) in
        subst (λ (same : Bool).
        RowWithPool stands image plan g c (entry_of (ask_outward move c) mark Go (if same then giving (coming_back (ask_outward move c) USuccess) 1 else coming_back (ask_outward move c) UParameter)) ended
        (record cpu { ctx = ctx.Hv; gpr = with_code cpu.gpr USuccess; last = answer.Ret USuccess }) (length pool.free) (length (with_free pool frame.number).free) (answer.Ret USuccess)) (sym test) (record {
          row = record {
            answered = refl;
            guest =
                shows_with stands image plan old g gfn page (part_ended (g.part.pages gfn)) (filter (λ n. not (n == gfn)) old.pages.order) (filter (λ n. not (n == gfn)) g.part.order) old.sealer (old.steps + 1) _
                shows below shown;
            cpu_is = record {
              ctx = refl;
              own = ap (λ (own : List ℕ). with_code own USuccess) shows_cpu.own;
              lpid = shows_cpu.lpid;
              vid = shows_cpu.vid;
              last = refl;
              hand = shows_cpu.hand;
            };
          };
          pool = omega arith;
        })
