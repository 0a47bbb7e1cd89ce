-- A page that has come in, and was accepted or refused: its guest stays whole.
use Rattle.std.proofs.Common.{◌≡◌, ℕ, ◌+◌, ◌^◌, ◌<◌, ◌==◌, Bool, true, if◌then◌else◌, List, [], ◌∷◌, ◌++◌, length, slice_set, count_by, Option, Some, None, arith, refl, ap, sym, subst, ◌∙◌}
use Rattle.std.proofs.lemmas.List.{get_or-set_same, set-set}
use Rattle.std.proofs.lemmas.List.Sums.{sum_by-cons}
use Rattle.pef_model.specs.declared.state.Digest32.{Digest32}
use Rattle.pef_model.specs.declared.state.Move.{Move}
use Rattle.pef_model.specs.declared.state.Way.TheVariants as way
use Rattle.pef_frames.specs.Frame.{FrameState}
use Rattle.pef_frames.specs.Pool.{PoolState, with_free}
use Rattle.pef_frames.specs.PoolLaw.{times_free, once}
use Rattle.pef_pages.specs.declared.cell.Cell.{Cell}
use Rattle.pef_pages.specs.declared.cell.Cell.TheVariants as cell
use Rattle.pef_pages.specs.declared.page.Page.{Page}
use Rattle.pef_pages.specs.Cells.{kind_of, mover_of, digest_of, frame_in, with_frame, without_frame, accepted_in, refused_in}
use Rattle.pef_pages.specs.Pages.{PagesState, invalid_page, page_at, cell_at, mover_at, frame_at, with_page, with_frame_at, ended_in, held}
use Rattle.pef_pages.specs.Laws.{count_in}
use Rattle.pef_pages.proofs.Frames.{frames-set}
use Rattle.pef_guest.specs.declared.cpu.Cpu.{Cpu}
use Rattle.pef_guest.specs.declared.guest.Guest.{Guest}
use Rattle.pef_guest.specs.Keeps.{KeepsFrames, KeepsMovers, times_held}
use Rattle.pef_guest.specs.Shows.{kept_in}
use Rattle.pef_guest.specs.Whole.{IsFrameOf, IsOutside, IsWhole}
use Rattle.pef_move.proofs.Ended.{no_frame, not_shared, no_mover}
use Rattle.pef_move.proofs.OnWayIn.{IsOnWayIn, on_way_in}
use Rattle.pef_guest.proofs.Wholes.{stepped_with, movers_with, whole_with}

-- a page whose frame was written and that was then accepted is Secure in that frame, and last in the order
pub accepted_is : (pages : PagesState FrameState) (gfn cpu : ℕ) (old frame : FrameState) (digest : Option Digest32) → gfn < length pages.pages → cell_at pages gfn ≡ cell.MovesIn old cpu digest →
    ended_in (with_frame_at pages gfn frame) gfn true ≡ record { pages = slice_set pages.pages gfn (record (page_at pages gfn) { cell = cell.Secure frame }); order = pages.order ++ gfn ∷ [] }
accepted_is pages gfn cpu old frame digest below is =
    let written : Page FrameState = record (page_at pages gfn) { cell = with_frame (cell_at pages gfn) frame } in
    ap (λ (one : Page FrameState). record { pages = slice_set (slice_set pages.pages gfn written) gfn (record one { cell = accepted_in one.cell }); order = pages.order ++ gfn ∷ [] })
    (get_or-set_same pages.pages gfn written invalid_page below)
    ∙ ap (λ (list : List (Page FrameState)). record { pages = list; order = pages.order ++ gfn ∷ [] }) (set-set pages.pages gfn written (record written { cell = accepted_in written.cell }))
    ∙ ap (λ (c : Cell FrameState). record { pages = slice_set pages.pages gfn (record (page_at pages gfn) { cell = accepted_in (with_frame c frame) }); order = pages.order ++ gfn ∷ [] }) is

-- a page that is refused keeps its digest
pub kept_without : (F : Type 0) (digest : Option Digest32) → kept_in {F = F} (without_frame digest) ≡ digest
kept_without F None = refl
kept_without F (Some digest) = refl

pub digest_without : (F : Type 0) (digest : Option Digest32) → digest_of {F = F} (without_frame digest) ≡ digest
digest_without F None = refl
digest_without F (Some digest) = refl

-- and its kind
pub kind_without_frame : {F : Type 0} (frame : F) (cpu : ℕ) (digest : Option Digest32) → kind_of {F = F} (without_frame digest) ≡ kind_of (cell.MovesIn frame cpu digest)
kind_without_frame frame cpu None = refl
kind_without_frame frame cpu (Some digest) = refl

module _ {S : Type 0} (old : Guest S) (cpu : Cpu) (move : Move) (below : move.gfn < length old.pages.pages) (moves : mover_at old.pages move.gfn ≡ Some (record { cpu = cpu.number; way = way.Inward })) where
  -- its number
  abbrev gfn : ℕ
  gfn = move.gfn

  -- what the page had
  pub comes : IsOnWayIn (cell_at old.pages gfn) cpu.number
  comes = on_way_in (cell_at old.pages gfn) cpu.number moves

  -- a page that moves is no page of a guest in whose phase nothing is private
  inside : (takes : S → ℕ → ℕ → Type 0) → IsWhole takes old → IsOutside old.phase → ⊥
  inside takes whole outside = let none = (whole.outside outside gfn).1 in cc

  -- no other CPU moves it
  none_else : (page : Page FrameState) (order : List ℕ) → KeepsMovers cpu.number old (stepped_with old gfn page order old.sealer)
  none_else page order = movers_with old gfn page order old.sealer below cpu.number (λ mover other e. absurd (other (let same : Some (record { cpu = cpu.number; way = way.Inward }) ≡ Some mover = sym moves ∙ e in let one : record { cpu = cpu.number; way = way.Inward } ≡ mover = cc in ap (λ m. m.cpu) (sym one))))

  -- the page as it was refused
  abbrev pub page_refused : Page FrameState
  page_refused = record (page_at old.pages gfn) { cell = refused_in (cell_at old.pages gfn) }

  pub refused_is : page_refused.cell ≡ without_frame comes.digest
  refused_is = ap refused_in comes.is

  -- the guest afterwards
  abbrev pub refused : Guest S
  refused = stepped_with old gfn page_refused old.pages.order old.sealer

  pub refused_movers : KeepsMovers cpu.number old refused
  refused_movers = none_else page_refused old.pages.order

  pub refused_whole : (takes : S → ℕ → ℕ → Type 0) → IsWhole takes old → IsWhole takes refused
  refused_whole takes whole = whole_with old gfn page_refused old.pages.order old.sealer below takes whole (inside takes whole) (λ n size takes_it. takes_it) (record {
    frames = λ one e. absurd (let none = ap frame_in refused_is ∙ no_frame FrameState comes.digest in cc);
    shared = λ one fresh e. absurd (not_shared FrameState comes.digest (Some one) fresh (sym (ap kind_of refused_is) ∙ e));
    rests = λ secure e. ap mover_of refused_is ∙ no_mover FrameState comes.digest;
    digests = λ outward. absurd (let none = ap mover_of refused_is ∙ no_mover FrameState comes.digest in cc);
    version = (let few = whole.versions gfn in omega arith);
  })

  -- its frame is free
  pub refused_frames : (frame : FrameState) (pool : PoolState) → frame_at old.pages gfn ≡ Some frame → KeepsFrames old refused pool (with_free pool frame.number)
  refused_frames frame pool there = record { count = refl; size = refl; frames = each } where
    each : (number : ℕ) → times_held refused number + times_free (with_free pool frame.number) number ≡ times_held old number + times_free pool number
    each number =
        let test : FrameState → Bool = λ one. one.number == number in
        let set : count_by test (held (with_page old.pages gfn page_refused)) + count_in test (frame_at old.pages gfn) ≡ count_by test (held old.pages) + count_in test (frame_in page_refused.cell) = frames-set old.pages gfn page_refused test below in
        let left : count_in test (frame_at old.pages gfn) ≡ once frame.number number = ap (count_in test) there in
        let came : count_in test (frame_in page_refused.cell) ≡ 0 = ap (count_in test) (ap frame_in refused_is ∙ no_frame FrameState comes.digest) in
        let free : times_free (with_free pool frame.number) number ≡ once frame.number number + times_free pool number = sum_by-cons (λ (n : ℕ). if n == number then 1 else 0) frame.number pool.free in
        omega (arith, set, left, came, free)

  module _ (frame : FrameState) (there : frame_at old.pages gfn ≡ Some frame) (bytes : List ℕ) (size : length bytes ≡ length frame.bytes) where
    -- the page as it was accepted, with these bytes
    abbrev pub page_accepted : Page FrameState
    page_accepted = record (page_at old.pages gfn) { cell = cell.Secure (record frame { bytes = bytes }) }

    -- the guest afterwards
    abbrev pub accepted : Guest S
    accepted = stepped_with old gfn page_accepted (old.pages.order ++ gfn ∷ []) old.sealer

    pub accepted_movers : KeepsMovers cpu.number old accepted
    accepted_movers = none_else page_accepted (old.pages.order ++ gfn ∷ [])

    pub accepted_whole : (takes : S → ℕ → ℕ → Type 0) → IsWhole takes old → IsWhole takes accepted
    accepted_whole takes whole = whole_with old gfn page_accepted (old.pages.order ++ gfn ∷ []) old.sealer below takes whole (inside takes whole) (λ n size takes_it. takes_it) (record {
      frames = λ one e. subst (IsFrameOf (2 ^ old.shift) old.secure) (let same : record frame { bytes = bytes } ≡ one = cc in same) (record {
        length_is = size ∙ (whole.frames gfn frame there).length_is;
        number = (whole.frames gfn frame there).number;
      });
      shared = λ one fresh e. absurd cc;
      rests = λ secure invalid. refl;
      digests = λ outward. absurd cc;
      version = (let few = whole.versions gfn in omega arith);
    })

    -- it keeps its frame
    pub accepted_frames : (pool : PoolState) → KeepsFrames old accepted pool pool
    accepted_frames pool = record { count = refl; size = refl; frames = each } where
      each : (number : ℕ) → times_held accepted number + times_free pool number ≡ times_held old number + times_free pool number
      each number =
          let test : FrameState → Bool = λ one. one.number == number in
          let set : count_by test (held (with_page old.pages gfn page_accepted)) + count_in test (frame_at old.pages gfn) ≡ count_by test (held old.pages) + count_in test (frame_in page_accepted.cell) = frames-set old.pages gfn page_accepted test below in
          let same : count_in test (frame_at old.pages gfn) ≡ count_in test (frame_in page_accepted.cell) = ap (count_in test) there in
          omega (arith, set, same)

    -- it is the guest whose page has these bytes and was then accepted
    pub accepted_guest : (written : Guest S) (pages : PagesState FrameState) → written ≡ record old { steps = old.steps + 1; pages = with_frame_at old.pages gfn (record frame { bytes = bytes }) } → pages ≡ ended_in written.pages gfn true →
        record written { pages = pages } ≡ accepted
    accepted_guest written pages is ended =
        let last : pages ≡ accepted.pages = ended ∙ ap (λ (one : Guest S). ended_in one.pages gfn true) is ∙ accepted_is old.pages gfn cpu.number comes.frame (record frame { bytes = bytes }) comes.digest below comes.is in
        λ i. record (is i) { pages = last i }
