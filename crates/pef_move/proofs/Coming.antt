-- A page that begins to come in: its guest stays whole, and one frame fewer is free.
use Rattle.std.proofs.Common.{◌≡◌, ℕ, ◌+◌, ◌^◌, ◌<◌, ◌==◌, Bool, false, if◌then◌else◌, List, [], ◌∷◌, length, count_by, Some, None, arith, refl, ap, sym, subst, ◌∙◌}
use Rattle.std.proofs.lemmas.List.{length-replicate}
use Rattle.std.proofs.lemmas.List.Sums.{sum_by-cons}
use Rattle.pef_model.specs.declared.state.Kind.TheVariants as kind
use Rattle.pef_model.specs.declared.state.Digest32.{Digest32}
use Rattle.pef_model.specs.declared.state.Way.TheVariants as way
use Rattle.pef_model.specs.declared.state.Ctx.TheVariants as ctx
use Rattle.pef_model.specs.declared.state.Work.TheVariants.{Inward}
use Rattle.pef_frames.specs.Frame.{FrameState, zero_frame}
use Rattle.pef_frames.specs.Pool.{PoolState, first_of, first_free, rest_of, without_first}
use Rattle.pef_frames.specs.PoolLaw.{times_free, once}
use Rattle.pef_pages.specs.declared.cell.Cell.{Cell}
use Rattle.pef_pages.specs.declared.cell.Cell.TheVariants as cell
use Rattle.pef_pages.specs.declared.page.Page.{Page}
use Rattle.pef_pages.specs.Cells.{kind_of, mover_of, digest_of, frame_in}
use Rattle.pef_pages.specs.Pages.{page_at, cell_at, digest_at, mover_at, frame_at, with_page, held}
use Rattle.pef_pages.specs.Laws.{count_in}
use Rattle.pef_pages.proofs.Frames.{frames-set}
use Rattle.pef_guest.specs.declared.cpu.Cpu.{Cpu}
use Rattle.pef_guest.specs.declared.guest.Guest.{Guest}
use Rattle.pef_guest.specs.Keeps.{IsPoolOf, KeepsFrames, KeepsMovers, times_held}
use Rattle.pef_guest.specs.Whole.{IsFrameOf, IsWhole}
use Rattle.pef_move.specs.declared.page_call.PageCall.{PageCall}
use Rattle.pef_move.specs.declared.route.Route.{Route}
use Rattle.pef_move.specs.Route.{IsRouteIn}
use Rattle.pef_guest.proofs.OnePage.{each_with_page}
use Rattle.pef_guest.proofs.Wholes.{stepped_with, movers_with, whole_with}
use Rattle.pef_guest.specs.Ready.{WorksAt}

-- a page that is Out and at rest keeps a digest, and has nothing else
pub record IsOut {F : Type 0} (c : Cell F) : Type 0 where
  pub digest : Digest32
  pub is : c ≡ cell.Out digest

pub out_at_rest : {F : Type 0} (c : Cell F) → kind_of c ≡ kind.Out → mover_of c ≡ None → IsOut c
out_at_rest (cell.Out digest) out rests = record { digest = digest; is = refl }
out_at_rest c out rests = absurd cc

-- the first free frame is zero, and the others are free afterwards
pub record IsFirst (size : ℕ) (free : List ℕ) (frame : FrameState) : Type 0 where
  pub is_zero : zero_frame size frame.number ≡ frame
  pub free_is : free ≡ frame.number ∷ rest_of free

pub first_is : (size : ℕ) (free : List ℕ) (frame : FrameState) → first_of size free ≡ Some frame → IsFirst size free frame
first_is size [] frame first = absurd cc
first_is size (number ∷ more) frame first =
    let same : zero_frame size number ≡ frame = cc in
    record { is_zero = subst (λ (one : FrameState). zero_frame size one.number ≡ one) same refl; free_is = ap (λ (one : FrameState). one.number ∷ more) same }

module _ {S : Type 0} (old : Guest S) (cpu : Cpu) (call : PageCall) (route : Route) (frame : FrameState) (pool : PoolState) (is : IsRouteIn (record old { steps = old.steps + 1 }) call route) (first : first_free pool ≡ Some frame) where
  -- the page
  abbrev pub page : Page FrameState
  page = record (page_at old.pages route.gfn) { cell = cell.MovesIn frame cpu.number (digest_at old.pages route.gfn) }

  -- what it had: a digest
  pub out : IsOut (cell_at old.pages route.gfn)
  out = out_at_rest (cell_at old.pages route.gfn) is.kind_is is.rests

  -- what it has: the frame, its mover, and that digest
  pub cell_is : page.cell ≡ cell.MovesIn frame cpu.number (Some out.digest)
  cell_is = ap (λ (c : Cell FrameState). cell.MovesIn frame cpu.number (digest_of c)) out.is

  -- the guest afterwards
  abbrev pub coming : Guest S
  coming = stepped_with old route.gfn page old.pages.order old.sealer

  -- its page had no mover
  pub movers : KeepsMovers cpu.number old coming
  movers = movers_with old route.gfn page old.pages.order old.sealer is.below cpu.number (λ mover other e. (let none = is.rests in cc))

  -- the frame was free
  pub frames : KeepsFrames old coming pool (without_first pool)
  frames = record { count = refl; size = refl; frames = each } where
    each : (number : ℕ) → times_held coming number + times_free (without_first pool) number ≡ times_held old number + times_free pool number
    each number =
        let test : FrameState → Bool = λ one. one.number == number in
        let set : count_by test (held (with_page old.pages route.gfn page)) + count_in test (frame_at old.pages route.gfn) ≡ count_by test (held old.pages) + count_in test (frame_in page.cell) = frames-set old.pages route.gfn page test is.below in
        let left : count_in test (frame_at old.pages route.gfn) ≡ 0 = ap (λ (c : Cell FrameState). count_in test (frame_in c)) out.is in
        let came : count_in test (frame_in page.cell) ≡ once frame.number number = refl in
        let free : times_free pool number ≡ once frame.number number + times_free (without_first pool) number =
        ap (count_by (λ n. n == number)) (first_is pool.size pool.free frame first).free_is ∙ sum_by-cons (λ (n : ℕ). if n == number then 1 else 0) frame.number (rest_of pool.free) in
        omega (arith, set, left, came, free)

  pub whole : (takes : S → ℕ → ℕ → Type 0) → IsPoolOf old pool → frame.number < pool.count → IsWhole takes old → IsWhole takes coming
  whole takes pool_of below old_whole =
      whole_with old route.gfn page old.pages.order old.sealer is.below takes old_whole
      (λ outside. (let none = (old_whole.outside outside route.gfn).0 in let there = is.kind_is in cc)) (λ n size takes_it. takes_it) (record {
        frames = λ one e. subst (IsFrameOf (2 ^ old.shift) old.secure) (let same : frame ≡ one = cc in same) (record {
          length_is = sym (ap (λ (zero : FrameState). length zero.bytes) (first_is pool.size pool.free frame first).is_zero) ∙ length-replicate pool.size 0 ∙ pool_of.size;
          number = subst (λ (count : ℕ). frame.number < count) pool_of.count below;
        });
        shared = λ one fresh e. absurd (let there = ap kind_of cell_is in cc);
        rests = λ secure invalid. absurd (let there = ap kind_of cell_is in cc);
        digests = λ outward. absurd cc;
        version = (let few = old_whole.versions route.gfn in omega arith);
      })

  -- a CPU moves the page of the guest from now on, from the normal frame
  pub comes : (cpu_new : Cpu) → cpu_new.number ≡ cpu.number →
      WorksAt coming cpu_new (ctx.Uv (Inward (record { lpid = old.lpid; generation = old.generation; gfn = route.gfn; frame = route.frame; copied = false })))
  comes cpu_new same = record {
    lpid = refl;
    generation = refl;
    mover = here ∙ ap (λ (n : ℕ). Some (record { cpu = n; way = way.Inward })) (sym same);
    frame = is.normal;
  } where
    here : mover_at (with_page old.pages route.gfn page) route.gfn ≡ Some (record { cpu = cpu.number; way = way.Inward })
    here = each_with_page (λ (n : ℕ) (one : Page FrameState). n ≡ route.gfn → mover_of one.cell ≡ Some (record { cpu = cpu.number; way = way.Inward })) old.pages route.gfn page is.below
        (λ same. refl) (λ n other same. absurd (other same)) route.gfn refl
