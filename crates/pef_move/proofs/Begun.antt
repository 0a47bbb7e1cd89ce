-- A page that begins to move: its guest stays whole, and moves it into a normal frame.
use Rattle.std.proofs.Common.{◌≡◌, ◌≢◌, ◌↔◌, ℕ, ◌+◌, ◌/◌, ◌^◌, ◌<◌, ◌==◌, Bool, List, count_by, Some, None, IsSome, arith, refl, ap, sym, subst, ◌∙◌}
use Rattle.pef_model.specs.declared.state.Kind.TheVariants as kind
use Rattle.pef_model.specs.declared.state.Way.TheVariants as way
use Rattle.pef_model.specs.declared.state.Tag.{Tag}
use Rattle.pef_frames.specs.Frame.{FrameState}
use Rattle.pef_pages.specs.declared.cell.Cell.{Cell}
use Rattle.pef_pages.specs.declared.cell.Cell.TheVariants as cell
use Rattle.pef_pages.specs.declared.page.Page.{Page}
use Rattle.pef_pages.specs.Cells.{kind_of, mover_of, frame_in, begun_out}
use Rattle.pef_pages.specs.Pages.{cell_at, mover_at, frame_at, with_page, held}
use Rattle.pef_pages.specs.Laws.{count_in}
use Rattle.pef_pages.proofs.Frames.{frames-set}
use Rattle.pef_guest.specs.declared.cpu.Cpu.{Cpu}
use Rattle.pef_guest.specs.declared.guest.Guest.{Guest}
use Rattle.pef_guest.specs.Keeps.{KeepsGuest, KeepsMovers, times_held}
use Rattle.pef_guest.specs.Shows.{kept_in, digest_by}
use Rattle.pef_guest.specs.Whole.{IsOutside, IsWhole}
use Rattle.pef_move.specs.declared.page_call.PageCall.{PageCall}
use Rattle.pef_move.specs.declared.route.Route.{Route}
use Rattle.pef_move.specs.Route.{page_begun, IsRoute, HasBegun}
use Rattle.pef_guest.proofs.OnePage.{each_with_page}
use Rattle.pef_guest.proofs.Wholes.{stepped_with, keeps_with, movers_with, whole_with}
use Rattle.pef_guest.specs.Ready.{WorksAt}

-- a page that is Secure and at rest has its frame, and nothing else
pub at_rest : {F : Type 0} (c : Cell F) (frame : F) → kind_of c ≡ kind.Secure → mover_of c ≡ None → frame_in c ≡ Some frame → c ≡ cell.Secure frame
at_rest (cell.Secure old) frame secure rests there = let same : old ≡ frame = cc in ap cell.Secure same
at_rest (cell.MovesOut old cpu digest) frame secure rests there = cc
at_rest (cell.MovesIn old cpu digest) frame secure rests there = cc
at_rest cell.Invalid frame secure rests there = cc
at_rest (cell.Out digest) frame secure rests there = cc
at_rest (cell.Shared normal) frame secure rests there = cc
at_rest (cell.Unbacked fresh) frame secure rests there = cc

module _ {S : Type 0} (stands : S → Tag → List ℕ → List ℕ → Type 0) (image : S → Tag → List ℕ → List ℕ) (takes : S → ℕ → ℕ → Type 0) (old new : Guest S) (cpu cpu_new : Cpu) (gpr : List ℕ) (call : PageCall) (route : Route)
    (is : IsRoute (record old { steps = old.steps + 1 }) call route) (begun : HasBegun stands image takes route (record old { steps = old.steps + 1 }) new (record cpu { gpr = gpr }) cpu_new) where
  -- the page
  abbrev pub page : Page FrameState
  page = page_begun old.pages route.gfn cpu.number cpu_new.hand

  -- what it has: its frame, its mover, and the digest that it is to have
  pub cell_is : page.cell ≡ cell.MovesOut begun.frame cpu.number (Some (digest_by cpu_new.hand))
  cell_is = ap (λ (c : Cell FrameState). begun_out c cpu.number (Some (digest_by cpu_new.hand))) (at_rest (cell_at old.pages route.gfn) begun.frame is.kind_is is.rests begun.there)

  -- the guest is the one with that page
  pub guest_is : new ≡ stepped_with old route.gfn page old.pages.order new.sealer
  guest_is = begun.guest_is

  pub keeps : KeepsGuest old new
  keeps = subst (KeepsGuest old) (sym guest_is) (keeps_with old route.gfn page old.pages.order new.sealer)

  -- its page had no mover
  pub movers : KeepsMovers cpu.number old new
  movers = subst (KeepsMovers cpu.number old) (sym guest_is) (movers_with old route.gfn page old.pages.order new.sealer is.below cpu.number (λ mover other e. (let none = is.rests in cc)))

  -- the page keeps its frame
  pub frames : (number : ℕ) → times_held new number ≡ times_held old number
  frames number =
      let test : FrameState → Bool = λ frame. frame.number == number in
      let set : count_by test (held (with_page old.pages route.gfn page)) + count_in test (frame_at old.pages route.gfn) ≡ count_by test (held old.pages) + count_in test (frame_in page.cell) = frames-set old.pages route.gfn page test is.below in
      let same : count_in test (frame_at old.pages route.gfn) ≡ count_in test (frame_in page.cell) = ap (count_in test) (begun.there ∙ sym (ap frame_in cell_is)) in
      ap (λ (guest : Guest S). times_held guest number) guest_is ∙ omega (arith, set, same)

  pub whole : IsWhole takes old → IsWhole takes new
  whole old_whole =
      subst (IsWhole takes) (sym guest_is) (whole_with old route.gfn page old.pages.order new.sealer is.below takes old_whole
      (λ outside. subst IsOutside is.phase_is outside) (λ n size. (begun.same_takes n size).1) (record {
        frames = λ frame e. old_whole.frames route.gfn frame (begun.there ∙ sym (ap frame_in cell_is) ∙ e);
        shared = λ one fresh e. absurd (let k = ap kind_of cell_is in cc);
        rests = λ secure e. (let k = ap kind_of cell_is in cc);
        digests = λ outward. (λ some. is.phase_is, λ secure. subst IsSome (sym (ap kept_in cell_is)) refl);
        version = (let few = old_whole.versions route.gfn in omega arith);
      }))

  -- a CPU moves the page of the guest from now on, into the normal frame
  pub leaves : WorksAt new cpu_new cpu_new.ctx
  leaves = subst (WorksAt new cpu_new) (sym (ap (λ (one : Cpu). one.ctx) begun.cpu_is)) (record {
    lpid = sym (ap (λ (guest : Guest S). guest.lpid) guest_is);
    generation = sym (ap (λ (guest : Guest S). guest.generation) guest_is);
    mover = ap (λ (guest : Guest S). mover_at guest.pages route.gfn) guest_is ∙ here ∙ ap (λ (one : Cpu). Some (record { cpu = one.number; way = way.Outward })) (sym begun.cpu_is);
    frame = subst (λ (guest : Guest S). route.frame < guest.normal) (sym guest_is) is.normal;
  }) where
    here : mover_at (with_page old.pages route.gfn page) route.gfn ≡ Some (record { cpu = cpu.number; way = way.Outward })
    here = each_with_page (λ (n : ℕ) (one : Page FrameState). n ≡ route.gfn → mover_of one.cell ≡ Some (record { cpu = cpu.number; way = way.Outward })) old.pages route.gfn page is.below
        (λ same. ap mover_of cell_is) (λ n other same. absurd (other same)) route.gfn refl

  -- what stands for another page stays
  pub sealers : (tag : Tag) (page sealed : List ℕ) → tag.gfn ≢ call.gpa / 2 ^ old.shift → stands new.sealer tag page sealed ↔ stands old.sealer tag page sealed
  sealers tag page sealed other = begun.others tag page sealed (λ same. other (same ∙ is.gfn_is))
