-- A whole guest stays whole where one of its pages changes.
use Rattle.std.proofs.Common.{◌≡◌, ◌≢◌, ◌↔◌, ℕ, ◌+◌, ◌^◌, ◌<◌, ◌≤◌, Bool, List, length, slice_set, Some, None, IsSome, arith, refl, sym, subst, inl}
use Rattle.std.proofs.lemmas.List.{length-set}
use Rattle.pef_model.specs.declared.state.Phase.{Phase}
use Rattle.pef_model.specs.declared.state.Phase.TheVariants as phase
use Rattle.pef_model.specs.declared.state.Kind.TheVariants as kind
use Rattle.pef_model.specs.declared.state.Mover.{Mover}
use Rattle.pef_model.specs.declared.state.Way.TheVariants.{Outward}
use Rattle.pef_frames.specs.Frame.{FrameState}
use Rattle.pef_pages.specs.declared.page.Page.{Page}
use Rattle.pef_pages.specs.Cells.{kind_of, mover_of, way_of, frame_in}
use Rattle.pef_pages.specs.Pages.{page_at, mover_at, with_page}
use Rattle.pef_guest.specs.declared.guest.Guest.{Guest}
use Rattle.pef_guest.specs.Keeps.{KeepsGuest, KeepsMovers}
use Rattle.pef_guest.specs.Shows.{kept_in}
use Rattle.pef_guest.specs.Whole.{IsFrameOf, IsOutside, IsWhole}
use Rattle.pef_guest.proofs.OnePage.{each_with_page}

-- a page of a whole guest
pub record IsWholePage (size normal secure steps : ℕ) (life : Phase) (page : Page FrameState) : Type 0 where
  pub shared : (frame : ℕ) (fresh : Bool) → kind_of page.cell ≡ kind.Shared (Some frame) fresh → frame < normal
  pub frames : (frame : FrameState) → frame_in page.cell ≡ Some frame → IsFrameOf size secure frame
  pub rests : life ≡ phase.Secure → kind_of page.cell ≡ kind.Invalid → mover_of page.cell ≡ None
  pub digests : way_of (mover_of page.cell) ≡ Some Outward → IsSome (kept_in page.cell) ↔ (life ≡ phase.Secure)
  pub version : page.version ≤ steps

module _ {S : Type 0} (old : Guest S) (gfn : ℕ) (page : Page FrameState) (order : List ℕ) (sealer : S) where
  -- the guest with another page, one step later
  abbrev pub stepped_with : Guest S
  stepped_with = record old { pages = record { pages = slice_set old.pages.pages gfn page; order = order }; sealer = sealer; steps = old.steps + 1 }

  -- it keeps its sizes
  pub keeps_with : KeepsGuest old stepped_with
  keeps_with = record {
    lpid = refl;
    shift = refl;
    normal = refl;
    secure = refl;
    pages = length-set old.pages.pages gfn page;
    vcpus = refl;
    generation = omega arith;
    phase = λ same. inl refl;
    steps = refl;
  }

  module _ (below : gfn < length old.pages.pages) where
    -- it keeps each mover of another CPU, where the page has none
    pub movers_with : (cpu : ℕ) → ((mover : Mover) → mover.cpu ≢ cpu → mover_at old.pages gfn ≡ Some mover → mover_of page.cell ≡ Some mover) → KeepsMovers cpu old stepped_with
    movers_with cpu here n mover same other =
        each_with_page (λ (k : ℕ) (one : Page FrameState). mover_at old.pages k ≡ Some mover → mover_of one.cell ≡ Some mover) old.pages gfn page below
        (here mover other) (λ k there e. e) n

    -- it is whole, where the page is
    pub whole_with : (takes : S → ℕ → ℕ → Type 0) → IsWhole takes old → (IsOutside old.phase → ⊥) → ((n size : ℕ) → takes old.sealer n size → takes sealer n size) →
        IsWholePage (2 ^ old.shift) old.normal old.secure (old.steps + 1) old.phase page → IsWhole takes stepped_with
    whole_with takes whole inside same is = record {
      shift = whole.shift;
      entry = record { pages_fit = subst (λ (k : ℕ). old.entry.dw1 ≤ k) (sym (length-set old.pages.pages gfn page)) whole.entry.pages_fit; frames_fit = whole.entry.frames_fit };
      lives = omega (arith, whole.lives);
      vcpus = whole.vcpus;
      shared = λ n. (each n).shared;
      served = λ n less. same n (2 ^ old.shift) (whole.served n (subst (λ (k : ℕ). n < k) (length-set old.pages.pages gfn page) less));
      frames = λ n. (each n).frames;
      outside = λ out. absurd (inside out);
      rests = λ secure n. (each n).rests secure;
      digests = λ n. (each n).digests;
      versions = λ n. (each n).version;
    } where
      each : (n : ℕ) → IsWholePage (2 ^ old.shift) old.normal old.secure (old.steps + 1) old.phase (page_at (with_page old.pages gfn page) n)
      each = each_with_page (λ (k : ℕ). IsWholePage (2 ^ old.shift) old.normal old.secure (old.steps + 1) old.phase) old.pages gfn page below is
          (λ n there. record {
            shared = whole.shared n;
            frames = whole.frames n;
            rests = λ secure. whole.rests secure n;
            digests = whole.digests n;
            version = (let few = whole.versions n in omega arith);
          })
