-- A guest is whole as it begins.
use Rattle.std.proofs.Common.{◌≡◌, ℕ, zero, suc, ◌+◌, ◌/◌, ◌^◌, ◌<◌, ◌≤◌, length, refl, ap, sym, subst, ◌∙◌, arith}
use Rattle.std.proofs.lemmas.List.{length-replicate}
use Rattle.std.proofs.Math.Nat.{div-le_self}
use Rattle.pef_model.specs.Plan.{IsWithin}
use Rattle.pef_frames.specs.Frame.{FrameState}
use Rattle.pef_pages.specs.declared.page.Page.{Page}
use Rattle.pef_pages.specs.Cells.{kind_of, mover_of, way_of, frame_in}
use Rattle.pef_pages.specs.Pages.{PagesState, invalid_page, invalid_pages, page_at}
use Rattle.pef_guest.specs.declared.guest.Guest.{Guest}
use Rattle.pef_guest.specs.Start.{no_pate}
use Rattle.pef_guest.specs.Whole.{IsWhole}

-- each page of a guest is Invalid, whatever its number
pub page_begun : (count gfn : ℕ) → page_at {F = FrameState} (invalid_pages count) gfn ≡ invalid_page
page_begun zero gfn = refl
page_begun (suc count) zero = refl
page_begun (suc count) (suc gfn) = page_begun count gfn

pub whole_begun : {S : Type 0} (takes : S → ℕ → ℕ → Type 0) (guest : Guest S) (count : ℕ) → IsWithin 8 16 guest.shift → ((gfn : ℕ) → gfn < count → takes guest.sealer gfn (2 ^ guest.shift)) →
    guest.pages ≡ invalid_pages count → guest.entry ≡ no_pate → guest.generation ≡ 1 → guest.steps ≡ 0 → length guest.vcpus.items ≤ 2 ^ 8 → IsWhole takes guest
whole_begun takes guest count shift serves pages entry first none few = record {
  shift = shift;
  served = λ gfn less. serves gfn (subst (λ (n : ℕ). gfn < n) (ap (λ (p : PagesState FrameState). length p.pages) pages ∙ length-replicate count invalid_page) less);
  frames = λ gfn frame is. absurd (let two = sym (ap (λ (p : Page FrameState). frame_in p.cell) (at gfn)) ∙ is in cc);
  entry = rw entry (record { pages_fit = omega arith; frames_fit = zero_over guest.shift });
  lives = omega (arith, first, none);
  vcpus = few;
  shared = λ gfn frame fresh is. absurd (let two = sym (ap (λ (p : Page FrameState). kind_of p.cell) (at gfn)) ∙ is in cc);
  outside = λ out gfn. (ap (λ (p : Page FrameState). kind_of p.cell) (at gfn), ap (λ (p : Page FrameState). mover_of p.cell) (at gfn));
  rests = λ secure gfn invalid. ap (λ (p : Page FrameState). mover_of p.cell) (at gfn);
  digests = λ gfn outward. absurd (let two = sym (ap (λ (p : Page FrameState). way_of (mover_of p.cell)) (at gfn)) ∙ outward in cc);
  versions = λ gfn. (let zero_is = ap (λ (p : Page FrameState). p.version) (at gfn) in omega arith);
} where
  at : (gfn : ℕ) → page_at guest.pages gfn ≡ invalid_page
  at gfn = ap (λ (p : PagesState FrameState). page_at p gfn) pages ∙ page_begun count gfn

  -- no frame from frame 0 on
  zero_over : (s : ℕ) → 0 / 2 ^ s + 0 ≤ guest.normal
  zero_over s = (let none = div-le_self 0 (2 ^ s) in omega arith)
