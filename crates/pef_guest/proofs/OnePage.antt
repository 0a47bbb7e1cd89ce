-- A guest of which one page changes: what it shows of the model's guest with that page changed.
use Rattle.std.proofs.Common.{◌≡◌, ◌≢◌, ℕ, ◌%◌, ◌^◌, ◌<◌, ◌==◌, ◌↔◌, Bool, false, if◌then◌else◌, List, length, slice_set, Option, Some, IsSome, option_map, ◌⊎◌, inl, inr, arith, ap, sym, subst, ◌∙◌}
use Rattle.std.proofs.lemmas.List.{length-set, get_or-set_same, get_or-set_other}
use Rattle.std.proofs.lemmas.Bool.{cases_eq}
use Rattle.std.proofs.lemmas.Bool.Decides.{nat_tests}
use Rattle.pef_model.specs.declared.state.Kind.TheVariants as kind
use Rattle.pef_model.specs.declared.state.Tag.{Tag}
use Rattle.pef_model.specs.declared.state.Way.TheVariants.{Outward}
use Rattle.pef_model.specs.Plan.{Plan}
use Rattle.pef_model.specs.GuestPart.{Page as PagePart, page_of, put}
use Rattle.pef_model.specs.Guest.{Guest as GuestWhole}
use Rattle.pef_model.specs.PageOut.{tag_of, private_page}
use Rattle.pef_model.proofs.Folds.{same_test}
use Rattle.pef_frames.specs.Frame.{FrameState}
use Rattle.pef_pages.specs.declared.page.Page.{Page}
use Rattle.pef_pages.specs.Cells.{kind_of, mover_of, way_of, frame_in}
use Rattle.pef_pages.specs.Pages.{PagesState, invalid_page, page_at, mover_at, with_page}
use Rattle.pef_guest.specs.declared.guest.Guest.{Guest}
use Rattle.pef_guest.specs.Shows.{HoldsPage, IsZeroPage, kept_in, sealed_of, digest_by, Shows}

-- what holds of the page that is put, and of every other, holds of each afterwards
pub each_with_page : {F : Type 0} (P : ℕ → Page F → Type 0) (pages : PagesState F) (gfn : ℕ) (page : Page F) → gfn < length pages.pages →
    P gfn page → ((n : ℕ) → n ≢ gfn → P n (page_at pages n)) → (n : ℕ) → P n (page_at (with_page pages gfn page) n)
each_with_page P pages gfn page below here there n = by_case (cases_eq n gfn) where
  by_case : (n ≡ gfn) ⊎ (n ≢ gfn) → P n (page_at (with_page pages gfn page) n)
  by_case (inl same) = subst (λ (m : ℕ). P m (page_at (with_page pages gfn page) m)) (sym same) (subst (P gfn) (sym (get_or-set_same pages.pages gfn page invalid_page below)) here)
  by_case (inr other) = subst (P n) (sym (get_or-set_other pages.pages gfn n page invalid_page other)) (there n other)

module _ {X : Type 0} (f : ℕ → X) (at : ℕ) (x : X) where
  -- a function with another value at one place has it there, and its own elsewhere
  pub put_here : put f at x at ≡ x
  put_here = ap (λ (b : Bool). if b then x else f at) (same_test at)

  pub put_there : (n : ℕ) → n ≢ at → put f at x n ≡ f n
  put_there n other = ap (λ (b : Bool). if b then x else f n) (let test : (n == at) ≡ false = grind (arith, nat_tests) in test)

-- the model's guest with another page
abbrev pub with_part : GuestWhole → ℕ → PagePart → List ℕ → Bool → GuestWhole
with_part g gfn page order clean = record g { part = record g.part { pages = put g.part.pages gfn page; order = order }; clean = clean }

module _ {S : Type 0} (stands : S → Tag → List ℕ → List ℕ → Type 0) (image : S → Tag → List ℕ → List ℕ) (plan : Plan) (old : Guest S) (g : GuestWhole) (gfn : ℕ) (page : Page FrameState) (part : PagePart) (order order_part : List ℕ) (sealer : S) (steps : ℕ) where
  -- a guest with another page
  abbrev pub guest_with : Guest S
  guest_with = record old { pages = record { pages = slice_set old.pages.pages gfn page; order = order }; sealer = sealer; steps = steps }

  -- a page and a sealer that are to stand for a page of the model
  pub record IsShownPage : Type 0 where
    pub kind_is : kind_of page.cell ≡ part.kind
    pub mover_is : mover_of page.cell ≡ part.mover
    pub version_is : page.version ≡ part.version
    pub digest_is : kept_in page.cell ≡ option_map digest_by (sealed_of part)
    pub pending_is : (way_of (mover_of page.cell) ≡ Some Outward) ↔ IsSome part.pending
    pub order_is : order ≡ order_part
    -- the frame of a Secure page is the one that it had
    pub frame_is : (frame : FrameState) → kind_of page.cell ≡ kind.Secure → frame_in page.cell ≡ Some frame → HoldsPage plan g gfn frame
    pub zero_is : kind_of page.cell ≡ kind.Invalid → IsZeroPage plan g gfn
    pub images : image sealer ≡ image old.sealer
    pub stands_here : (sealed : List ℕ) → sealed_of part ≡ Some sealed → stands sealer (tag_of g.part old.lpid gfn part.version) (private_page plan g gfn) sealed
    -- each of its last stores has 64 bits
    pub words_here : (sealed : List ℕ) → sealed_of part ≡ Some sealed → (gpa : ℕ) → gpa % 8 ≡ 0 → page_of plan gpa ≡ gfn → g.content gpa < 2 ^ 64
    pub stands_there : (tag : Tag) (plain sealed : List ℕ) → tag.gfn ≢ gfn → stands old.sealer tag plain sealed → stands sealer tag plain sealed

  module _ (clean : Bool) (shows : Shows stands image plan old g) (below : gfn < length old.pages.pages) (is : IsShownPage) where
    -- the model's guest afterwards
    abbrev next : GuestWhole
    next = with_part g gfn part order_part clean

    -- what the model's guest says of a page
    record Fits (n : ℕ) (one : Page FrameState) : Type 0 where
      kind_is : n < plan.pages → kind_of one.cell ≡ (next.part.pages n).kind
      mover_is : n < plan.pages → mover_of one.cell ≡ (next.part.pages n).mover
      version_is : n < plan.pages → one.version ≡ (next.part.pages n).version
      digest_is : n < plan.pages → kept_in one.cell ≡ option_map digest_by (sealed_of (next.part.pages n))
      pending_is : n < plan.pages → (way_of (mover_of one.cell) ≡ Some Outward) ↔ IsSome (next.part.pages n).pending
      holds : (frame : FrameState) → kind_of one.cell ≡ kind.Secure → frame_in one.cell ≡ Some frame → HoldsPage plan next n frame
      zeros : kind_of one.cell ≡ kind.Invalid → IsZeroPage plan next n
      stands_for : (sealed : List ℕ) → n < plan.pages → sealed_of (next.part.pages n) ≡ Some sealed →
          stands sealer (tag_of next.part old.lpid n (next.part.pages n).version) (private_page plan next n) sealed

    here : Fits gfn page
    here =
        let put : next.part.pages gfn ≡ part = put_here g.part.pages gfn part in
        record {
          kind_is = λ less. is.kind_is ∙ sym (ap (λ (p : PagePart). p.kind) put);
          mover_is = λ less. is.mover_is ∙ sym (ap (λ (p : PagePart). p.mover) put);
          version_is = λ less. is.version_is ∙ sym (ap (λ (p : PagePart). p.version) put);
          digest_is = λ less. is.digest_is ∙ sym (ap (λ (p : PagePart). option_map digest_by (sealed_of p)) put);
          pending_is = λ less. subst (λ (pending : Option (List ℕ)). (way_of (mover_of page.cell) ≡ Some Outward) ↔ IsSome pending) (sym (ap (λ (p : PagePart). p.pending) put)) is.pending_is;
          holds = is.frame_is;
          zeros = is.zero_is;
          stands_for = λ sealed less e. rw put (is.stands_here sealed (sym (ap sealed_of put) ∙ e));
        }

    there : (n : ℕ) → n ≢ gfn → Fits n (page_at old.pages n)
    there n other =
        let put : next.part.pages n ≡ g.part.pages n = put_there g.part.pages gfn part n other in
        record {
          kind_is = λ less. shows.pages.kinds n less ∙ sym (ap (λ (p : PagePart). p.kind) put);
          mover_is = λ less. shows.pages.movers n less ∙ sym (ap (λ (p : PagePart). p.mover) put);
          version_is = λ less. shows.sealed.versions n less ∙ sym (ap (λ (p : PagePart). p.version) put);
          digest_is = λ less. shows.sealed.digests n less ∙ sym (ap (λ (p : PagePart). option_map digest_by (sealed_of p)) put);
          pending_is = λ less. subst (λ (pending : Option (List ℕ)). (way_of (mover_at old.pages n) ≡ Some Outward) ↔ IsSome pending) (sym (ap (λ (p : PagePart). p.pending) put)) (shows.sealed.pendings n less);
          holds = shows.pages.holds n;
          zeros = shows.pages.zeros n;
          stands_for = λ sealed less e. rw put (is.stands_there (tag_of g.part old.lpid n (g.part.pages n).version) (private_page plan g n) sealed other (shows.sealed.stands_for n sealed less (sym (ap sealed_of put) ∙ e)));
        }

    -- each last store of a page of which something is sealed has 64 bits
    words : (gpa : ℕ) (sealed : List ℕ) → gpa % 8 ≡ 0 → page_of plan gpa < plan.pages → sealed_of (next.part.pages (page_of plan gpa)) ≡ Some sealed → next.content gpa < 2 ^ 64
    words gpa sealed aligned less e = by_case (cases_eq (page_of plan gpa) gfn) where
      by_case : (page_of plan gpa ≡ gfn) ⊎ (page_of plan gpa ≢ gfn) → g.content gpa < 2 ^ 64
      by_case (inl at) = is.words_here sealed (sym (ap sealed_of (ap next.part.pages at ∙ put_here g.part.pages gfn part)) ∙ e) gpa aligned at
      by_case (inr other) = shows.sealed.words gpa sealed aligned less (sym (ap sealed_of (put_there g.part.pages gfn part (page_of plan gpa) other)) ∙ e)

    each : (n : ℕ) → Fits n (page_at (with_page old.pages gfn page) n)
    each = each_with_page Fits old.pages gfn page below here there

    -- the guest shows the model's guest with that page
    pub shows_with : Shows stands image plan guest_with next
    shows_with = record {
      shift = shows.shift;
      normal = shows.normal;
      phase = shows.phase;
      generation = shows.generation;
      entry = shows.entry;
      slots = shows.slots;
      words = shows.words;
      words_left = shows.words_left;
      pages = record {
        count = length-set old.pages.pages gfn page ∙ shows.pages.count;
        kinds = λ n. (each n).kind_is;
        movers = λ n. (each n).mover_is;
        order = is.order_is;
        holds = λ n frame. (each n).holds frame;
        zeros = λ n. (each n).zeros;
      };
      sealed = record {
        images = is.images ∙ shows.sealed.images;
        versions = λ n. (each n).version_is;
        digests = λ n. (each n).digest_is;
        stands_for = λ n sealed. (each n).stands_for sealed;
        words = words;
        pendings = λ n. (each n).pending_is;
      };
      count = shows.count;
      vcpus = shows.vcpus;
    }

-- a guest that only counts a step shows what it did
pub shows_counted : {S : Type 0} {clean : Bool} (stands : S → Tag → List ℕ → List ℕ → Type 0) (image : S → Tag → List ℕ → List ℕ) (plan : Plan) (old : Guest S) (g : GuestWhole) (steps : ℕ) →
    Shows stands image plan old g → Shows stands image plan (record old { steps = steps }) (record g { clean = clean })
shows_counted stands image plan old g steps shows = record {
  shift = shows.shift;
  normal = shows.normal;
  phase = shows.phase;
  generation = shows.generation;
  entry = shows.entry;
  slots = shows.slots;
  words = shows.words;
  words_left = shows.words_left;
  pages = record { count = shows.pages.count; kinds = shows.pages.kinds; movers = shows.pages.movers; order = shows.pages.order; holds = shows.pages.holds; zeros = shows.pages.zeros };
  sealed = record { images = shows.sealed.images; versions = shows.sealed.versions; digests = shows.sealed.digests; stands_for = shows.sealed.stands_for; words = shows.sealed.words; pendings = shows.sealed.pendings };
  count = shows.count;
  vcpus = shows.vcpus;
}
