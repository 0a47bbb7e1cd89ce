-- An access keeps what is needed to have those pages back that are Out.
use Rattle.std.proofs.Common.{◌≡◌, ◌≢◌, ℕ, ◌<◌, ◌^◌, Bool, true, false, if◌then◌else◌, List, Option, Some, None, IsSome, option_map, ◌⊎◌, inl, inr, refl, ap, sym, subst, ◌∙◌}
use Rattle.std.proofs.lemmas.Bool.{cases_eq}
use Rattle.pef_model.specs.declared.state.Regs.{Regs}
use Rattle.pef_model.specs.declared.state.Tag.{Tag}
use Rattle.pef_model.specs.Plan.{Plan}
use Rattle.pef_model.specs.GuestPart.{Page, page_of, put, secured, with_secure_page}
use Rattle.pef_model.specs.Guest.{Guest as GuestWhole}
use Rattle.pef_model.specs.PageOut.{tag_of, private_page}
use Rattle.pef_frames.specs.Frame.{FrameState}
use Rattle.pef_pages.specs.Cells.{way_of}
use Rattle.pef_pages.specs.Pages.{PagesState, cell_at}
use Rattle.pef_regs.specs.declared.vcpu.Vcpu.{Vcpu}
use Rattle.pef_guest.specs.declared.guest.Guest.{Guest}
use Rattle.pef_guest.specs.Shows.{kept_in, digest_by, first_there, sealed_of, ShowsSealed}
use Rattle.pef_access.proofs.SamePage.{same_page_bytes}
use Rattle.pef_access.proofs.AccessPages.{AreLikePages}
use Rattle.pef_guest.proofs.OneVcpu.{with_step}
use Rattle.pef_model.proofs.Puts.{put-here, put-other}

-- a guest of the model has the pages that are sealed as before, and their tags
pub record KeepsSealed (plan : Plan) (old new : GuestWhole) : Type 0 where
  pub generation : new.part.generation ≡ old.part.generation
  pub versions : (gfn : ℕ) → (new.part.pages gfn).version ≡ (old.part.pages gfn).version
  pub sealed : (gfn : ℕ) → sealed_of (new.part.pages gfn) ≡ sealed_of (old.part.pages gfn)
  pub pending : (gfn : ℕ) → (new.part.pages gfn).pending ≡ (old.part.pages gfn).pending
  pub doublewords : (gpa : ℕ) (bytes : List ℕ) → sealed_of (old.part.pages (page_of plan gpa)) ≡ Some bytes → new.content gpa ≡ old.content gpa

-- a page of which something is sealed has the bytes that it had
private_stays : (plan : Plan) (old new : GuestWhole) (gfn : ℕ) (bytes : List ℕ) → KeepsSealed plan old new → sealed_of (old.part.pages gfn) ≡ Some bytes → private_page plan new gfn ≡ private_page plan old gfn
private_stays plan old new gfn bytes keeps is =
    same_page_bytes plan.shift (new.content) (old.content) gfn (λ gpa page. keeps.doublewords gpa bytes (ap (λ (n : ℕ). sealed_of (old.part.pages n)) page ∙ is))

-- the guest a step later keeps what it needs, where each page is like the one before
pub keeps_sealed : {S : Type 0} (stands : S → Tag → List ℕ → List ℕ → Type 0) (image : S → Tag → List ℕ → List ℕ) (plan : Plan) (old : Guest S) (g new : GuestWhole) (pages : PagesState FrameState) (vid : ℕ) (vcpu : Vcpu) →
    ShowsSealed stands image plan old g → AreLikePages old.pages pages → KeepsSealed plan g new → ShowsSealed stands image plan (with_step old pages vid vcpu) new
keeps_sealed stands image plan old g new pages vid vcpu shows like keeps = record {
  images = shows.images;
  versions = λ gfn below. (like.each gfn).version ∙ shows.versions gfn below ∙ sym (keeps.versions gfn);
  digests = λ gfn below. (like.each gfn).kept ∙ shows.digests gfn below ∙ sym (ap (option_map digest_by) (keeps.sealed gfn));
  stands_for = λ gfn sealed below is.
      let was : sealed_of (g.part.pages gfn) ≡ Some sealed = sym (keeps.sealed gfn) ∙ is in
      let tag : tag_of new.part old.lpid gfn (new.part.pages gfn).version ≡ tag_of g.part old.lpid gfn (g.part.pages gfn).version =
      λ i. record { lpid = old.lpid; generation = keeps.generation i; gfn = gfn; version = keeps.versions gfn i } in
      subst (λ (t : Tag). stands old.sealer t (private_page plan new gfn) sealed) (sym tag)
      (subst (λ (page : List ℕ). stands old.sealer (tag_of g.part old.lpid gfn (g.part.pages gfn).version) page sealed) (sym (private_stays plan g new gfn sealed keeps was)) (shows.stands_for gfn sealed below was));
  words = λ gpa sealed aligned below is.
      let was : sealed_of (g.part.pages (page_of plan gpa)) ≡ Some sealed = sym (keeps.sealed (page_of plan gpa)) ∙ is in
      subst (λ (value : ℕ). value < 2 ^ 64) (sym (keeps.doublewords gpa sealed was)) (shows.words gpa sealed aligned below was);
  pendings = λ gfn below.
      let was = shows.pendings gfn below in
      let same = ap way_of (like.each gfn).mover in
      (λ outward. subst IsSome (sym (keeps.pending gfn)) (was.0 (sym same ∙ outward)), λ there. same ∙ was.1 (subst IsSome (keeps.pending gfn) there));
}

-- nothing was made of what isn't there
none_before : {X Y : Type 0} (f : X → Y) (o : Option X) → None ≡ option_map f o → o ≡ None
none_before f None e = refl
none_before f (Some x) e = cc

-- nothing is sealed of a page that keeps no digest
pub none_sealed : {S : Type 0} (stands : S → Tag → List ℕ → List ℕ → Type 0) (image : S → Tag → List ℕ → List ℕ) (plan : Plan) (old : Guest S) (g : GuestWhole) (gfn : ℕ) →
    ShowsSealed stands image plan old g → gfn < plan.pages → kept_in (cell_at old.pages gfn) ≡ None → sealed_of (g.part.pages gfn) ≡ None
none_sealed stands image plan old g gfn shows below none = none_before digest_by (sealed_of (g.part.pages gfn)) (sym none ∙ shows.digests gfn below)

-- nor is anything pending where nothing is sealed
pub none_pending : (page : Page) → sealed_of page ≡ None → page.pending ≡ None
none_pending page none = by_pending page.pending refl where
  by_pending : (o : Option (List ℕ)) → page.pending ≡ o → page.pending ≡ None
  by_pending None is = is
  by_pending (Some bytes) is = (let there : Some bytes ≡ None = sym (ap (λ (o : Option (List ℕ)). first_there o page.sealed) is) ∙ none in cc)

-- a page of which nothing is sealed may be backed, and its doublewords may change
module _ (plan : Plan) (g : GuestWhole) (at : ℕ) (none : sealed_of (g.part.pages at) ≡ None) (content : ℕ → ℕ) (others : (gpa : ℕ) → page_of plan gpa ≢ at → content gpa ≡ g.content gpa) where
  -- a page of which something is sealed is another
  another : (gfn : ℕ) (bytes : List ℕ) → sealed_of (g.part.pages gfn) ≡ Some bytes → gfn ≢ at
  another gfn bytes is same = let here : sealed_of (g.part.pages gfn) ≡ None = ap (λ (n : ℕ). sealed_of (g.part.pages n)) same ∙ none in cc

  -- what holds of the page that is backed, and of every other, holds of each
  by_page : {X : Type 0} (f : Page → X) → f (secured (g.part.pages at)) ≡ f (g.part.pages at) → (gfn : ℕ) → (gfn ≡ at) ⊎ (gfn ≢ at) → f (put g.part.pages at (secured (g.part.pages at)) gfn) ≡ f (g.part.pages gfn)
  by_page f here gfn (inl same) =
      ap (λ (n : ℕ). f (put g.part.pages at (secured (g.part.pages at)) n)) same ∙ ap f (put-here g.part.pages at (secured (g.part.pages at))) ∙ here ∙ sym (ap (λ (n : ℕ). f (g.part.pages n)) same)
  by_page f here gfn (inr other) = ap f (put-other g.part.pages at (secured (g.part.pages at)) gfn other)

  pub accessed_keeps : (backs : Bool) (registers : ℕ → Regs) (clean : Bool) → KeepsSealed plan g (record g { part = if backs then with_secure_page g.part at else g.part; content = content; registers = registers; clean = clean })
  accessed_keeps true registers clean = record {
    generation = refl;
    versions = λ gfn. by_page (λ (p : Page). p.version) refl gfn (cases_eq gfn at);
    sealed = λ gfn. by_page sealed_of (sym none) gfn (cases_eq gfn at);
    pending = λ gfn. by_page (λ (p : Page). p.pending) (sym (none_pending (g.part.pages at) none)) gfn (cases_eq gfn at);
    doublewords = λ gpa bytes is. others gpa (another (page_of plan gpa) bytes is);
  }
  accessed_keeps false registers clean = record {
    generation = refl;
    versions = λ gfn. refl;
    sealed = λ gfn. refl;
    pending = λ gfn. refl;
    doublewords = λ gpa bytes is. others gpa (another (page_of plan gpa) bytes is);
  }
