-- Each page of a machine lies where the model says that its copy counts.
use Rattle.std.proofs.Common.{◌≡◌, ℕ, ◌+◌, ◌%◌, ◌^◌, ◌<◌, List, Option, Some, None, IsSome, refl, ap, sym, subst, ◌∙◌}
use Rattle.std.specs.Prelude.{slice_get, option_map}
use Rattle.std.proofs.lemmas.Bool.{false≢true}
use Rattle.pef_model.specs.declared.state.Kind.{Kind}
use Rattle.pef_model.specs.declared.state.Kind.TheVariants as kind
use Rattle.pef_model.specs.declared.state.Way.TheVariants.{Inward, Outward}
use Rattle.pef_model.specs.declared.state.Mover.{Mover}
use Rattle.pef_model.specs.declared.state.Digest32.{Digest32}
use Rattle.pef_model.specs.declared.state.Tag.{Tag}
use Rattle.pef_model.specs.Plan.{Plan}
use Rattle.pef_model.specs.Event.{Event}
use Rattle.pef_model.specs.Doubleword.{doubleword}
use Rattle.pef_model.specs.GuestPart.{Page, page_of}
use Rattle.pef_model.specs.Memory.{offset_of}
use Rattle.pef_model.specs.Authority.{InSealedBytes, authority_by}
use Rattle.pef_model.specs.History.{guest_after, last_store, IsLegal, page_after}
use Rattle.pef_model.proofs.Paging.{moving_in_is_out}
use Rattle.pef_model.specs.MoveLaw.{KeepsWhatIsSealed, IsMovedBy, EachMoverHasItsCall, EachPageKeepsWhatIsSealed}
use Rattle.pef_frames.specs.Frame.{FrameState}
use Rattle.pef_pages.specs.declared.cell.Cell.{Cell}
use Rattle.pef_pages.specs.declared.cell.Cell.TheVariants as cell
use Rattle.pef_pages.specs.Cells.{kind_of, mover_of, digest_of, frame_in}
use Rattle.pef_pages.specs.Pages.{cell_at, kind_at, digest_at, frame_at}
use Rattle.pef_guest.specs.declared.guest.Guest.{Guest}
use Rattle.pef_guest.specs.Shows.{Shows, kept_in, digest_by, first_there, sealed_of}
use Rattle.pef_core.specs.State.{State, IsGuestOf, IsWholeMachine}
use Rattle.pef_core.specs.Steps.{Fits}
use Rattle.pef_core.specs.Places.{IsInFrame, IsPlacedAt}
use Rattle.pef_core.proofs.Room.{is_once}

-- what was sealed last of a page that doesn't move outward
stays_sealed : (page : Page) (bytes : List ℕ) → KeepsWhatIsSealed page → (option_map (λ (mover : Mover). mover.way) page.mover ≡ Some Outward → ⊥) → page.sealed ≡ Some bytes → sealed_of page ≡ Some bytes
stays_sealed page bytes keeps other is = by_pending page.pending refl where
  by_pending : (o : Option (List ℕ)) → page.pending ≡ o → first_there page.pending page.sealed ≡ Some bytes
  by_pending None none = ap (λ (o : Option (List ℕ)). first_there o page.sealed) none ∙ is
  by_pending (Some other_bytes) there = absurd (other (keeps.pending.0 (subst IsSome (sym there) refl)))

-- with the model's laws of moves
module _ (called : EachMoverHasItsCall) (kept : EachPageKeepsWhatIsSealed) where
  -- a page that moves inward is Out, since its mover has a page-in in progress
  moves_out_page : (plan : Plan) (past : List Event) (lpid gfn cpu : ℕ) → IsLegal plan past → (page_after plan past lpid gfn).mover ≡ Some (record { cpu = cpu; way = Inward }) → (page_after plan past lpid gfn).kind ≡ kind.Out
  moves_out_page plan past lpid gfn cpu legal is =
      let call : IsMovedBy plan past lpid gfn (record { cpu = cpu; way = Inward }) = called plan past lpid gfn (record { cpu = cpu; way = Inward }) legal is in
      let generation = call.generation ∙ ap (λ (l : ℕ). (guest_after plan l past).part.generation) (sym call.lpid_is) in
      ap (λ (l : ℕ). (page_after plan past l gfn).kind) (sym call.lpid_is) ∙ ap (λ (f : ℕ). (page_after plan past call.move.lpid f).kind) (sym call.gfn_is) ∙ moving_in_is_out plan past cpu call.move legal call.ctx_is generation

  module _ {S : Type 0} (stands : S → Tag → List ℕ → List ℕ → Type 0) (image : S → Tag → List ℕ → List ℕ) (takes : S → ℕ → ℕ → Type 0) (m : State S) (whole : IsWholeMachine takes m) (plan : Plan) (past : List Event)
      (i : ℕ) (guest : Guest S) (gfn : ℕ) (fits : Fits stands image plan m past) (legal : IsLegal plan past) (here : slice_get m.guests i ≡ Some guest) (below : gfn < plan.pages) where
    shows : Shows stands image plan guest (guest_after plan (i + 1) past)
    shows = fits.guests i guest here

    page : Page
    page = (guest_after plan (i + 1) past).part.pages gfn

    keeps : KeepsWhatIsSealed ((guest_after plan (i + 1) past).part.pages gfn)
    keeps = kept plan past (i + 1) gfn legal

    -- a Secure page is in its frame
    in_frame : (frame : FrameState) → frame_at guest.pages gfn ≡ Some frame → digest_at guest.pages gfn ≡ None → kind_at guest.pages gfn ≡ kind.Secure → IsInFrame m plan guest gfn (last_store plan past (i + 1))
    in_frame frame there none secure =
        let is : IsGuestOf takes m i guest = whole.guests i guest here in
        let own = is.whole.frames gfn frame there in
        record {
          frame = frame;
          there = there;
          size = own.length_is ∙ ap (λ (k : ℕ). 2 ^ k) shows.shift;
          holds = holds;
          once = is_once m whole.frames_once i guest here gfn frame there (subst (λ (k : ℕ). frame.number < k) is.secure own.number);
          digest = none;
        } where
          holds : (gpa : ℕ) → gpa % 8 ≡ 0 → page_of plan gpa ≡ gfn → doubleword frame.bytes (offset_of plan gpa) ≡ last_store plan past (i + 1) gpa
          holds = shows.pages.holds gfn frame secure there

    placed_by : Kind → Type 0
    placed_by k = IsPlacedAt stands m plan guest (guest_after plan (i + 1) past).part gfn (last_store plan past (i + 1)) (authority_by k ((guest_after plan (i + 1) past).part.pages gfn).sealed)

    -- a page that is Out is in sealed bytes, at rest or while it moves inward
    in_bytes : (c : Cell FrameState) (digest : Digest32) (o : Option (List ℕ)) → cell_at guest.pages gfn ≡ c → kind_of c ≡ kind.Out → digest_of c ≡ Some digest → kept_in c ≡ Some digest →
        (option_map (λ (mover : Mover). mover.way) (mover_of c) ≡ Some Outward → ⊥) → (mover_of c ≡ None → frame_in c ≡ None) → ((guest_after plan (i + 1) past).part.pages gfn).sealed ≡ o →
        IsPlacedAt stands m plan guest (guest_after plan (i + 1) past).part gfn (last_store plan past (i + 1)) (option_map InSealedBytes o)
    in_bytes c digest None is out digest_is kept_is other rests sealed_is =
        let kind_is : ((guest_after plan (i + 1) past).part.pages gfn).kind ≡ kind.Out = sym (shows.pages.kinds gfn below) ∙ ap kind_of is ∙ out in
        absurd (false≢true (subst IsSome sealed_is (keeps.sealed.1 kind_is)))
    in_bytes c digest (Some bytes) is out digest_is kept_is other rests sealed_is =
        let mover_is : ((guest_after plan (i + 1) past).part.pages gfn).mover ≡ mover_of c = sym (shows.pages.movers gfn below) ∙ ap mover_of is in
        let sealed : sealed_of ((guest_after plan (i + 1) past).part.pages gfn) ≡ Some bytes =
        stays_sealed ((guest_after plan (i + 1) past).part.pages gfn) bytes keeps (λ outward. other (ap (option_map (λ (mover : Mover). mover.way)) (sym mover_is) ∙ outward)) sealed_is in
        let digests : Some digest ≡ Some (digest_by bytes) = sym (ap kept_in is ∙ kept_is) ∙ shows.sealed.digests gfn below ∙ ap (option_map digest_by) sealed in
        record {
          digest = ap digest_of is ∙ digest_is ∙ digests;
          given_back = shows.sealed.stands_for gfn bytes below sealed;
          rests = λ none. ap frame_in is ∙ rests (sym (ap mover_of is) ∙ none);
        }

    by_cell : (c : Cell FrameState) → cell_at guest.pages gfn ≡ c →
        IsPlacedAt stands m plan guest (guest_after plan (i + 1) past).part gfn (last_store plan past (i + 1)) (authority_by (kind_of c) ((guest_after plan (i + 1) past).part.pages gfn).sealed)
    by_cell cell.Invalid is = (ap frame_in is, ap digest_of is)
    by_cell (cell.Secure frame) is = in_frame frame (ap frame_in is) (ap digest_of is) (ap kind_of is)
    by_cell (cell.MovesOut frame cpu digest) is = in_frame frame (ap frame_in is) (ap digest_of is) (ap kind_of is)
    by_cell (cell.Out digest) is = in_bytes (cell.Out digest) digest ((guest_after plan (i + 1) past).part.pages gfn).sealed is refl refl refl (λ outward. cc) (λ none. refl) refl
    by_cell (cell.Shared frame) is = (ap frame_in is, ap digest_of is)
    by_cell (cell.Unbacked fresh) is = (ap frame_in is, ap digest_of is)
    by_cell (cell.MovesIn frame cpu (Some digest)) is =
        in_bytes (cell.MovesIn frame cpu (Some digest)) digest ((guest_after plan (i + 1) past).part.pages gfn).sealed is refl refl refl (λ outward. cc) (λ none. cc) refl
    by_cell (cell.MovesIn frame cpu None) is =
        let out : ((guest_after plan (i + 1) past).part.pages gfn).kind ≡ kind.Out = moves_out_page plan past (i + 1) gfn cpu legal (sym (shows.pages.movers gfn below) ∙ ap mover_of is) in
        let invalid : ((guest_after plan (i + 1) past).part.pages gfn).kind ≡ kind.Invalid = sym (shows.pages.kinds gfn below) ∙ ap kind_of is in
        let differ : kind.Invalid ≡ kind.Out = sym invalid ∙ out in
        cc

    pub placed : IsPlacedAt stands m plan guest (guest_after plan (i + 1) past).part gfn (last_store plan past (i + 1))
        (authority_by ((guest_after plan (i + 1) past).part.pages gfn).kind ((guest_after plan (i + 1) past).part.pages gfn).sealed)
    placed =
        subst (λ (k : Kind). IsPlacedAt stands m plan guest (guest_after plan (i + 1) past).part gfn (last_store plan past (i + 1)) (authority_by k ((guest_after plan (i + 1) past).part.pages gfn).sealed))
        (shows.pages.kinds gfn below) (by_cell (cell_at guest.pages gfn) refl)
