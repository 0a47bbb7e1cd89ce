-- Where the one copy of a page that counts lies in the machine.
use Rattle.std.specs.Prelude.{◌≡◌, ℕ, ◌+◌, ◌%◌, ◌^◌, ◌==◌, ◌<◌, List, length, Option, Some, None, count_by, slice_get}
use Rattle.pef_model.specs.declared.state.Tag.{Tag}
use Rattle.pef_model.specs.Plan.{Plan}
use Rattle.pef_model.specs.Event.{Event}
use Rattle.pef_model.specs.GuestPart.{GuestPart, page_of}
use Rattle.pef_model.specs.Doubleword.{doubleword}
use Rattle.pef_model.specs.Memory.{offset_of}
use Rattle.pef_model.specs.PageOut.{tag_of, page_bytes}
use Rattle.pef_model.specs.Authority.{Copy, InSecureFrame, InSealedBytes, InNormalFrame, authority}
use Rattle.pef_model.specs.History.{guest_after, last_store, public_state, IsLegal}
use Rattle.pef_frames.specs.Frame.{FrameState}
use Rattle.pef_pages.specs.Pages.{mover_at, digest_at, frame_at}
use Rattle.pef_guest.specs.declared.guest.Guest.{Guest}
use Rattle.pef_guest.specs.Shows.{digest_by}
use Rattle.pef_core.specs.State.{State, secure_frames}
use Rattle.pef_core.specs.Steps.{Fits}

-- a page lies in its secure frame: the frame has the page's size and at each address the last store, is in no other place of the machine, and no digest of other bytes counts
pub record IsInFrame {S : Type 0} (m : State S) (plan : Plan) (guest : Guest S) (gfn : ℕ) (value : ℕ → ℕ) : Type 0 where
  pub frame : FrameState
  pub there : frame_at guest.pages gfn ≡ Some frame
  pub size : length frame.bytes ≡ 2 ^ plan.shift
  pub holds : (gpa : ℕ) → gpa % 8 ≡ 0 → page_of plan gpa ≡ gfn → doubleword frame.bytes (offset_of plan gpa) ≡ value gpa
  pub once : count_by (λ n. n == frame.number) (secure_frames m) ≡ 1
  pub digest : digest_at guest.pages gfn ≡ None

-- a page lies in sealed bytes: the page keeps their digest, the sealer gives the last stores for them, and a page that doesn't move has no frame; the frame of one that moves inward is no copy yet
pub record IsSealed {S : Type 0} (stands : S → Tag → List ℕ → List ℕ → Type 0) (guest : Guest S) (part : GuestPart) (gfn : ℕ) (page sealed : List ℕ) : Type 0 where
  pub digest : digest_at guest.pages gfn ≡ Some (digest_by sealed)
  pub given_back : stands guest.sealer (tag_of part guest.lpid gfn (part.pages gfn).version) page sealed
  pub rests : mover_at guest.pages gfn ≡ None → frame_at guest.pages gfn ≡ None

-- a page has its copy where the model says that it counts, and no other; a page that has none has neither frame nor digest
abbrev pub IsPlacedAt : {S : Type 0} → (S → Tag → List ℕ → List ℕ → Type 0) → State S → Plan → Guest S → GuestPart → ℕ → (ℕ → ℕ) → Option Copy → Type 0
IsPlacedAt stands m plan guest part gfn value (Some InSecureFrame) = IsInFrame m plan guest gfn value
IsPlacedAt stands m plan guest part gfn value (Some (InSealedBytes sealed)) = IsSealed stands guest part gfn (page_bytes plan.shift value gfn) sealed
IsPlacedAt stands m plan guest part gfn value (Some (InNormalFrame n)) = (frame_at guest.pages gfn ≡ None) × (digest_at guest.pages gfn ≡ None)
IsPlacedAt stands m plan guest part gfn value None = (frame_at guest.pages gfn ≡ None) × (digest_at guest.pages gfn ≡ None)

-- each page of a machine has the one copy that counts in the place that the model names
abbrev pub EachPageIsPlaced : {S : Type 0} → (S → Tag → List ℕ → List ℕ → Type 0) → (S → Tag → List ℕ → List ℕ) → State S → Type 0
EachPageIsPlaced {S = S} stands image m =
    (plan : Plan) (past : List Event) (i : ℕ) (guest : Guest S) (gfn : ℕ) → Fits stands image plan m past → IsLegal plan past → slice_get m.guests i ≡ Some guest → gfn < plan.pages →
    IsPlacedAt stands m plan guest (guest_after plan (i + 1) past).part gfn (last_store plan past (i + 1)) (authority (public_state plan past) (i + 1) gfn)
