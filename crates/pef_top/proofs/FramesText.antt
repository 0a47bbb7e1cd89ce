-- The text of the normal frames, one frame after another.
use Rattle.std.proofs.Common.{◌≡◌, ℕ, zero, suc, ◌<◌, List, [], ◌++◌, length, refl, ap, sym, ◌∙◌, arith, append_assoc, append-nil, inl, inr}
use Rattle.std.proofs.lemmas.Bool.{cases_lt}
use Rattle.pef_model.specs.declared.state.Tag.{Tag}
use Rattle.pef_model.specs.Event.{Event}
use Rattle.pef_model.specs.History.{frame_after}
use Rattle.pef_model.specs.Plan.{Plan}
use Rattle.pef_model.specs.Report.{frame_line, frames_below}
use Rattle.pef_core.specs.Normal.{frame_at}
use Rattle.pef_core.specs.State.{State}
use Rattle.pef_core.specs.Steps.{Fits}
use Rattle.pef_top.specs.Text.{frames_text}

-- frames that are alike below a number have the same text
pub frames_below-alike : (n : ℕ) (f g : ℕ → List ℕ) → ((i : ℕ) → i < n → f i ≡ g i) → frames_below n f ≡ frames_below n g
frames_below-alike zero f g alike = refl
frames_below-alike (suc n) f g alike =
    ap (λ (text : List ℕ). text ++ frame_line n (f n)) (frames_below-alike n f g (λ i below. alike i (omega arith)))
    ∙ ap (λ (bytes : List ℕ). frames_below n g ++ frame_line n bytes) (alike n (omega arith))

-- the text of the frames before one, its line, and what follows
pub frames_below-split : (n i : ℕ) (f : ℕ → List ℕ) → i < n → (rest : List ℕ) × (frames_below n f ≡ frames_below i f ++ (frame_line i (f i) ++ rest))
frames_below-split zero i f below = absurd (omega arith)
frames_below-split (suc n) i f below = elim (cases_lt i n) [
  | inl lower ↦
      let earlier = frames_below-split n i f lower in
      let line : List ℕ = frame_line n (f n) in
      let whole : frames_below (suc n) f ≡ frames_below i f ++ (frame_line i (f i) ++ (earlier.0 ++ line)) =
      ap (λ (text : List ℕ). text ++ line) earlier.1
      ∙ append_assoc (frames_below i f) (frame_line i (f i) ++ earlier.0) line
      ∙ ap (λ (text : List ℕ). frames_below i f ++ text) (append_assoc (frame_line i (f i)) earlier.0 line) in
      (earlier.0 ++ line, whole)
  | inr above ↦
      let last : n ≡ i = omega arith in
      let whole : frames_below (suc n) f ≡ frames_below i f ++ (frame_line i (f i) ++ []) =
      ap (λ (m : ℕ). frames_below m f ++ frame_line m (f m)) last
      ∙ ap (λ (text : List ℕ). frames_below i f ++ text) (sym (append-nil (frame_line i (f i)))) in
      ([], whole)
]

-- the lines of a plan's normal frames after a history
abbrev pub frames_after : Plan → List Event → List ℕ
frames_after plan past = frames_below plan.normal (λ n. frame_after plan n past)

-- the normal frames of a machine that fits a history have the text of those after it
pub frames_text-fits : {S : Type 0} (stands : S → Tag → List ℕ → List ℕ → Type 0) (image : S → Tag → List ℕ → List ℕ) (plan : Plan) (machine : State S) (past : List Event) → Fits stands image plan machine past → frames_text machine.normal.frames ≡ frames_after plan past
frames_text-fits stands image plan machine past fits =
    let frames : List (List ℕ) = machine.normal.frames in
    let shown = fits.normal_is in
    frames_below-alike (length frames) (frame_at frames) (λ n. frame_after plan n past) (λ i below. shown.bytes i (omega (arith, shown.count)))
    ∙ ap (λ (count : ℕ). frames_below count (λ n. frame_after plan n past)) shown.count
