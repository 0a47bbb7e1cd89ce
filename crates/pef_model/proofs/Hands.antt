-- In a legal history of a configuration in its ranges each hand and each normal frame has as many bytes as a page.
use Rattle.std.proofs.Common.{◌≡◌, ℕ, ◌^◌, List, [], ◌∷◌, length, ap, sym, ◌∙◌, inl, inr}
use Rattle.std.proofs.lemmas.Bool.{cases_eq}
use Rattle.std.proofs.lemmas.List.{length-replicate}
use Rattle.pef_model.specs.declared.config.Config.{Config}
use Rattle.pef_model.specs.Plan.{plan_of, IsInRange}
use Rattle.pef_model.specs.Event.{Event}
use Rattle.pef_model.specs.Memory.{writes_of}
use Rattle.pef_model.specs.GuestPart.{put}
use Rattle.pef_model.specs.PageOut.{page_bytes}
use Rattle.pef_model.specs.History.{cpu_after, guest_after, frame_after, Extends, IsLegal}
use Rattle.pef_model.proofs.Puts.{put-here, put-other}
use Rattle.pef_model.proofs.PageBytes.{page_has_its_length}
use Rattle.pef_model.proofs.Filled.{sealed_pages_fill}
use Rattle.pef_model.proofs.Written.{frame_written}
use Rattle.pef_model.proofs.Whole.{all_whole, writes_fill}
use Rattle.pef_model.proofs.Changes.{Change, Quiet, Begins, Copies, Ends, Drops, Comes, Reads, Accepts, Refuses, Takes, Parked, Gone, Backs, Writes, Slots, Unmaps, Selected}
use Rattle.pef_model.proofs.ChangeOf.{change}
use Rattle.pef_model.proofs.Fields.{hands, hands_after, same_hands}

-- each hand and each frame has the size of a page
pub record AllFill (config : Config) (past : List Event) : Type 0 where
  pub hands : (n : ℕ) → length (cpu_after (plan_of config) n past).hand ≡ 2 ^ config.shift
  pub frames : (n : ℕ) → length (frame_after (plan_of config) n past) ≡ 2 ^ config.shift

-- each hand has it
abbrev HandsFill : Config → List Event → Type 0
HandsFill config past = (n : ℕ) → length (hands (plan_of config) past n) ≡ 2 ^ config.shift

-- the hands stay
fill_again : (config : Config) (past : List Event) (e : Event) → hands (plan_of config) past ≡ hands (plan_of config) (e ∷ past) → HandsFill config past → HandsFill config (e ∷ past)
fill_again config past e same fill n = ap (λ (h : ℕ → List ℕ). length (h n)) (sym same) ∙ fill n

-- one hand is another of this size
fill_put : (config : Config) (past : List Event) (e : Event) (bytes : List ℕ) → put (hands (plan_of config) past) e.trace.cpu bytes ≡ hands (plan_of config) (e ∷ past) → length bytes ≡ 2 ^ config.shift →
    HandsFill config past → HandsFill config (e ∷ past)
fill_put config past e bytes is size fill n = ap (λ (h : ℕ → List ℕ). length (h n)) (sym is) ∙ elim (cases_eq n e.trace.cpu) [
  | inl here ↦ ap (λ (k : ℕ). length (put (hands (plan_of config) past) e.trace.cpu bytes k)) here ∙ ap length (put-here (hands (plan_of config) past) e.trace.cpu bytes) ∙ size
  | inr other ↦ ap length (put-other (hands (plan_of config) past) e.trace.cpu bytes n other) ∙ fill n
]

-- each change keeps it so: a page-out that begins puts a sealed page into the hand, and the copy of a page-in a frame
hands_by : (config : Config) (past : List Event) (e : Event) → IsInRange config → AllFill config past → Change (plan_of config) past (cpu_after (plan_of config) e.trace.cpu past) e →
    HandsFill config (e ∷ past)
hands_by config past e range fill (Quiet x) = fill_again config past e (same_hands (plan_of config) past e _ _ x.cpu_is) fill.hands
hands_by config past e range fill (Begins x) =
    let value : ℕ → ℕ = (guest_after (plan_of config) x.move.lpid past).content in
    let sealed : length e.bytes ≡ 2 ^ config.shift =
    ap length x.sealed ∙ sealed_pages_fill config _ (page_bytes config.shift value x.move.gfn) range (page_has_its_length config.shift value x.move.gfn range.shift) in
    fill_put config past e e.bytes (hands_after (plan_of config) past e _ _ _ x.cpu_is) sealed fill.hands
hands_by config past e range fill (Copies x) = fill_again config past e (same_hands (plan_of config) past e _ _ x.cpu_is) fill.hands
hands_by config past e range fill (Ends x) = fill_again config past e (same_hands (plan_of config) past e _ _ x.cpu_is) fill.hands
hands_by config past e range fill (Drops x) = fill_again config past e (same_hands (plan_of config) past e _ _ x.cpu_is) fill.hands
hands_by config past e range fill (Comes x) = fill_again config past e (same_hands (plan_of config) past e _ _ x.cpu_is) fill.hands
hands_by config past e range fill (Reads x) = fill_put config past e e.bytes (hands_after (plan_of config) past e _ _ _ x.cpu_is) (ap length x.read ∙ fill.frames x.move.frame) fill.hands
hands_by config past e range fill (Accepts x) = fill_again config past e (same_hands (plan_of config) past e _ _ x.cpu_is) fill.hands
hands_by config past e range fill (Refuses x) = fill_again config past e (same_hands (plan_of config) past e _ _ x.cpu_is) fill.hands
hands_by config past e range fill (Takes x) = fill_again config past e (same_hands (plan_of config) past e _ _ x.cpu_is) fill.hands
hands_by config past e range fill (Parked x) = fill_again config past e (same_hands (plan_of config) past e _ _ x.cpu_is) fill.hands
hands_by config past e range fill (Gone x) = fill_again config past e (same_hands (plan_of config) past e _ _ x.cpu_is) fill.hands
hands_by config past e range fill (Backs x) = fill_again config past e (same_hands (plan_of config) past e _ _ x.cpu_is) fill.hands
hands_by config past e range fill (Writes x) = fill_again config past e (same_hands (plan_of config) past e _ _ x.cpu_is) fill.hands
hands_by config past e range fill (Slots x) = fill_again config past e (same_hands (plan_of config) past e _ _ x.cpu_is) fill.hands
hands_by config past e range fill (Unmaps x) = fill_again config past e (same_hands (plan_of config) past e _ _ x.cpu_is) fill.hands
hands_by config past e range fill (Selected x) = fill_again config past e (same_hands (plan_of config) past e _ _ x.cpu_is) fill.hands

-- each frame keeps it, whatever an entry writes there
frames_by : (config : Config) (past : List Event) (e : Event) → IsInRange config → AllFill config past → Extends (plan_of config) past e → (n : ℕ) → length (frame_after (plan_of config) n (e ∷ past)) ≡ 2 ^ config.shift
frames_by config past e range fill extends n =
    ap length (frame_written (plan_of config) e past n)
    ∙ writes_fill (plan_of config) n (writes_of (plan_of config) e) (frame_after (plan_of config) n past) (all_whole (plan_of config) past e range.shift.0 extends (fill.hands e.trace.cpu)) (fill.frames n)

-- so it is after a legal history
pub all_fill : (config : Config) (past : List Event) → IsInRange config → IsLegal (plan_of config) past → AllFill config past
all_fill config [] range legal = record { hands = λ n. length-replicate (2 ^ config.shift) 0; frames = λ n. length-replicate (2 ^ config.shift) 0 }
all_fill config (e ∷ past) range legal =
    let fill = all_fill config past range legal.1 in
    record { hands = hands_by config past e range fill (change (plan_of config) past e legal.0); frames = frames_by config past e range fill legal.0 }
