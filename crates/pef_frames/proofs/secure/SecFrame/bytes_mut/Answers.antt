use Rattle.std.proofs.Common.{rules, ◌≡◌, ℕ, List, ◌++◌, length, take, drop, refl, ap, ◌∙◌}
use Rattle.pef_frames.specs.Frame.{FrameState}
use Rattle.pef_frames.specs.Lent.{with_bytes}
use Rattle.pef_frames.proofs.secure.SecFrame.bytes_mut.Goals as goal

-- the length of a vector is that of its items
with_length : (number len : ℕ) (items w : List ℕ) (frame : FrameState) → len ≡ length items → record { number = number; bytes = items } ≡ frame →
    record { number = number; bytes = take len (w ++ drop (length w) items) } ≡ with_bytes frame w
with_length number len items w frame is view_is =
    ap (λ (n : ℕ). record { number = number; bytes = take n (w ++ drop (length w) items) }) is ∙ ap (λ (f : FrameState). with_bytes f w) view_is

-- the vector keeps its length, and the number is another field
pub returns : goal.returns
returns c = ((refl, λ w. with_length c.self.inside.number c.self.inside.bytes.len c.self.inside.bytes.items w c.args.self.now c.self.inside.bytes.ok.0 c.self.view_is), search rules)
