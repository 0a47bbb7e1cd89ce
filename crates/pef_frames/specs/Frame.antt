-- A secure frame.
use Rattle.std.specs.Prelude.{ℕ, List, map, length, replicate}

-- its number among the frames of its pool, and its bytes
pub record FrameState : Type 0 where
  pub number : ℕ
  pub bytes : List ℕ

-- the frame of a size and a number that is all zero
abbrev pub zero_frame : ℕ → ℕ → FrameState
zero_frame size number = record { number = number; bytes = replicate size 0 }

-- a frame with its bytes zeroed
abbrev pub zeroed : FrameState → FrameState
zeroed frame = zero_frame (length frame.bytes) frame.number

-- the numbers of frames, in their order
abbrev pub numbers_of : List FrameState → List ℕ
numbers_of frames = map (λ (frame : FrameState). frame.number) frames
