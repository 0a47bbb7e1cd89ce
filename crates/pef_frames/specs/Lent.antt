-- A secure frame whose bytes are lent.
use Rattle.std.specs.Prelude.{ℕ, List, ◌++◌, length, take, drop}
use Rattle.std.specs.Borrow.{Lends, MutBor, Fml, Array, u8}
use Rattle.pef_frames.specs.Frame.{FrameState}
use Rattle.pef_frames.specs.contracts.secure.SecFrame.{the_row}

-- a frame with bytes written over its own: it keeps its length, so more of them are cut off, and fewer leave the rest
abbrev pub with_bytes : FrameState → List ℕ → FrameState
with_bytes frame bytes = record frame { bytes = take (length frame.bytes) (bytes ++ drop (length bytes) frame.bytes) }

-- the frame ends with the bytes that are last behind the reference, and with its number
abbrev pub LendsBytes : MutBor FrameState → MutBor (List ℕ) → Fml
LendsBytes frame lent = Lends the_row (Array u8 0) frame lent (with_bytes frame.now)
