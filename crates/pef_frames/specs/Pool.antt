-- The pool of free secure frames.
use Rattle.std.specs.Prelude.{◌≡◌, ℕ, ◌^◌, ◌<◌, ◌≤◌, List, [], ◌∷◌, Option, Some, None, All, vec_len}
use Rattle.std.specs.List.{range_with_len}
use Rattle.std.specs.Global.{Vec}
use Rattle.std.specs.Vec.{vec_capacity}
use Rattle.pef_frames.specs.Frame.{FrameState, zero_frame}

-- how many frames there are, how many bytes each has, and the numbers of the free ones, the one that is taken next first
pub record PoolState : Type 0 where
  pub count : ℕ
  pub size : ℕ
  pub free : List ℕ

-- the pool in which each frame is free
abbrev pub full_pool : ℕ → ℕ → PoolState
full_pool count size = record { count = count; size = size; free = range_with_len 0 count }

-- the frame of a size whose number comes first
abbrev pub first_of : ℕ → List ℕ → Option FrameState
first_of size [] = None
first_of size (number ∷ more) = Some (zero_frame size number)

-- the frame that is taken next: the first free one, all zero
abbrev pub first_free : PoolState → Option FrameState
first_free pool = first_of pool.size pool.free

-- the numbers after the first
abbrev pub rest_of : List ℕ → List ℕ
rest_of [] = []
rest_of (number ∷ more) = more

-- the pool without its first free frame
abbrev pub without_first : PoolState → PoolState
without_first pool = record pool { free = rest_of pool.free }

-- the pool with one free frame more, in front of the others
abbrev pub with_free : PoolState → ℕ → PoolState
with_free pool number = record pool { free = number ∷ pool.free }

-- a free frame is all zero, has the pool's size, and a number below the pool's count
pub record IsFree (count size : ℕ) (frame : FrameState) : Type 0 where
  pub number : frame.number < count
  pub zero : frame ≡ zero_frame size frame.number

-- each frame is free, they are at most as many as there are, there is room for as many, and their number has 32 bits
pub record AreFree (count size : ℕ) (frames : Vec FrameState) : Type 0 where
  pub each : All (IsFree count size) frames.items
  pub few : vec_len frames ≤ count
  pub room : count ≤ vec_capacity frames
  pub narrow : count < 2 ^ 32
