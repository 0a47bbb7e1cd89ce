-- The normal frames in the machine.
use Rattle.std.specs.Prelude.{◌≡◌, ℕ, ◌+◌, ◌^◌, ◌<◌, ◌≤◌, List, [], length, replicate, slice_index_or, slice_set}
use Rattle.pef_model.specs.Plan.{Plan, IsWithin}
use Rattle.pef_model.specs.Doubleword.{with_doubleword}
use Rattle.pef_num.specs.declared.place.Place.{Place}

-- the normal frames, each of 2^shift bytes
pub record NormalState : Type 0 where
  pub shift : ℕ
  pub frames : List (List ℕ)

-- so many frames of zeros
abbrev pub zero_frames : ℕ → ℕ → NormalState
zero_frames shift count = record { shift = shift; frames = replicate count (replicate (2 ^ shift) 0) }

-- a frame's bytes by its number
abbrev pub frame_at : List (List ℕ) → ℕ → List ℕ
frame_at frames n = slice_index_or frames n []

-- the shift is in its range, each frame has 2^shift bytes, and the number of frames fits in 32 bits
pub record AreFrames (normal : NormalState) : Type 0 where
  pub shift : IsWithin 8 16 normal.shift
  pub sizes : (n : ℕ) → n < length normal.frames → length (frame_at normal.frames n) ≡ 2 ^ normal.shift
  pub few : length normal.frames < 2 ^ 32

-- a place is one of a doubleword in one of the frames
pub record IsPlaceIn (normal : NormalState) (place : Place) : Type 0 where
  pub number : place.page < length normal.frames
  pub room : place.off + 8 ≤ 2 ^ normal.shift

-- the frames with a doubleword in one of them, at an offset
abbrev pub with_value : NormalState → ℕ → ℕ → ℕ → NormalState
with_value normal n offset value = record normal { frames = slice_set normal.frames n (with_doubleword (frame_at normal.frames n) offset value) }

-- the machine's normal frames are as many as the plan has, of the plan's size, and hold the bytes that the model gives each
pub record ShowsNormal (plan : Plan) (normal : NormalState) (shown : ℕ → List ℕ) : Type 0 where
  pub shift : normal.shift ≡ plan.shift
  pub count : length normal.frames ≡ plan.normal
  pub bytes : (n : ℕ) → n < plan.normal → frame_at normal.frames n ≡ shown n
