use Rattle.std.proofs.Common.{◌≡◌, ◌-◌, ◌≤◌, reverse, All, vec_len}
use Rattle.std.specs.Vec.{vec_capacity}
use Rattle.std.specs.List.{range_with_len}
use Rattle.pef_frames.specs.Frame.{numbers_of}
use Rattle.pef_frames.specs.Pool.{IsFree}
use Rattle.pef_frames.proofs.pool.Pool.build.Given as goal

-- the frames from the number on are in, the last of them first
abbrev pub invariant-loop-number : goal.invariant-loop-number
invariant-loop-number l = record {
  below : l.number ≤ l.count;
  each : All (IsFree l.count l.size) l.frames.items;
  numbers : numbers_of (reverse l.frames.items) ≡ range_with_len l.number (l.count - l.number);
  few : vec_len l.frames ≡ l.count - l.number;
  room : l.count ≤ vec_capacity l.frames;
}

abbrev pub decreases-loop-number : goal.decreases-loop-number
decreases-loop-number l = l.number
