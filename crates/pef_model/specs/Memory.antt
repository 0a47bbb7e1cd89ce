-- The pool of secure frames, and the normal frames.
use Rattle.std.specs.Prelude.{ℕ, ◌+◌, ◌-◌, ◌%◌, ◌^◌, ◌==◌, if◌then◌else◌, List, [], ◌∷◌, ◌++◌, take, drop, length, Option, Some, None, replicate, Bool, false, ◌&&◌, nat_le, nat_lt}
use Rattle.pef_model.specs.declared.state.Ctx.{Ctx}
use Rattle.pef_model.specs.declared.state.Ctx.TheVariants as ctx
use Rattle.pef_model.specs.declared.command.Cmd.{Cmd}
use Rattle.pef_model.specs.declared.command.Cmd.TheVariants.{HSt, GSt}
use Rattle.pef_model.specs.declared.entry.Answer.{Answer}
use Rattle.pef_model.specs.declared.entry.Answer.TheVariants as answer
use Rattle.pef_model.specs.declared.entry.PoolSaw.{PoolSaw}
use Rattle.pef_model.specs.Plan.{Plan}
use Rattle.pef_model.specs.Event.{Event}
use Rattle.pef_model.specs.Doubleword.{doubleword}
use Rattle.pef_model.specs.Target.{frame_of, is_copying}
use Rattle.byteorder.specs.Endian.{big_bytes}

-- the number of free frames after what a step took and gave back
abbrev pub pool_with : ℕ → Option PoolSaw → ℕ
pool_with free None = free
pool_with free (Some saw) = free - saw.taken + saw.given

-- the number of free frames after an entry that touches the pool
abbrev pub next_pool : ℕ → Event → ℕ
next_pool free e = pool_with free e.saw.pool

-- whether a step tells that a frame was free
abbrev pub tells_free : Option PoolSaw → Bool
tells_free None = false
tells_free (Some saw) = saw.any

-- at the start each secure frame is free
abbrev pub start_pool : Plan → ℕ
start_pool plan = plan.secure

-- the offset of an address in its page or frame, by the page shift
abbrev pub offset_by : ℕ → ℕ → ℕ
offset_by shift address = address % 2 ^ shift

-- the same, by a plan
abbrev pub offset_of : Plan → ℕ → ℕ
offset_of plan address = offset_by plan.shift address

-- a write into normal memory
pub record Write : Type 0 where
  pub frame : ℕ
  pub offset : ℕ
  pub bytes : List ℕ

-- what a step at this normal frame writes there, by the page shift: a store its doubleword, a copy the entry's bytes
abbrev pub write_in : ℕ → Ctx → Cmd → Answer → List ℕ → ℕ → List Write
write_in shift ctx.Hv (HSt ra value) answer.Done bytes n = record { frame = n; offset = offset_by shift ra; bytes = big_bytes 8 value } ∷ []
write_in shift (ctx.Guest run) (GSt rs gpa) answer.Done bytes n = record { frame = n; offset = offset_by shift gpa; bytes = bytes } ∷ []
write_in shift before cmd a bytes n = if is_copying before cmd a then record { frame = n; offset = 0; bytes = bytes } ∷ [] else []

-- what a step writes into the normal frame that it tells
abbrev pub writes_in : ℕ → Ctx → Cmd → Answer → List ℕ → Option ℕ → List Write
writes_in shift c cmd a bytes None = []
writes_in shift c cmd a bytes (Some n) = write_in shift c cmd a bytes n

-- what an entry writes into normal memory
abbrev pub writes_of : Plan → Event → List Write
writes_of plan e = writes_in plan.shift e.saw.before e.trace.cmd e.trace.answer e.bytes e.saw.frame

-- bytes with others written over them, from an offset on
abbrev pub overwritten : List ℕ → ℕ → List ℕ → List ℕ
overwritten old offset bytes = take offset old ++ (bytes ++ drop (offset + length bytes) old)

-- a frame's bytes after writes, one after another
abbrev pub after_writes : ℕ → List ℕ → List Write → List ℕ
after_writes n old [] = old
after_writes n old (write ∷ more) = after_writes n (if write.frame == n then overwritten old write.offset write.bytes else old) more

-- the first of two values that is there
abbrev pub either_of : {A : Type 0} → Option A → Option A → Option A
either_of (Some x) other = Some x
either_of None other = other

-- whether a write covers the doubleword at a real address
abbrev pub covers : Plan → Write → ℕ → Bool
covers plan write ra = (write.frame == frame_of plan ra) && nat_le write.offset (offset_of plan ra) && nat_lt (offset_of plan ra) (write.offset + length write.bytes)

-- the doubleword that writes leave at a real address: that of the last one that covers it
abbrev pub written_at : Plan → ℕ → List Write → Option ℕ
written_at plan ra [] = None
written_at plan ra (write ∷ more) =
    either_of (written_at plan ra more) (if covers plan write ra then Some (doubleword write.bytes (offset_of plan ra - write.offset)) else None)

-- a normal frame's bytes after an entry
abbrev pub next_frame : Plan → ℕ → List ℕ → Event → List ℕ
next_frame plan n bytes e = after_writes n bytes (writes_of plan e)

-- at the start each normal frame is zero
abbrev pub start_frame : Plan → List ℕ
start_frame plan = replicate (2 ^ plan.shift) 0
