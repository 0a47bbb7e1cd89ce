-- What an entry writes into a normal frame lies within it, and is made of doublewords.
use Rattle.std.proofs.Common.{◌≡◌, ℕ, ◌+◌, ◌%◌, ◌^◌, ◌≤◌, List, [], ◌∷◌, length, Bool, true, false, refl, ap, ◌∙◌, ◌==◌, if◌then◌else◌, Option, Some, None, arith}
use Rattle.std.specs.List.{AllByRecursion}
use Rattle.pef_model.specs.declared.state.Work.TheVariants.{Outward}
use Rattle.pef_model.specs.declared.state.Ctx.{Ctx}
use Rattle.pef_model.specs.declared.state.Ctx.TheVariants as ctx
use Rattle.pef_model.specs.declared.command.Cmd.{Cmd}
use Rattle.pef_model.specs.declared.command.Cmd.TheVariants.{HSt, GSt, Go}
use Rattle.pef_model.specs.declared.entry.Answer.{Answer}
use Rattle.pef_model.specs.declared.entry.Answer.TheVariants.{Done, Step}
use Rattle.pef_model.specs.Plan.{Plan}
use Rattle.pef_model.specs.Event.{Event}
use Rattle.pef_model.specs.Memory.{Write, write_in, writes_in, writes_of, after_writes, overwritten}
use Rattle.pef_model.specs.History.{cpu_after, part_after, Extends}
use Rattle.pef_model.proofs.Doublewords.{length-overwritten}
use Rattle.pef_model.proofs.Places.{room_at, offset_aligned, doublewords_of}
use Rattle.pef_model.proofs.Placed.{store_is_placed, copy_is_placed, aligned}
use Rattle.pef_model.proofs.Through.{meets_aligned, store_is_through}

-- a write lies within a frame, and is made of doublewords
pub record IsWhole (plan : Plan) (write : Write) : Type 0 where
  pub offset : write.offset % 8 ≡ 0
  pub size : length write.bytes % 8 ≡ 0
  pub room : write.offset + length write.bytes ≤ 2 ^ plan.shift

-- a page is some number of doublewords
page_is_whole : (shift : ℕ) → 8 ≤ shift → 2 ^ shift % 8 ≡ 0
page_is_whole shift least = let size = doublewords_of shift least in omega arith

-- each write of an entry that extends a history is so, where its CPU's hand has the size of a page
module _ (plan : Plan) (past : List Event) (e : Event) (least : 8 ≤ plan.shift) (extends : Extends plan past e) (full : length (cpu_after plan e.trace.cpu past).hand ≡ 2 ^ plan.shift) where
  write_whole : (c : Ctx) (cmd : Cmd) (a : Answer) (n : ℕ) → e.saw.before ≡ c → e.trace.cmd ≡ cmd → e.trace.answer ≡ a → e.saw.frame ≡ Some n → AllByRecursion (IsWhole plan) (write_in plan.shift c cmd a e.bytes n)
  write_whole ctx.Hv (HSt at value) Done n before cmd_is answer_is frame_is =
      let placed = store_is_placed plan past e at value extends before cmd_is answer_is in
      let eight = aligned plan at placed.place in
      (record { offset = offset_aligned plan.shift at least eight; size = refl; room = room_at plan.shift at least eight }, tt)
  write_whole (ctx.Guest run) (GSt rs gpa) Done n before cmd_is answer_is frame_is =
      let through = store_is_through plan past e run rs gpa n extends before cmd_is frame_is in
      let eight = meets_aligned plan (part_after plan past run.lpid) gpa n through.meets_is in
      let long : length e.bytes ≡ 8 = ap length through.bytes in
      let room = room_at plan.shift gpa least eight in
      (record { offset = offset_aligned plan.shift gpa least eight; size = ap (λ (m : ℕ). m % 8) long; room = omega (arith, long, room) }, tt)
  write_whole (ctx.Uv (Outward move)) Go Step n before cmd_is answer_is frame_is =
      let copied = copy_is_placed plan past e move extends before cmd_is answer_is in
      let long : length e.bytes ≡ 2 ^ plan.shift = ap length copied.bytes ∙ full in
      (record { offset = refl; size = ap (λ (m : ℕ). m % 8) long ∙ page_is_whole plan.shift least; room = omega (arith, long) }, tt)
  write_whole c cmd a n before cmd_is answer_is frame_is = tt

  pub all_whole : AllByRecursion (IsWhole plan) (writes_of plan e)
  all_whole = by_frame e.saw.frame refl where
    by_frame : (frame : Option ℕ) → e.saw.frame ≡ frame → AllByRecursion (IsWhole plan) (writes_in plan.shift e.saw.before e.trace.cmd e.trace.answer e.bytes frame)
    by_frame None is = tt
    by_frame (Some n) is = write_whole e.saw.before e.trace.cmd e.trace.answer n refl refl refl is

-- so a frame keeps its size
pub writes_fill : (plan : Plan) (n : ℕ) (writes : List Write) (bytes : List ℕ) → AllByRecursion (IsWhole plan) writes → length bytes ≡ 2 ^ plan.shift → length (after_writes n bytes writes) ≡ 2 ^ plan.shift
writes_fill plan n [] bytes whole size = size
writes_fill plan n (write ∷ more) bytes whole size = writes_fill plan n more (put (write.frame == n)) whole.1 (by_frame (write.frame == n)) where
  put : Bool → List ℕ
  put b = if b then overwritten bytes write.offset write.bytes else bytes

  by_frame : (b : Bool) → length (put b) ≡ 2 ^ plan.shift
  by_frame true = length-overwritten bytes write.bytes write.offset (let room = whole.0.room in omega arith) ∙ size
  by_frame false = size
