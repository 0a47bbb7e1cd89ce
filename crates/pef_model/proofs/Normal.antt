-- Normal memory holds what was last stored there.
use Rattle.std.proofs.Common.{◌≡◌, ◌≢◌, ℕ, ◌+◌, ◌^◌, ◌<◌, ◌≤◌, List, [], ◌∷◌, length, Bool, true, false, refl, ap, sym, subst, ◌∙◌, ◌==◌, if◌then◌else◌, Option, Some, None, arith, ◌%◌, ◌-◌, nat_le, nat_lt, ◌&&◌, inr, inl}
use Rattle.std.specs.Prelude.{unwrap_or}
use Rattle.std.specs.List.{AllByRecursion}
use Rattle.std.proofs.lemmas.Bool.Decides.{nat_tests}
use Rattle.std.proofs.lemmas.List.{length-replicate}
use Rattle.pef_model.specs.declared.config.Config.{Config}
use Rattle.pef_model.specs.declared.state.Work.TheVariants.{Inward}
use Rattle.pef_model.specs.declared.state.Ctx.{Ctx}
use Rattle.pef_model.specs.declared.state.Ctx.TheVariants as ctx
use Rattle.pef_model.specs.declared.command.Cmd.{Cmd}
use Rattle.pef_model.specs.declared.command.Cmd.TheVariants.{HSt}
use Rattle.pef_model.specs.declared.entry.Answer.TheVariants.{Done}
use Rattle.pef_model.specs.Commands.{IsCommand}
use Rattle.pef_model.specs.Plan.{Plan, plan_of, IsInRange}
use Rattle.pef_model.specs.Event.{Event}
use Rattle.pef_model.specs.Doubleword.{doubleword, with_doubleword}
use Rattle.pef_model.specs.Target.{frame_of, target_in, is_guest, is_number, touches_guest, touches_frame}
use Rattle.pef_model.specs.Memory.{offset_of, write_in, writes_in, after_writes, overwritten, next_frame, start_frame, Write, either_of, writes_of, covers, written_at}
use Rattle.pef_model.specs.Guest.{start_guest, next_guest}
use Rattle.pef_model.specs.History.{frame_after, last_norm, IsLegal}
use Rattle.pef_model.specs.NormalLaw.{FramesHoldLastNorm, StepLeavesFrames, StoreLeavesGuests, StoreIsLastNorm}
use Rattle.byteorder.specs.Endian.{big_bytes}
use Rattle.pef_model.proofs.Written.{doubleword_overwrites, frame_written}
use Rattle.pef_model.proofs.Folds.{test_same, same_test, skips}
use Rattle.pef_model.proofs.Aims.{address_is_no_guest}
use Rattle.pef_model.proofs.Doublewords.{doubleword-put, doubleword-zeros, overwritten_inside, overwritten_outside, length-overwritten}
use Rattle.pef_model.proofs.Places.{room_at, offset_aligned}
use Rattle.pef_model.proofs.Placed.{store_is_placed, aligned}
use Rattle.pef_model.proofs.Whole.{IsWhole, all_whole}
use Rattle.pef_model.proofs.Hands.{all_fill}

-- a step changes no normal frame but the one that it tells
pub step_leaves_frames : StepLeavesFrames
step_leaves_frames plan past e n other = skips (touches_frame n) (next_frame plan n) (start_frame plan) e past (untold e.saw.frame other) where
  untold : (frame : Option ℕ) → frame ≢ Some n → is_number n frame ≡ false
  untold None other = refl
  untold (Some m) other = by_test (m == n) refl where
    by_test : (b : Bool) → (m == n) ≡ b → b ≡ false
    by_test true t = absurd (other (ap Some (test_same m n t)))
    by_test false t = refl

-- the hypervisor's store aims at no guest, in whatever context
store_aims_at_none : (plan : Plan) (c : Ctx) (l ra value lpid : ℕ) → is_guest lpid (target_in plan c l (HSt ra value)) ≡ false
store_aims_at_none plan ctx.Hv l ra value lpid = address_is_no_guest plan ra lpid
store_aims_at_none plan (ctx.Uv (Inward move)) l ra value lpid = refl
store_aims_at_none plan (ctx.Uv work) l ra value lpid = refl
store_aims_at_none plan (ctx.Guest run) l ra value lpid = refl

-- so no store changes a guest
pub store_leaves_guests : StoreLeavesGuests
store_leaves_guests plan past e ra value lpid is =
    skips (touches_guest plan lpid) (next_guest plan) (start_guest plan lpid) e past
    (ap (λ (cmd : Cmd). is_guest lpid (target_in plan e.saw.before e.saw.lpid cmd)) is ∙ store_aims_at_none plan e.saw.before e.saw.lpid ra value lpid)

-- a frame has the size of a page, and this doubleword at a real address of it
pub record Holds (plan : Plan) (bytes : List ℕ) (ra value : ℕ) : Type 0 where
  pub size : length bytes ≡ 2 ^ plan.shift
  pub value_is : doubleword bytes (offset_of plan ra) ≡ value

-- what one write leaves at an address of its frame
write_holds : (plan : Plan) (bytes : List ℕ) (ra old : ℕ) (write : Write) → 8 ≤ plan.shift → ra % 8 ≡ 0 → IsWhole plan write → Holds plan bytes ra old →
    Holds plan (if write.frame == frame_of plan ra then overwritten bytes write.offset write.bytes else bytes) ra
    (unwrap_or (if covers plan write ra then Some (doubleword write.bytes (offset_of plan ra - write.offset)) else None) old)
write_holds plan bytes ra old write least here whole holds = by_frame (write.frame == frame_of plan ra) where
  off : ℕ
  off = offset_of plan ra

  at_eight : off % 8 ≡ 0
  at_eight = offset_aligned plan.shift ra least here

  fits : write.offset + length write.bytes ≤ length bytes
  fits = let size = holds.size in let room = whole.room in omega arith

  new : List ℕ
  new = overwritten bytes write.offset write.bytes

  value : Bool → Option ℕ
  value b = if b then Some (doubleword write.bytes (off - write.offset)) else None

  by_place : (b c : Bool) → nat_le write.offset off ≡ b → nat_lt off (write.offset + length write.bytes) ≡ c → doubleword new off ≡ unwrap_or (value (b && c)) old
  by_place true true s t =
      let low : write.offset ≤ off = grind (arith, nat_tests) in
      let high : off < write.offset + length write.bytes = grind (arith, nat_tests) in
      let x = whole.offset in
      let y = whole.size in
      overwritten_inside bytes write.bytes write.offset off fits low (omega (arith, at_eight))
  by_place true false s t =
      let high : write.offset + length write.bytes ≤ off = grind (arith, nat_tests) in
      overwritten_outside bytes write.bytes write.offset off fits (inr high) ∙ holds.value_is
  by_place false c s t =
      let low : off < write.offset = grind (arith, nat_tests) in
      let x = whole.offset in
      overwritten_outside bytes write.bytes write.offset off fits (inl (omega (arith, at_eight))) ∙ holds.value_is

  by_frame : (b : Bool) → Holds plan (if b then new else bytes) ra (unwrap_or (value (b && nat_le write.offset off && nat_lt off (write.offset + length write.bytes))) old)
  by_frame true = record { size = length-overwritten bytes write.bytes write.offset fits ∙ holds.size; value_is = by_place (nat_le write.offset off) (nat_lt off (write.offset + length write.bytes)) refl refl }
  by_frame false = holds

either_or : (x y : Option ℕ) (old : ℕ) → unwrap_or (either_of x y) old ≡ unwrap_or x (unwrap_or y old)
either_or (Some v) y old = refl
either_or None y old = refl

-- what writes leave there, one after another
writes_hold : (plan : Plan) (ra : ℕ) (writes : List Write) (bytes : List ℕ) (old : ℕ) → 8 ≤ plan.shift → ra % 8 ≡ 0 → AllByRecursion (IsWhole plan) writes → Holds plan bytes ra old →
    Holds plan (after_writes (frame_of plan ra) bytes writes) ra (unwrap_or (written_at plan ra writes) old)
writes_hold plan ra [] bytes old least here whole holds = holds
writes_hold plan ra (write ∷ more) bytes old least here whole holds =
    let value : Option ℕ = if covers plan write ra then Some (doubleword write.bytes (offset_of plan ra - write.offset)) else None in
    subst (λ (v : ℕ). Holds plan (after_writes (frame_of plan ra) bytes (write ∷ more)) ra v) (sym (either_or (written_at plan ra more) value old))
    (writes_hold plan ra more (if write.frame == frame_of plan ra then overwritten bytes write.offset write.bytes else bytes) (unwrap_or value old) least here whole.1 (write_holds plan bytes ra old write least here whole.0 holds))

-- each write of a legal history is made of doublewords within a frame
written_whole : (config : Config) (past : List Event) (e : Event) → IsInRange config → IsLegal (plan_of config) (e ∷ past) → AllByRecursion (IsWhole (plan_of config)) (writes_of (plan_of config) e)
written_whole config past e range legal = let fill = all_fill config past range legal.1 in all_whole (plan_of config) past e range.shift.0 legal.0 (fill.hands e.trace.cpu)

-- so the frames hold what was last written
pub frame_holds : (config : Config) (past : List Event) (ra : ℕ) → IsInRange config → IsLegal (plan_of config) past → ra % 8 ≡ 0 →
    Holds (plan_of config) (frame_after (plan_of config) (frame_of (plan_of config) ra) past) ra (last_norm (plan_of config) past ra)
frame_holds config [] ra range legal here = record {
  size = length-replicate (2 ^ config.shift) 0;
  value_is = doubleword-zeros (2 ^ config.shift) (offset_of (plan_of config) ra);
}
frame_holds config (e ∷ past) ra range legal here =
    let plan : Plan = plan_of config in
    let n : ℕ = frame_of plan ra in
    subst (λ (bytes : List ℕ). Holds plan bytes ra (last_norm plan (e ∷ past) ra)) (sym (frame_written plan e past n))
    (writes_hold plan ra (writes_of plan e) (frame_after plan n past) (last_norm plan past ra) range.shift.0 here (written_whole config past e range legal) (frame_holds config past ra range legal.1 here))

-- the doubleword at an address is the one last written there
pub frames_hold_last_norm : FramesHoldLastNorm
frames_hold_last_norm config past ra range legal placed = let holds = frame_holds config past ra range legal (aligned (plan_of config) ra placed) in holds.value_is

-- after a store it is the value that was stored
pub store_is_last_norm : StoreIsLastNorm
store_is_last_norm config past e ra value range legal before cmd_is answer_is =
    let plan : Plan = plan_of config in
    let n : ℕ = frame_of plan ra in
    let off : ℕ = offset_of plan ra in
    let old : List ℕ = frame_after plan n past in
    let command : IsCommand (HSt ra value) = subst IsCommand cmd_is legal.0.command in
    let placed = store_is_placed plan past e ra value legal.0 before cmd_is answer_is in
    let now = frame_holds config past ra range legal.1 (aligned plan ra placed.place) in
    let fits : off + 8 ≤ length old = let room = room_at plan.shift ra range.shift.0 (aligned plan ra placed.place) in let size = now.size in omega arith in
    let writes : writes_of plan e ≡ write_in plan.shift ctx.Hv (HSt ra value) Done e.bytes n = (λ i. writes_in plan.shift (before i) (cmd_is i) (answer_is i) e.bytes (placed.frame i)) in
    let written : frame_after plan n (e ∷ past) ≡ with_doubleword old off value =
    frame_written plan e past n ∙ ap (after_writes n old) writes ∙ ap (λ (b : Bool). if b then overwritten old off (big_bytes 8 value) else old) (same_test n) ∙ doubleword_overwrites old off value in
    sym (frames_hold_last_norm config (e ∷ past) ra range legal placed.place) ∙ ap (λ (bytes : List ℕ). doubleword bytes off) written ∙ doubleword-put old off value fits command.1
