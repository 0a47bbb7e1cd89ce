-- The entries that touch a normal frame decide what was last written there.
use Rattle.std.proofs.Common.{◌≡◌, ℕ, List, [], ◌∷◌, Bool, true, false, nat_le, nat_lt, ◌+◌, ◌-◌, ◌==◌, ◌&&◌, length, if◌then◌else◌, Option, Some, None, refl, ap, sym, ◌∙◌}
use Rattle.std.specs.Prelude.{unwrap_or}
use Rattle.std.specs.List.{filter}
use Rattle.pef_model.specs.declared.state.Work.TheVariants.{Outward}
use Rattle.pef_model.specs.declared.state.Ctx.{Ctx}
use Rattle.pef_model.specs.declared.state.Ctx.TheVariants as ctx
use Rattle.pef_model.specs.declared.command.Cmd.{Cmd}
use Rattle.pef_model.specs.declared.command.Cmd.TheVariants.{HSt, GSt, Go}
use Rattle.pef_model.specs.declared.entry.Answer.{Answer}
use Rattle.pef_model.specs.declared.entry.Answer.TheVariants.{Done, Step}
use Rattle.byteorder.specs.Endian.{big_bytes}
use Rattle.pef_model.specs.Plan.{Plan}
use Rattle.pef_model.specs.Event.{Event}
use Rattle.pef_model.specs.Doubleword.{doubleword}
use Rattle.pef_model.specs.Target.{frame_of, is_number, touches_frame}
use Rattle.pef_model.specs.Memory.{offset_of, either_of, written_at, write_in, writes_in, writes_of}
use Rattle.pef_model.specs.History.{last_norm}
use Rattle.pef_model.proofs.Folds.{keeps, leaves}

-- a write into another frame leaves nothing at a real address
written_elsewhere : (plan : Plan) (ra m offset : ℕ) (bytes : List ℕ) → (m == frame_of plan ra) ≡ false → written_at plan ra (record { frame = m; offset = offset; bytes = bytes } ∷ []) ≡ None
written_elsewhere plan ra m offset bytes other =
    ap (λ (b : Bool). either_of None (if b && nat_le offset (offset_of plan ra) && nat_lt (offset_of plan ra) (offset + length bytes) then Some (doubleword bytes (offset_of plan ra - offset)) else None)) other

-- so does a step that tells another frame, or none
unwritten : (plan : Plan) (ra m : ℕ) → (m == frame_of plan ra) ≡ false → (c : Ctx) (cmd : Cmd) (a : Answer) (bytes : List ℕ) → written_at plan ra (write_in plan.shift c cmd a bytes m) ≡ None
unwritten plan ra m other ctx.Hv (HSt at value) Done bytes = written_elsewhere plan ra m (offset_of plan at) (big_bytes 8 value) other
unwritten plan ra m other (ctx.Guest run) (GSt rs gpa) Done bytes = written_elsewhere plan ra m (offset_of plan gpa) bytes other
unwritten plan ra m other (ctx.Uv (Outward move)) Go Step bytes = written_elsewhere plan ra m 0 bytes other
unwritten plan ra m other c cmd a bytes = refl

untold : (plan : Plan) (ra : ℕ) (c : Ctx) (cmd : Cmd) (a : Answer) (bytes : List ℕ) (frame : Option ℕ) → is_number (frame_of plan ra) frame ≡ false → written_at plan ra (writes_in plan.shift c cmd a bytes frame) ≡ None
untold plan ra c cmd a bytes None other = refl
untold plan ra c cmd a bytes (Some m) other = unwritten plan ra m other c cmd a bytes

-- by induction over the history
pub own_entries_write : (plan : Plan) (ra : ℕ) (past : List Event) → last_norm plan (filter (touches_frame (frame_of plan ra)) past) ra ≡ last_norm plan past ra
own_entries_write plan ra [] = refl
own_entries_write plan ra (e ∷ past) = by_test (own_entries_write plan ra past) (touches_frame (frame_of plan ra) e) refl where
  by_test : last_norm plan (filter (touches_frame (frame_of plan ra)) past) ra ≡ last_norm plan past ra → (b : Bool) → touches_frame (frame_of plan ra) e ≡ b → last_norm plan (filter (touches_frame (frame_of plan ra)) (e ∷ past)) ra ≡ last_norm plan (e ∷ past) ra
  by_test ih true t =
      ap (λ (history : List Event). last_norm plan history ra) (keeps (touches_frame (frame_of plan ra)) e past t) ∙ ap (unwrap_or (written_at plan ra (writes_of plan e))) ih
  by_test ih false t =
      ap (λ (history : List Event). last_norm plan history ra) (leaves (touches_frame (frame_of plan ra)) e past t) ∙ ih
      ∙ sym (ap (λ (o : Option ℕ). unwrap_or o (last_norm plan past ra)) (untold plan ra e.saw.before e.trace.cmd e.trace.answer e.bytes e.saw.frame t))
