-- Each normal frame is what the writes of the view leave.
use Rattle.std.proofs.Common.{◌≡◌, ℕ, List, [], ◌∷◌, ◌++◌, length, take, Bool, true, false, refl, ap, sym, ◌∙◌, ◌==◌, if◌then◌else◌, Option, Some, None, arith}
use Rattle.std.proofs.Math.ListN.{drop_of_length-le}
use Rattle.std.proofs.lemmas.List.{append-nil, drop-drop}
use Rattle.pef_model.specs.Doubleword.{with_doubleword}
use Rattle.byteorder.specs.Endian.{big_bytes}
use Rattle.pef_model.specs.declared.state.Work.TheVariants.{Outward}
use Rattle.pef_model.specs.declared.state.Ctx.{Ctx}
use Rattle.pef_model.specs.declared.state.Ctx.TheVariants as ctx
use Rattle.pef_model.specs.declared.command.Cmd.{Cmd}
use Rattle.pef_model.specs.declared.command.Cmd.TheVariants.{HSt, GSt, Go}
use Rattle.pef_model.specs.declared.entry.Answer.{Answer}
use Rattle.pef_model.specs.declared.entry.Answer.TheVariants.{Done, Step}
use Rattle.pef_model.specs.Plan.{Plan}
use Rattle.pef_model.specs.Event.{Event}
use Rattle.pef_model.specs.Target.{touches_frame, is_number}
use Rattle.pef_model.specs.Memory.{offset_by, write_in, writes_in, writes_of, after_writes, overwritten, next_frame, start_frame}
use Rattle.pef_model.specs.History.{frame_after}
use Rattle.pef_model.specs.NormalLaw.{WritesMakeFrames}
use Rattle.pef_model.proofs.Folds.{counts, skips}

-- a doubleword that is put overwrites eight bytes
pub doubleword_overwrites : (old : List ℕ) (offset value : ℕ) → overwritten old offset (big_bytes 8 value) ≡ with_doubleword old offset value
unfolding with_doubleword
doubleword_overwrites old offset value = ap (λ (rest : List ℕ). take offset old ++ (big_bytes 8 value ++ rest)) (sym (drop-drop 8 offset old))

-- as many bytes as there are overwrite all
pub all_overwritten : (old bytes : List ℕ) → length old ≡ length bytes → overwritten old 0 bytes ≡ bytes
all_overwritten old bytes same =
    ap (λ (rest : List ℕ). bytes ++ rest) (drop_of_length-le old (omega (arith, same))) ∙ append-nil bytes

-- a step writes in no other frame than the one that it tells
elsewhere : (shift : ℕ) (n m : ℕ) (old : List ℕ) (c : Ctx) (cmd : Cmd) (a : Answer) (bytes : List ℕ) → (m == n) ≡ false → after_writes n old (write_in shift c cmd a bytes m) ≡ old
elsewhere shift n m old ctx.Hv (HSt ra value) Done bytes other = ap (λ (b : Bool). if b then overwritten old (offset_by shift ra) (big_bytes 8 value) else old) other
elsewhere shift n m old (ctx.Uv (Outward move)) Go Step bytes other = ap (λ (b : Bool). if b then overwritten old 0 bytes else old) other
elsewhere shift n m old (ctx.Guest run) (GSt rs gpa) Done bytes other = ap (λ (b : Bool). if b then overwritten old (offset_by shift gpa) bytes else old) other
elsewhere shift n m old c cmd a bytes other = refl

pub untouched : (shift : ℕ) (n : ℕ) (old : List ℕ) (c : Ctx) (cmd : Cmd) (a : Answer) (bytes : List ℕ) (frame : Option ℕ) → is_number n frame ≡ false → after_writes n old (writes_in shift c cmd a bytes frame) ≡ old
untouched shift n old c cmd a bytes None other = refl
untouched shift n old c cmd a bytes (Some m) other = elsewhere shift n m old c cmd a bytes other

-- so a frame is what the writes make of it, whether an entry touches it or not
pub frame_written : (plan : Plan) (e : Event) (past : List Event) (n : ℕ) → frame_after plan n (e ∷ past) ≡ after_writes n (frame_after plan n past) (writes_of plan e)
frame_written plan e past n = by_test (touches_frame n e) refl where
  by_test : (b : Bool) → touches_frame n e ≡ b → frame_after plan n (e ∷ past) ≡ after_writes n (frame_after plan n past) (writes_of plan e)
  by_test true t = counts (touches_frame n) (next_frame plan n) (start_frame plan) e past t
  by_test false t = skips (touches_frame n) (next_frame plan n) (start_frame plan) e past t
      ∙ sym (untouched plan.shift n (frame_after plan n past) e.saw.before e.trace.cmd e.trace.answer e.bytes e.saw.frame t)

-- by induction over the history
pub writes_make_frames : WritesMakeFrames
writes_make_frames plan [] n = refl
writes_make_frames plan (e ∷ past) n = ap (λ (old : List ℕ). after_writes n old (writes_of plan e)) (writes_make_frames plan past n) ∙ sym (frame_written plan e past n)
