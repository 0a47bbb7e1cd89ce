-- A step at a guest that is lent a normal frame leaves the others, and in it what the model says.
use Rattle.std.proofs.lemmas.Bool.{cases_eq}
use Rattle.std.proofs.Common.{◌≡◌, ℕ, ◌+◌, ◌-◌, ◌^◌, ◌<◌, Bool, true, false, List, [], length, Option, Some, None, option_map, refl, ap, sym, subst, ◌∙◌, arith, get_or, ◌∷◌, ◌≢◌, ◌⊎◌, inl, inr}
use Rattle.std.specs.Prelude.{slice_get, slice_set}
use Rattle.std.proofs.Math.ListN.{length-set}
use Rattle.std.proofs.lemmas.List.{set-get_or, get_or-set_same, get_or-set_other}
use Rattle.pef_model.specs.declared.state.Ctx.{Ctx}
use Rattle.pef_model.specs.declared.state.Ctx.TheVariants as ctx
use Rattle.pef_model.specs.declared.state.Work.TheVariants.{Inward, Outward}
use Rattle.pef_model.specs.declared.command.Cmd.{Cmd}
use Rattle.pef_model.specs.declared.command.Cmd.TheVariants.{HSt, GSt, Go}
use Rattle.pef_model.specs.declared.entry.Answer.{Answer}
use Rattle.pef_model.specs.declared.entry.Answer.TheVariants as answer
use Rattle.pef_model.specs.Plan.{Plan}
use Rattle.pef_model.specs.Event.{Event}
use Rattle.pef_model.specs.Doubleword.{doubleword}
use Rattle.pef_model.specs.Target.{Target, AtGuest, target_in}
use Rattle.pef_model.specs.Memory.{write_in, writes_in, after_writes, next_frame}
use Rattle.pef_model.specs.History.{frame_after, found_after}
use Rattle.pef_guest.specs.declared.cpu.Cpu.{Cpu}
use Rattle.pef_guest.specs.declared.guest.Guest.{Guest}
use Rattle.pef_guest.specs.Does.{NormalPart, IsFoundIn, TellsFrame}
use Rattle.pef_core.specs.Normal.{NormalState, frame_at, ShowsNormal, AreFrames}
use Rattle.pef_core.specs.State.{guest_at}
use Rattle.pef_core.specs.Lent.{frame_needed, bytes_stored, LeavesLent}
use Rattle.pef_core.specs.Alone.{frame_through, frame_touched, bytes_through, bytes_written, AreWritten, LeavesNormal}
use Rattle.pef_core.proofs.Fitting.{frames_stay, frame_written}
use Rattle.pef_core.proofs.Alone.{none_written, one_frame}

-- the frame that a step was lent is one of these, and has other bytes afterwards
pub record PutsOne (old : NormalState) (frame : NormalPart) (left : List ℕ) (new : NormalState) : Type 0 where
  pub below : frame.number < length old.frames
  pub bytes : frame.bytes ≡ frame_at old.frames frame.number
  pub rest : new ≡ record old { frames = slice_set old.frames frame.number left }

-- the normal frames after a step that may be lent one
abbrev pub PutsFrame : NormalState → Option NormalPart → List ℕ → NormalState → Type 0
PutsFrame old None left new = new ≡ old
PutsFrame old (Some frame) left new = PutsOne old frame left new

-- whether a step with this answer writes nothing into a frame that it was lent
abbrev pub writes_nothing : Answer → Bool
writes_nothing answer.Done = false
writes_nothing answer.Step = false
writes_nothing other = true

nothing_written : (shift n : ℕ) (bytes : List ℕ) (c : Ctx) (cmd : Cmd) (a : Answer) → writes_nothing a ≡ true → write_in shift c cmd a bytes n ≡ []
nothing_written shift n bytes c cmd answer.Done none = cc
nothing_written shift n bytes c cmd answer.Step none = cc
nothing_written shift n bytes ctx.Hv (HSt ra value) a none = refl
nothing_written shift n bytes ctx.Hv cmd a none = refl
nothing_written shift n bytes (ctx.Guest run) (GSt rs gpa) a none = refl
nothing_written shift n bytes (ctx.Guest run) cmd a none = refl
nothing_written shift n bytes (ctx.Uv (Inward move)) cmd a none = refl
nothing_written shift n bytes (ctx.Uv (Outward move)) Go a none = refl
nothing_written shift n bytes (ctx.Uv (Outward move)) cmd a none = refl
nothing_written shift n bytes (ctx.Uv work) cmd a none = refl

module _ (old new : NormalState) (left : List ℕ) where
  -- they are as many, and of one size
  pub lent_shift : (frame : Option NormalPart) → PutsFrame old frame left new → new.shift ≡ old.shift
  lent_shift None puts = ap (λ (x : NormalState). x.shift) puts
  lent_shift (Some frame) puts = ap (λ (x : NormalState). x.shift) puts.rest

  pub lent_count : (frame : Option NormalPart) → PutsFrame old frame left new → length new.frames ≡ length old.frames
  lent_count None puts = ap (λ (x : NormalState). length x.frames) puts
  lent_count (Some frame) puts = ap (λ (x : NormalState). length x.frames) puts.rest ∙ length-set old.frames frame.number left

  -- what the step finds there is what the model has
  pub found_lent : (plan : Plan) (past : List Event) (frame : Option NormalPart) → PutsFrame old frame left new → ShowsNormal plan old (λ n. frame_after plan n past) → IsFoundIn frame (found_after plan past)
  found_lent plan past None puts shows = tt
  found_lent plan past (Some frame) puts shows =
      λ offset. ap (λ (bytes : List ℕ). doubleword bytes offset) (sym (puts.bytes ∙ shows.bytes frame.number (subst (λ (k : ℕ). frame.number < k) shows.count puts.below)))

  -- and what it leaves is what its entry leaves
  pub shows_lent : (plan : Plan) (past : List Event) (e : Event) (frame : Option NormalPart) → PutsFrame old frame left new → TellsFrame plan e frame left → ShowsNormal plan old (λ n. frame_after plan n past) →
      ShowsNormal plan new (λ n. frame_after plan n (e ∷ past))
  shows_lent plan past e None puts tells shows = subst (λ (x : NormalState). ShowsNormal plan x (λ n. frame_after plan n (e ∷ past))) (sym puts) (frames_stay plan past e old tells shows)
  shows_lent plan past e (Some frame) puts tells shows =
      subst (λ (x : NormalState). ShowsNormal plan x (λ n. frame_after plan n (e ∷ past))) (sym puts.rest)
      (frame_written plan past e old frame.number left tells.0 puts.below (tells.1 ∙ ap (λ (bytes : List ℕ). next_frame plan frame.number bytes e) puts.bytes) shows)

  module _ {S : Type 0} (guest : Guest S) (cpu : Cpu) (cmd : Cmd) (a : Answer) where
    -- a step that writes nothing leaves each as it was
    pub unwritten : (frame : Option NormalPart) → PutsFrame old frame left new → LeavesLent guest cpu cmd a frame left → writes_nothing a ≡ true → new ≡ old
    unwritten None puts leaves none = puts
    unwritten (Some frame) puts leaves none =
        let kept : left ≡ get_or old.frames frame.number [] = leaves.written ∙ ap (after_writes frame.number frame.bytes) (nothing_written guest.shift frame.number (bytes_stored guest cpu.ctx cmd) cpu.ctx cmd a none) ∙ puts.bytes in
        puts.rest ∙ (λ i. record old { frames = (ap (slice_set old.frames frame.number) kept ∙ set-get_or old.frames frame.number []) i })

    -- it leaves in the frame what the definitions say, and in the others what they had
    pub lent_written : (guests : List (Guest S)) (plan : Plan) (i : ℕ) (frame : Option NormalPart) → slice_get guests i ≡ Some guest → plan.shift ≡ guest.shift → target_in plan cpu.ctx cpu.lpid cmd ≡ AtGuest (i + 1) →
        frame_needed guest cpu.ctx cmd ≡ option_map (λ (part : NormalPart). part.number) frame → PutsFrame old frame left new → LeavesLent guest cpu cmd a frame left → LeavesNormal guests plan cpu cmd a old new
    lent_written guests plan i frame here shift at needed puts leaves = by_frame frame needed puts leaves where
      there : guest_at guests (i + 1) ≡ Some guest
      there = (let place : i + 1 - 1 ≡ i = omega arith in ap (slice_get guests) place) ∙ here

      touched : (part : Option NormalPart) → frame_needed guest cpu.ctx cmd ≡ option_map (λ (one : NormalPart). one.number) part → frame_touched guests cpu.ctx cmd (AtGuest (i + 1)) ≡ option_map (λ (one : NormalPart). one.number) part
      touched part needs = ap (λ (o : Option (Guest S)). frame_through o cpu.ctx cmd) there ∙ needs

      stored : bytes_written guests cpu cmd (AtGuest (i + 1)) ≡ bytes_stored guest cpu.ctx cmd
      stored = ap (λ (o : Option (Guest S)). bytes_through o cpu cmd) there

      by_frame : (part : Option NormalPart) → frame_needed guest cpu.ctx cmd ≡ option_map (λ (one : NormalPart). one.number) part → PutsFrame old part left new → LeavesLent guest cpu cmd a part left → LeavesNormal guests plan cpu cmd a old new
      by_frame None needs same kept = subst (LeavesNormal guests plan cpu cmd a old) (sym same) (none_written guests plan cpu cmd a old (AtGuest (i + 1)) (touched None needs) at tt)
      by_frame (Some part) needs one kept = record {
        written = subst (λ (x : Target). AreWritten (writes_in plan.shift cpu.ctx cmd a (bytes_written guests cpu cmd x) (frame_touched guests cpu.ctx cmd x)) old new) (sym at)
            (subst (λ (o : Option ℕ). AreWritten (writes_in plan.shift cpu.ctx cmd a (bytes_written guests cpu cmd (AtGuest (i + 1))) o) old new) (sym (touched (Some part) needs))
            (subst (λ (bytes : List ℕ). AreWritten (writes_in plan.shift cpu.ctx cmd a bytes (Some part.number)) old new) (sym stored)
            (one_frame plan.shift cpu cmd a (bytes_stored guest cpu.ctx cmd) old new part.number rest written)));
        answers = λ n ask is before. absurd (let two = sym at ∙ is in cc);
      } where
        put : frame_at new.frames part.number ≡ left
        put = ap (λ (x : NormalState). frame_at x.frames part.number) one.rest ∙ get_or-set_same old.frames part.number left [] one.below

        rest : new ≡ record old { frames = slice_set old.frames part.number (frame_at new.frames part.number) }
        rest = one.rest ∙ ap (λ (bytes : List ℕ). record old { frames = slice_set old.frames part.number bytes }) (sym put)

        written : frame_at new.frames part.number ≡ after_writes part.number (frame_at old.frames part.number) (write_in plan.shift cpu.ctx cmd a (bytes_stored guest cpu.ctx cmd) part.number)
        written =
            put ∙ kept.written ∙ ap (λ (bytes : List ℕ). after_writes part.number bytes (write_in guest.shift cpu.ctx cmd a (bytes_stored guest cpu.ctx cmd) part.number)) one.bytes
            ∙ ap (λ (s : ℕ). after_writes part.number (frame_at old.frames part.number) (write_in s cpu.ctx cmd a (bytes_stored guest cpu.ctx cmd) part.number)) (sym shift)

-- other bytes of the same length in one of the frames
pub frames_put : (normal : NormalState) (n : ℕ) (new : List ℕ) → AreFrames normal → n < length normal.frames → length new ≡ length (frame_at normal.frames n) → AreFrames (record normal { frames = slice_set normal.frames n new })
frames_put normal n new are below size = record {
  shift = are.shift;
  sizes = λ k less. by_place k (subst (λ (m : ℕ). k < m) (length-set normal.frames n new) less) (cases_eq k n);
  few = subst (λ (m : ℕ). m < 2 ^ 32) (sym (length-set normal.frames n new)) are.few;
} where
  by_place : (k : ℕ) → k < length normal.frames → (k ≡ n) ⊎ (k ≢ n) → length (frame_at (slice_set normal.frames n new) k) ≡ 2 ^ normal.shift
  by_place k less (inl same) = subst (λ (j : ℕ). length (frame_at (slice_set normal.frames n new) j) ≡ 2 ^ normal.shift) (sym same) (ap length (get_or-set_same normal.frames n new [] below) ∙ size ∙ are.sizes n below)
  by_place k less (inr other) = ap length (get_or-set_other normal.frames n k new [] other) ∙ are.sizes k less
