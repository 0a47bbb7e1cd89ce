-- A step on its CPU alone, and one at a normal frame, do what every step of the machine does.
use Rattle.std.proofs.Common.{◌≡◌, ℕ, ◌<◌, ◌%◌, ◌^◌, ◌==◌, ◌&&◌, nat_lt, nat_le, Bool, true, false, if◌then◌else◌, List, [], ◌∷◌, length, ◌⊎◌, inl, inr, ◌≢◌, Some, None, refl, ap, sym, subst, ◌∙◌, arith}
use Rattle.std.specs.Prelude.{slice_get, slice_set}
use Rattle.std.proofs.Math.ListN.{length-set}
use Rattle.std.proofs.lemmas.Bool.{and_parts}
use Rattle.std.proofs.lemmas.Bool.Decides.{nat_tests}
use Rattle.pef_model.specs.declared.state.Work.TheVariants.{Inward, Outward, Share, Unshare, UnshareAll, Esm}
use Rattle.pef_model.specs.declared.state.Ctx.{Ctx}
use Rattle.pef_model.specs.declared.state.Ctx.TheVariants as ctx
use Rattle.pef_model.specs.declared.state.Tag.{Tag}
use Rattle.pef_model.specs.declared.state.Run.{Run}
use Rattle.pef_model.specs.declared.aim.Aim.{Aim}
use Rattle.pef_model.specs.declared.aim.Aim.TheVariants as aim
use Rattle.pef_model.specs.declared.command.Cmd.{Cmd}
use Rattle.pef_model.specs.declared.command.Cmd.TheVariants.{HLd, HSt, Go, HSelect, HEnter}
use Rattle.pef_model.specs.declared.entry.Answer.{Answer}
use Rattle.pef_model.specs.declared.entry.Answer.TheVariants as answer
use Rattle.pef_model.specs.Commands.{IsCommand}
use Rattle.pef_model.specs.Plan.{Plan}
use Rattle.pef_model.specs.Event.{Event, Mark}
use Rattle.pef_model.specs.Target.{Ask, Target, Alone, AtGuest, AtFrame, frame_of, has_real_place, aim_in, target_of_aim, target_in, is_guest, touches_frame, is_number}
use Rattle.pef_model.specs.Cpu.{CpuPart}
use Rattle.pef_model.specs.Deed.{deed_frame, deed_frame_in}
use Rattle.pef_model.specs.History.{ask_of, cpu_after, frame_after, entry_of, next_entry}
use Rattle.pef_guest.specs.declared.cpu.Cpu.{Cpu}
use Rattle.pef_guest.specs.declared.guest.Guest.{Guest}
use Rattle.pef_guest.specs.Refused.{RefusesCpu}
use Rattle.pef_core.specs.State.{State, IsCpuOf, IsVcpu, IsWholeMachine, Works}
use Rattle.pef_core.specs.Steps.{Continues}
use Rattle.pef_core.specs.Refused.{LeavesRest}
use Rattle.pef_core.specs.Alone.{LeavesNormal}
use Rattle.pef_core.proofs.Entries.{entry_at}
use Rattle.pef_core.proofs.Continuing.{mark_at, alone, makes_alone}
use Rattle.pef_core.proofs.Places.{selection_stays, one_of, sized}
use Rattle.pef_core.proofs.WholeAfter.{whole_cpu}
use Rattle.pef_core.proofs.Leaving.{on_cpu}
use Rattle.pef_core.proofs.Alone.{one_written, alone_frame, alone_cpu}
use Rattle.pef_core.specs.Normal.{NormalState, frame_at, ShowsNormal}
use Rattle.pef_core.specs.Frames.{IsAtFrame, AimsAtFrame, ctx_copied, IsDone, RowFrame, DoesFrame}
use Rattle.pef_core.specs.Does.{Targets, MayBeAtNone, MayAimAtNone, RefusesOwn, DoesOwn, DoesStep}
use Rattle.std.proofs.lemmas.List.{get_or-set_same, get_or-set_other}
use Rattle.std.proofs.lemmas.Bool.{cases_eq, ne_eqb}
use Rattle.pef_model.specs.Memory.{next_frame}
use Rattle.pef_model.proofs.Folds.{same_test}
use Rattle.pef_model.proofs.Placed.{aligned}

-- what aims at nothing
not_moved : (b : Bool) (lpid n : ℕ) → (if b then AtGuest lpid else AtFrame n) ≡ Alone → ⊥
not_moved true lpid n is = cc
not_moved false lpid n is = cc

may_be : (plan : Plan) (a : Aim) → target_of_aim plan a ≡ Alone → MayBeAtNone a
may_be plan (aim.Guest lpid) is = cc
may_be plan (aim.Move move) is = not_moved move.copied move.lpid move.frame is
may_be plan a is = tt

pub may_aim : (plan : Plan) (c : Ctx) (l : ℕ) (cmd : Cmd) → target_in plan c l cmd ≡ Alone → MayAimAtNone c l cmd
may_aim plan ctx.Hv l cmd is = may_be plan (aim_in ctx.Hv l cmd) is
may_aim plan c l cmd is = tt

-- what aims at a frame
at_place_is : (b : Bool) (k n : ℕ) → (if b then AtFrame k else Alone) ≡ AtFrame n → (b ≡ true) × (n ≡ k)
at_place_is true k n is = (refl, (let same : k ≡ n = cc in sym same))
at_place_is false k n is = absurd cc

at_move_is : (b : Bool) (lpid k n : ℕ) → (if b then AtGuest lpid else AtFrame k) ≡ AtFrame n → (b ≡ false) × (n ≡ k)
at_move_is true lpid k n is = absurd cc
at_move_is false lpid k n is = (refl, (let same : k ≡ n = cc in sym same))

no_frame : (b : Bool) (lpid n : ℕ) → (if b then AtGuest lpid else Alone) ≡ AtFrame n → ⊥
no_frame true lpid n is = cc
no_frame false lpid n is = cc

-- the normal frame of an aim, by its number
abbrev FrameOf : Plan → ℕ → Aim → Type 0
FrameOf plan n (aim.Address ra) = (has_real_place plan ra ≡ true) × (n ≡ frame_of plan ra)
FrameOf plan n (aim.Move move) = (move.copied ≡ false) × (n ≡ move.frame)
FrameOf plan n other = ⊥

frame_of_aim : (plan : Plan) (n : ℕ) (a : Aim) → target_of_aim plan a ≡ AtFrame n → FrameOf plan n a
frame_of_aim plan n (aim.NamedGuest lpid) is = absurd (no_frame (nat_le 1 lpid && nat_le lpid plan.guests) lpid n is)
frame_of_aim plan n (aim.Address ra) is = at_place_is (has_real_place plan ra) (frame_of plan ra) n is
frame_of_aim plan n (aim.Move move) is = at_move_is move.copied move.lpid move.frame n is
frame_of_aim plan n a is = absurd cc

-- a step of a vCPU has none
no_running : (plan : Plan) (n l : ℕ) (run : Run) (cmd : Cmd) → FrameOf plan n (aim_in (ctx.Guest run) l cmd) → ⊥
no_running plan n l run (HLd ra) at = at
no_running plan n l run (HSt ra value) at = at
no_running plan n l run (HSelect named vid) at = at
no_running plan n l run (HEnter named vid value) at = at
no_running plan n l run Go at = at
no_running plan n l run cmd at = at

-- it is one of the machine's
frame_below : {S : Type 0} (guests : List (Guest S)) (normal : NormalState) (plan : Plan) (k n l : ℕ) (c : Ctx) (cmd : Cmd) → plan.normal ≡ length normal.frames → Works guests normal k c → FrameOf plan n (aim_in c l cmd) → n < length normal.frames
frame_below guests normal plan k n l ctx.Hv (HLd ra) count works at = (let one = and_parts (ra % 8 == 0) (nat_lt (frame_of plan ra) plan.normal) at.0 in let two = at.1 in grind (arith, nat_tests))
frame_below guests normal plan k n l ctx.Hv (HSt ra value) count works at = (let one = and_parts (ra % 8 == 0) (nat_lt (frame_of plan ra) plan.normal) at.0 in let two = at.1 in grind (arith, nat_tests))
frame_below guests normal plan k n l ctx.Hv cmd count works at = absurd at
frame_below guests normal plan k n l (ctx.Uv (Inward move)) Go count works at = subst (λ (x : ℕ). x < length normal.frames) (sym at.1) works.frame
frame_below guests normal plan k n l (ctx.Uv (Inward move)) cmd count works at = absurd at
frame_below guests normal plan k n l (ctx.Uv (Outward move)) Go count works at = subst (λ (x : ℕ). x < length normal.frames) (sym at.1) works.frame
frame_below guests normal plan k n l (ctx.Uv (Outward move)) cmd count works at = absurd at
frame_below guests normal plan k n l (ctx.Uv work) cmd count works at = absurd at
frame_below guests normal plan k n l (ctx.Guest run) cmd count works at = absurd (no_running plan n l run cmd at)

-- a copied move is still one of the machine's
works_copied : {S : Type 0} (guests : List (Guest S)) (normal : NormalState) (k : ℕ) (c : Ctx) → Works guests normal k c → Works guests normal k (ctx_copied c)
works_copied guests normal k ctx.Hv works = works
works_copied guests normal k (ctx.Uv (Inward move)) works = record { least = works.least; moves = works.moves; frame = works.frame }
works_copied guests normal k (ctx.Uv (Outward move)) works = record { least = works.least; moves = works.moves; frame = works.frame }
works_copied guests normal k (ctx.Uv work) works = works
works_copied guests normal k (ctx.Guest run) works = works

pub unpooled : (plan : Plan) (n : ℕ) (bytes : List ℕ) (ask : Ask) (c : Ctx) (cmd : Cmd) → (deed_frame_in c plan n bytes ask cmd).pool ≡ None
unpooled plan n bytes ask ctx.Hv cmd = refl
unpooled plan n bytes ask (ctx.Uv (Inward move)) cmd = refl
unpooled plan n bytes ask (ctx.Uv (Outward move)) cmd = refl
unpooled plan n bytes ask (ctx.Uv (Share run)) cmd = refl
unpooled plan n bytes ask (ctx.Uv (Unshare run)) cmd = refl
unpooled plan n bytes ask (ctx.Uv (UnshareAll run)) cmd = refl
unpooled plan n bytes ask (ctx.Uv (Esm run)) cmd = refl
unpooled plan n bytes ask (ctx.Guest run) cmd = refl

-- it is told by the entry
pub framed : (plan : Plan) (n l : ℕ) (bytes : List ℕ) (ask : Ask) (c : Ctx) (cmd : Cmd) → target_in plan c l cmd ≡ AtFrame n → (deed_frame_in c plan n bytes ask cmd).frame ≡ Some n
framed plan n l bytes ask ctx.Hv cmd is = refl
framed plan n l bytes ask (ctx.Uv (Inward move)) cmd is = refl
framed plan n l bytes ask (ctx.Uv (Outward move)) cmd is = refl
framed plan n l bytes ask (ctx.Uv work) cmd is = absurd cc
framed plan n l bytes ask (ctx.Guest run) cmd is = absurd (no_running plan n l run cmd (frame_of_aim plan n (aim_in (ctx.Guest run) l cmd) is))

-- and the step is one at a frame
aims_at : (plan : Plan) (n : ℕ) (a : Aim) → FrameOf plan n a → IsAtFrame a
aims_at plan n (aim.Address ra) at = aligned plan ra at.0
aims_at plan n (aim.Move move) at = at.0
aims_at plan n a at = absurd at

-- the frames after an entry that tells one of them
shows_frame : (plan : Plan) (m : NormalState) (bytes : ℕ → List ℕ) (n : ℕ) (new : List ℕ) (e : Event) → ShowsNormal plan m bytes → n < length m.frames → e.saw.frame ≡ Some n → new ≡ next_frame plan n (bytes n) e →
    ShowsNormal plan (record m { frames = slice_set m.frames n new }) (λ k. if touches_frame k e then next_frame plan k (bytes k) e else bytes k)
shows_frame plan m bytes n new e shows below told is = record { shift = shows.shift; count = length-set m.frames n new ∙ shows.count; bytes = λ k less. by_place k less (cases_eq k n) } where
  by_place : (k : ℕ) → k < plan.normal → (k ≡ n) ⊎ (k ≢ n) → frame_at (slice_set m.frames n new) k ≡ (if touches_frame k e then next_frame plan k (bytes k) e else bytes k)
  by_place k less (inl same) =
      let test : touches_frame n e ≡ true = ap (is_number n) told ∙ same_test n in
      subst (λ (j : ℕ). frame_at (slice_set m.frames n new) j ≡ (if touches_frame j e then next_frame plan j (bytes j) e else bytes j)) (sym same)
      (get_or-set_same m.frames n new [] below ∙ is ∙ sym (ap (λ (b : Bool). if b then next_frame plan n (bytes n) e else bytes n) test))
  by_place k less (inr other) =
      let test : touches_frame k e ≡ false = ap (is_number k) told ∙ ne_eqb n k (λ same. other (sym same)) in
      get_or-set_other m.frames n k new [] other ∙ shows.bytes k less ∙ sym (ap (λ (b : Bool). if b then next_frame plan k (bytes k) e else bytes k) test)

module _ {S : Type 0} (takes : S → ℕ → ℕ → Type 0) (old : State S) (n : ℕ) (cpu : Cpu) (there : slice_get old.cpus n ≡ Some cpu) (below : n < length old.cpus) (is_cpu : IsCpuOf old.guests old.normal n cpu) (whole : IsWholeMachine takes old) (cmd : Cmd) where
  -- the target in a plan that fits
  aimed : (t : Target) → Targets (length old.guests) old.normal cpu cmd t → (plan : Plan) (c : CpuPart) → cpu.ctx ≡ c.ctx → cpu.lpid ≡ c.lpid → plan.shift ≡ old.normal.shift → plan.normal ≡ length old.normal.frames → plan.guests ≡ length old.guests → target_in plan c.ctx c.lpid cmd ≡ t
  aimed t targets plan c ctx_is lpid shift count guests = subst (λ (x : Ctx). target_in plan x c.lpid cmd ≡ t) ctx_is (subst (λ (l : ℕ). target_in plan cpu.ctx l cmd ≡ t) lpid (targets plan shift count guests))

  module _ (targets : Targets (length old.guests) old.normal cpu cmd Alone) where
    pub own_may : MayAimAtNone cpu.ctx cpu.lpid cmd
    own_may = may_aim (sized old) cpu.ctx cpu.lpid cmd (targets (sized old) refl refl refl)

    module _ (stands : S → Tag → List ℕ → List ℕ → Type 0) (image : S → Tag → List ℕ → List ℕ) (new_cpu : Cpu) (a : Answer) (does : DoesOwn (length old.guests) old.vcpus cmd cpu new_cpu a) where
      pub own_whole : IsWholeMachine takes (record old { cpus = slice_set old.cpus n new_cpu })
      own_whole = whole_cpu takes old n new_cpu whole old.normal refl refl (selection_stays old.guests old.normal n old.vcpus cpu new_cpu (one_of takes old whole) does.keeps is_cpu)

      abbrev Own : State S
      Own = record old { cpus = slice_set old.cpus n new_cpu }

      own_leaves : (c : Ctx) (b : Answer) → RefusesOwn c cpu new_cpu b → LeavesRest n c cmd old Own b
      own_leaves ctx.Hv (answer.Ret code) h = λ refusal. on_cpu old n cpu there (λ c d. RefusesCpu c d code) new_cpu h
      own_leaves ctx.Hv answer.Hole h = on_cpu old n cpu there (λ c d. d ≡ record c { last = answer.Hole }) new_cpu h
      own_leaves ctx.Hv answer.Done h = tt
      own_leaves ctx.Hv (answer.Val value) h = tt
      own_leaves c answer.Context h = on_cpu old n cpu there (λ c d. d ≡ c) new_cpu h
      own_leaves c b h = absurd h

      own_continues : IsCommand cmd → Continues stands image old Own n cmd a
      own_continues command plan past line place stamp fits clean =
          let c : CpuPart = cpu_after plan n past in
          let shows = fits.cpus n cpu there in
          let row = does.row plan c (mark_at n line place stamp) (sym fits.guest_count) (sym fits.vcpu_count) shows in
          alone stands image old n below cpu there plan past line place stamp fits new_cpu (ask_of c cmd) cmd a command refl
          (aimed Alone targets plan c shows.ctx shows.lpid (sym fits.normal_is.shift) (sym fits.normal_is.count) (sym fits.guest_count)) row.answered row.cpu_is

      pub own_does : DoesStep stands image n cmd old Own a
      own_does = record {
        step = own_continues;
        frames_once = whole.frames_once;
        refused = λ own is. subst (λ (x : Cpu). LeavesRest n x.ctx cmd old Own a) (let same : cpu ≡ own = (let two = sym there ∙ is in cc) in same) (own_leaves cpu.ctx a does.refused);
        alone = alone_cpu old n cpu there cmd a new_cpu targets;
        count = refl;
        cpus = length-set old.cpus n new_cpu;
        guests = refl;
      }

  module _ (frame : ℕ) (targets : Targets (length old.guests) old.normal cpu cmd (AtFrame frame)) where
    own_frame : FrameOf (sized old) frame (aim_in cpu.ctx cpu.lpid cmd)
    own_frame = frame_of_aim (sized old) frame (aim_in cpu.ctx cpu.lpid cmd) (targets (sized old) refl refl refl)

    -- the frame is one of the machine's
    pub frame_there : frame < length old.normal.frames
    frame_there = frame_below old.guests old.normal (sized old) n frame cpu.lpid cpu.ctx cmd refl is_cpu.works own_frame

    pub frame_aims : AimsAtFrame cpu.ctx cpu.lpid cmd
    frame_aims = aims_at (sized old) frame (aim_in cpu.ctx cpu.lpid cmd) own_frame

    module _ (stands : S → Tag → List ℕ → List ℕ → Type 0) (image : S → Tag → List ℕ → List ℕ) (new_cpu : Cpu) (normal : NormalState) (a : Answer) (size : length (frame_at old.normal.frames frame) ≡ 2 ^ old.normal.shift) (does : DoesFrame cmd cpu new_cpu (frame_at old.normal.frames frame) (frame_at normal.frames frame) a)
        (rest : normal ≡ record old.normal { frames = slice_set old.normal.frames frame (frame_at normal.frames frame) }) where
      count_is : length normal.frames ≡ length old.normal.frames
      count_is = ap (λ (x : NormalState). length x.frames) rest ∙ length-set old.normal.frames frame (frame_at normal.frames frame)

      pub frame_whole : IsWholeMachine takes (record old { cpus = slice_set old.cpus n new_cpu; normal = normal })
      frame_whole = whole_cpu takes old n new_cpu whole normal (ap (λ (x : NormalState). x.shift) rest) count_is (record {
        number = does.number ∙ is_cpu.number;
        selects = subst (λ (l : ℕ). IsVcpu old.guests l new_cpu.vid) (sym does.lpid) (subst (λ (v : ℕ). IsVcpu old.guests cpu.lpid v) (sym does.vid) is_cpu.selects);
        works = subst (Works old.guests old.normal n) (sym does.ctx_is) (works_copied old.guests old.normal n cpu.ctx is_cpu.works);
        hand = does.hand ∙ is_cpu.hand;
      })

      abbrev Framed : State S
      Framed = record old { cpus = slice_set old.cpus n new_cpu; normal = normal }

      -- the frame has what the command writes there, and the others stay
      written : (plan : Plan) → plan.shift ≡ old.normal.shift → plan.normal ≡ length old.normal.frames → plan.guests ≡ length old.guests → LeavesNormal old.guests plan cpu cmd a old.normal normal
      written plan shift count guests =
          let sizes : length (frame_at old.normal.frames frame) ≡ 2 ^ plan.shift = size ∙ ap (λ (s : ℕ). 2 ^ s) (sym shift) in
          one_written old.guests plan cpu cmd a old.normal normal frame (targets plan shift count guests) rest (does.written plan.shift frame sizes) (λ ask before. does.answers plan frame ask sizes before)

      frame_leaves : (c : Ctx) (b : Answer) → IsDone b → LeavesRest n c cmd old Framed b
      frame_leaves ctx.Hv answer.Done h = tt
      frame_leaves ctx.Hv (answer.Val value) h = tt
      frame_leaves ctx.Hv answer.Step h = tt
      frame_leaves (ctx.Uv work) answer.Done h = tt
      frame_leaves (ctx.Uv work) (answer.Val value) h = tt
      frame_leaves (ctx.Uv work) answer.Step h = tt
      frame_leaves (ctx.Guest run) answer.Done h = tt
      frame_leaves (ctx.Guest run) (answer.Val value) h = tt
      frame_leaves (ctx.Guest run) answer.Step h = tt
      frame_leaves c b h = absurd h

      frame_continues : IsCommand cmd → Continues stands image old Framed n cmd a
      frame_continues command plan past line place stamp fits clean =
          let mark : Mark = mark_at n line place stamp in
          let c : CpuPart = cpu_after plan n past in
          let shows = fits.cpus n cpu there in
          let bytes : ℕ → List ℕ = λ k. frame_after plan k past in
          let e : Event = entry_of (ask_of c cmd) mark cmd (deed_frame plan frame (bytes frame) (ask_of c cmd) cmd) in
          let at : target_in plan c.ctx c.lpid cmd ≡ AtFrame frame = aimed (AtFrame frame) targets plan c shows.ctx shows.lpid (sym fits.normal_is.shift) (sym fits.normal_is.count) (sym fits.guest_count) in
          let is : next_entry plan past mark cmd ≡ e = entry_at plan past mark cmd (ask_of c cmd) (AtFrame frame) refl at in
          let shown : frame_at old.normal.frames frame ≡ bytes frame = fits.normal_is.bytes frame (subst (λ (k : ℕ). frame < k) fits.normal_is.count frame_there) in
          let told : (deed_frame plan frame (bytes frame) (ask_of c cmd) cmd).frame ≡ Some frame = framed plan frame c.lpid (bytes frame) (ask_of c cmd) c.ctx cmd at in
          let row : RowFrame plan frame c e new_cpu (frame_at normal.frames frame) (bytes frame) a =
          subst (λ (old_bytes : List ℕ). RowFrame plan frame c (entry_of (ask_of c cmd) mark cmd (deed_frame plan frame old_bytes (ask_of c cmd) cmd)) new_cpu (frame_at normal.frames frame) old_bytes a) shown
          (does.row plan frame c mark (size ∙ ap (λ (s : ℕ). 2 ^ s) fits.normal_is.shift) shows) in
          makes_alone stands image old n below cpu there plan past line place stamp fits cmd e is command new_cpu normal a row.answered (λ lpid. ap (is_guest lpid) at) (unpooled plan frame (bytes frame) (ask_of c cmd) c.ctx cmd) row.cpu_is
          (subst (λ (x : NormalState). ShowsNormal plan x (λ k. frame_after plan k (e ∷ past))) (sym rest) (shows_frame plan old.normal bytes frame (frame_at normal.frames frame) e fits.normal_is frame_there told row.frame_is))

      pub frame_does : DoesStep stands image n cmd old Framed a
      frame_does = record {
        step = frame_continues;
        frames_once = whole.frames_once;
        refused = λ own is. subst (λ (x : Cpu). LeavesRest n x.ctx cmd old Framed a) (let same : cpu ≡ own = (let two = sym there ∙ is in cc) in same) (frame_leaves cpu.ctx a does.done);
        alone = alone_frame old n cpu there cmd a new_cpu normal written;
        count = refl;
        cpus = length-set old.cpus n new_cpu;
        guests = refl;
      }
