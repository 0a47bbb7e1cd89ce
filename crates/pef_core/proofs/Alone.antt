-- A step leaves every other CPU and guest as it was, and writes into normal memory what the definitions say.
use Rattle.std.proofs.Common.{◌≡◌, ◌≢◌, ℕ, ◌+◌, false, [], length, Option, Some, None, refl, ap, sym, subst, ◌∙◌, ◌⊎◌, inl, inr, List}
use Rattle.std.specs.Prelude.{slice_get, slice_set}
use Rattle.std.proofs.Math.ListN.{length-set}
use Rattle.std.proofs.lemmas.List.{get_or-set_other}
use Rattle.std.proofs.lemmas.Bool.{cases_eq, ne_eqb}
use Rattle.pef_model.specs.declared.command.Cmd.{Cmd}
use Rattle.pef_model.specs.declared.entry.Answer.{Answer}
use Rattle.pef_model.specs.Plan.{Plan}
use Rattle.pef_model.specs.Target.{Ask, Target, Alone, AtFrame, target_in}
use Rattle.pef_model.specs.Memory.{write_in, writes_in, after_writes}
use Rattle.pef_model.specs.Deed.{deed_frame}
use Rattle.pef_model.proofs.Written.{untouched}
use Rattle.pef_frames.specs.Pool.{PoolState}
use Rattle.pef_guest.specs.declared.cpu.Cpu.{Cpu}
use Rattle.pef_guest.specs.declared.guest.Guest.{Guest}
use Rattle.pef_guest.specs.Keeps.{KeepsGuest, KeepsLife, KeepsMovers}
use Rattle.pef_guest.specs.Aims.{guest_aimed, uses_pool, changes_life}
use Rattle.pef_core.specs.Normal.{NormalState, frame_at}
use Rattle.pef_core.specs.State.{State}
use Rattle.pef_core.specs.Alone.{frame_touched, bytes_written, AreWritten, LeavesNormal, LeavesBut, LeavesOthers}
use Rattle.pef_core.specs.Does.{Targets}
use Rattle.pef_core.proofs.Leaving.{get_other, at_each}

-- the same guest has the same pages on the move
same_movers : {S : Type 0} (n : ℕ) (g : Guest S) → KeepsMovers n g g
same_movers n g gfn mover same other moves = moves

-- and the same phase and generation
same_life : {S : Type 0} (g : Guest S) → KeepsLife g g
same_life g = record { phase = refl; generation = refl; entry = refl }

-- a target that is no normal frame
abbrev pub IsAtNone : Target → Type 0
IsAtNone (AtFrame n) = ⊥
IsAtNone other = Unit {0}

outside_frame : (t : Target) (n : ℕ) → IsAtNone t → t ≡ AtFrame n → ⊥
outside_frame t n outside is = subst IsAtNone is outside

-- a guest at a place where nothing was put in is the one that was there
one_guest : {S : Type 0} (g h : Guest S) → Some g ≡ Some h → g ≡ h
one_guest g h same = cc

-- a step that touches no normal frame writes nothing
pub none_written : {S : Type 0} (guests : List (Guest S)) (plan : Plan) (own : Cpu) (cmd : Cmd) (a : Answer) (normal : NormalState) (t : Target) → frame_touched guests own.ctx cmd t ≡ None → target_in plan own.ctx own.lpid cmd ≡ t → (IsAtNone t) → LeavesNormal guests plan own cmd a normal normal
none_written guests plan own cmd a normal t none is outside = record {
  written = subst (λ (x : Target). AreWritten (writes_in plan.shift own.ctx cmd a (bytes_written guests own cmd x) (frame_touched guests own.ctx cmd x)) normal normal) (sym is)
      (subst (λ (frame : Option ℕ). AreWritten (writes_in plan.shift own.ctx cmd a (bytes_written guests own cmd t) frame) normal normal) (sym none) (record { shift = refl; count = refl; bytes = λ n below. refl }));
  answers = λ n ask at before. absurd (outside_frame t n outside (sym is ∙ at));
}

-- a step that writes into one normal frame what the definitions say of it
pub one_frame : (shift : ℕ) (own : Cpu) (cmd : Cmd) (a : Answer) (bytes : List ℕ) (old new : NormalState) (n : ℕ) → new ≡ record old { frames = slice_set old.frames n (frame_at new.frames n) } →
    frame_at new.frames n ≡ after_writes n (frame_at old.frames n) (write_in shift own.ctx cmd a bytes n) → AreWritten (writes_in shift own.ctx cmd a bytes (Some n)) old new
one_frame shift own cmd a bytes old new n rest here = record {
  shift = ap (λ (x : NormalState). x.shift) rest;
  count = ap (λ (x : NormalState). length x.frames) rest ∙ length-set old.frames n (frame_at new.frames n);
  bytes = λ k below. by_place k (cases_eq k n);
} where
  by_place : (k : ℕ) → (k ≡ n) ⊎ (k ≢ n) → frame_at new.frames k ≡ after_writes k (frame_at old.frames k) (write_in shift own.ctx cmd a bytes n)
  by_place k (inl same) = subst (λ (j : ℕ). frame_at new.frames j ≡ after_writes j (frame_at old.frames j) (write_in shift own.ctx cmd a bytes n)) (sym same) here
  by_place k (inr other) =
      ap (λ (x : NormalState). frame_at x.frames k) rest ∙ get_or-set_other old.frames n k (frame_at new.frames n) [] other
      ∙ sym (untouched shift k (frame_at old.frames k) own.ctx cmd a bytes (Some n) (ne_eqb n k (λ same. other (sym same))))

-- one at a normal frame writes there what the definitions say
pub one_written : {S : Type 0} (guests : List (Guest S)) (plan : Plan) (own : Cpu) (cmd : Cmd) (a : Answer) (old new : NormalState) (n : ℕ) → target_in plan own.ctx own.lpid cmd ≡ AtFrame n → new ≡ record old { frames = slice_set old.frames n (frame_at new.frames n) } →
    frame_at new.frames n ≡ after_writes n (frame_at old.frames n) (write_in plan.shift own.ctx cmd a own.hand n) → ((ask : Ask) → ask.before ≡ own.ctx → a ≡ (deed_frame plan n (frame_at old.frames n) ask cmd).answer) → LeavesNormal guests plan own cmd a old new
one_written guests plan own cmd a old new n at rest here answers = record {
  written = subst (λ (x : Target). AreWritten (writes_in plan.shift own.ctx cmd a (bytes_written guests own cmd x) (frame_touched guests own.ctx cmd x)) old new) (sym at) (one_frame plan.shift own cmd a own.hand old new n rest here);
  answers = λ k ask is before. subst (λ (j : ℕ). a ≡ (deed_frame plan j (frame_at old.frames j) ask cmd).answer) (let two = sym at ∙ is in let same : n ≡ k = cc in same) (answers ask before);
}

module _ {S : Type 0} (old : State S) (n : ℕ) (cpu : Cpu) (there : slice_get old.cpus n ≡ Some cpu) (cmd : Cmd) (a : Answer) where
  -- the CPU of the number is the one that was read
  of_own : (new : State S) → LeavesBut n cpu cmd old new a → LeavesOthers n cmd old new a
  of_own new h own is = subst (λ (x : Cpu). LeavesBut n x cmd old new a) (let same : cpu ≡ own = (let two = sym there ∙ is in cc) in same) h

  -- a step that changes no guest
  pub alone_frame : (new_cpu : Cpu) (normal : NormalState) → ((plan : Plan) → plan.shift ≡ old.normal.shift → plan.normal ≡ length old.normal.frames → plan.guests ≡ length old.guests → LeavesNormal old.guests plan cpu cmd a old.normal normal) →
      LeavesOthers n cmd old (record old { cpus = slice_set old.cpus n new_cpu; normal = normal }) a
  alone_frame new_cpu normal writes = of_own (record old { cpus = slice_set old.cpus n new_cpu; normal = normal }) (record {
    cpus = λ k other. get_other old.cpus n k new_cpu other;
    guests = λ k other. refl;
    keeps = λ k g h before after. inl (one_guest h g (sym after ∙ before));
    lives = λ still k g h before after. subst (KeepsLife g) (one_guest g h (sym before ∙ after)) (same_life g);
    movers = λ k g h before after. subst (KeepsMovers n g) (one_guest g h (sym before ∙ after)) (same_movers n g);
    pool = λ used. refl;
    normal = writes;
  })

  -- a step on its CPU alone
  pub alone_cpu : (new_cpu : Cpu) → Targets (length old.guests) old.normal cpu cmd Alone → LeavesOthers n cmd old (record old { cpus = slice_set old.cpus n new_cpu }) a
  alone_cpu new_cpu targets = alone_frame new_cpu old.normal (λ plan shift count guests. none_written old.guests plan cpu cmd a old.normal Alone refl (targets plan shift count guests) tt)

  -- a step at a guest
  pub alone_guest : (i : ℕ) (guest new_guest : Guest S) → slice_get old.guests i ≡ Some guest → (new_cpu : Cpu) (pool : PoolState) (normal : NormalState) → guest_aimed cpu.ctx cpu.lpid cmd ≡ Some (i + 1) →
      ((plan : Plan) → plan.shift ≡ old.normal.shift → plan.normal ≡ length old.normal.frames → plan.guests ≡ length old.guests → LeavesNormal old.guests plan cpu cmd a old.normal normal) →
      (uses_pool cpu.ctx cmd ≡ false → pool ≡ old.pool) → KeepsGuest guest new_guest → (changes_life cpu.ctx cmd ≡ false → KeepsLife guest new_guest) → KeepsMovers n guest new_guest →
      LeavesOthers n cmd old (record old { cpus = slice_set old.cpus n new_cpu; guests = slice_set old.guests i new_guest; pool = pool; normal = normal }) a
  alone_guest i guest new_guest here new_cpu pool normal aims writes uses keeps life movers = of_own (record old { cpus = slice_set old.cpus n new_cpu; guests = slice_set old.guests i new_guest; pool = pool; normal = normal }) (record {
    cpus = λ k other. get_other old.cpus n k new_cpu other;
    guests = λ k other. get_other old.guests i k new_guest (λ same. other (aims ∙ ap (λ (m : ℕ). Some (m + 1)) (sym same)));
    keeps = at_each (λ g h. (h ≡ g) ⊎ KeepsGuest g h) old.guests i guest new_guest here (λ g. inl refl) (inr keeps);
    lives = λ still. at_each KeepsLife old.guests i guest new_guest here same_life (life still);
    movers = at_each (KeepsMovers n) old.guests i guest new_guest here (same_movers n) movers;
    pool = uses;
    normal = writes;
  })
