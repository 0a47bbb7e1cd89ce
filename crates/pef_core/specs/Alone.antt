-- What a step leaves as it was, whatever history the machine has behind it.
use Rattle.std.specs.Prelude.{◌≡◌, ◌≢◌, ℕ, ◌+◌, ◌<◌, false, List, length, Option, Some, None, ◌⊎◌, slice_get}
use Rattle.pef_model.specs.declared.state.Ctx.{Ctx}
use Rattle.pef_model.specs.declared.command.Cmd.{Cmd}
use Rattle.pef_model.specs.declared.entry.Answer.{Answer}
use Rattle.pef_model.specs.Plan.{Plan}
use Rattle.pef_model.specs.Target.{Ask, Target, Alone, AtGuest, AtFrame, target_in}
use Rattle.pef_model.specs.Memory.{Write, writes_in, after_writes}
use Rattle.pef_model.specs.Deed.{deed_frame}
use Rattle.pef_guest.specs.declared.cpu.Cpu.{Cpu}
use Rattle.pef_guest.specs.declared.guest.Guest.{Guest}
use Rattle.pef_guest.specs.Keeps.{KeepsGuest, KeepsLife, KeepsMovers}
use Rattle.pef_guest.specs.Aims.{guest_aimed, uses_pool, changes_life}
use Rattle.pef_core.specs.Normal.{NormalState, frame_at}
use Rattle.pef_core.specs.State.{State, guest_at}
use Rattle.pef_core.specs.Lent.{frame_needed, bytes_stored}

-- the normal frame that a step at a guest touches, where there is the guest
abbrev pub frame_through : {S : Type 0} → Option (Guest S) → Ctx → Cmd → Option ℕ
frame_through None before cmd = None
frame_through (Some guest) before cmd = frame_needed guest before cmd

-- the normal frame that a step touches, by its number: the one at which it aims, or into which the access of its guest goes
abbrev pub frame_touched : {S : Type 0} → List (Guest S) → Ctx → Cmd → Target → Option ℕ
frame_touched guests before cmd Alone = None
frame_touched guests before cmd (AtGuest lpid) = frame_through (guest_at guests lpid) before cmd
frame_touched guests before cmd (AtFrame n) = Some n

-- the bytes that a step writes there: a store of a guest its register's, where there is the guest, and every other step those in its CPU's hand
abbrev pub bytes_through : {S : Type 0} → Option (Guest S) → Cpu → Cmd → List ℕ
bytes_through None own cmd = own.hand
bytes_through (Some guest) own cmd = bytes_stored guest own.ctx cmd

abbrev pub bytes_written : {S : Type 0} → List (Guest S) → Cpu → Cmd → Target → List ℕ
bytes_written guests own cmd (AtGuest lpid) = bytes_through (guest_at guests lpid) own cmd
bytes_written guests own cmd other = own.hand

-- the normal frames hold what these writes make of their bytes, and are no others
pub record AreWritten (writes : List Write) (old new : NormalState) : Type 0 where
  pub shift : new.shift ≡ old.shift
  pub count : length new.frames ≡ length old.frames
  pub bytes : (n : ℕ) → n < length old.frames → frame_at new.frames n ≡ after_writes n (frame_at old.frames n) writes

-- what a step with this answer does to the normal frames, in a plan of their sizes: it writes into the one that it touches what the definitions say of such an entry with these bytes, and answers where it aims at one by the frame's bytes
pub record LeavesNormal {S : Type 0} (guests : List (Guest S)) (plan : Plan) (own : Cpu) (cmd : Cmd) (a : Answer) (old new : NormalState) : Type 0 where
  pub written :
      AreWritten (writes_in plan.shift own.ctx cmd a (bytes_written guests own cmd (target_in plan own.ctx own.lpid cmd)) (frame_touched guests own.ctx cmd (target_in plan own.ctx own.lpid cmd))) old new
  pub answers : (n : ℕ) (ask : Ask) → target_in plan own.ctx own.lpid cmd ≡ AtFrame n → ask.before ≡ own.ctx → a ≡ (deed_frame plan n (frame_at old.frames n) ask cmd).answer

-- of a machine a step changes its CPU, the guest at which it aims, the free frames that it takes or gives and what it writes into normal frames, and nothing else but the count of steps; of each guest it keeps what no step changes, the pages that other CPUs move, and its phase and generation where the command may not change them
pub record LeavesBut {S : Type 0} (n : ℕ) (own : Cpu) (cmd : Cmd) (old new : State S) (a : Answer) : Type 0 where
  pub cpus : (k : ℕ) → k ≢ n → slice_get new.cpus k ≡ slice_get old.cpus k
  pub guests : (k : ℕ) → guest_aimed own.ctx own.lpid cmd ≢ Some (k + 1) → slice_get new.guests k ≡ slice_get old.guests k
  pub keeps : (k : ℕ) (g h : Guest S) → slice_get old.guests k ≡ Some g → slice_get new.guests k ≡ Some h → (h ≡ g) ⊎ KeepsGuest g h
  pub lives : changes_life own.ctx cmd ≡ false → (k : ℕ) (g h : Guest S) → slice_get old.guests k ≡ Some g → slice_get new.guests k ≡ Some h → KeepsLife g h
  pub movers : (k : ℕ) (g h : Guest S) → slice_get old.guests k ≡ Some g → slice_get new.guests k ≡ Some h → KeepsMovers n g h
  pub pool : uses_pool own.ctx cmd ≡ false → new.pool ≡ old.pool
  pub normal : (plan : Plan) → plan.shift ≡ old.normal.shift → plan.normal ≡ length old.normal.frames → plan.guests ≡ length old.guests → LeavesNormal old.guests plan own cmd a old.normal new.normal

-- the same, of a step of the CPU of a number
abbrev pub LeavesOthers : {S : Type 0} → ℕ → Cmd → State S → State S → Answer → Type 0
LeavesOthers n cmd old new a = (own : Cpu) → slice_get old.cpus n ≡ Some own → LeavesBut n own cmd old new a
