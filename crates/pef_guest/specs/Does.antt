-- One contract for every row of a step at a guest: what it does, and what it keeps.
use Rattle.std.specs.Prelude.{◌≡◌, ℕ, nat_lt, Bool, false, List, [], length, Option, Some, None}
use Rattle.pef_model.specs.declared.state.Tag.{Tag}
use Rattle.pef_model.specs.declared.command.Cmd.{Cmd}
use Rattle.pef_model.specs.declared.entry.Answer.{Answer}
use Rattle.pef_model.specs.Plan.{Plan}
use Rattle.pef_model.specs.Event.{Event, Mark}
use Rattle.pef_model.specs.Cpu.{CpuPart}
use Rattle.pef_model.specs.Guest.{Guest as GuestWhole}
use Rattle.pef_model.specs.Doubleword.{doubleword}
use Rattle.pef_model.specs.Memory.{next_frame}
use Rattle.pef_model.specs.Deed.{deed_guest}
use Rattle.pef_model.specs.Clash.{clashes}
use Rattle.pef_model.specs.History.{ask_of, entry_of}
use Rattle.pef_frames.specs.Pool.{PoolState}
use Rattle.pef_guest.specs.declared.cpu.Cpu.{Cpu}
use Rattle.pef_guest.specs.declared.guest.Guest.{Guest}
use Rattle.pef_guest.specs.Whole.{IsWhole}
use Rattle.pef_guest.specs.Keeps.{KeepsGuest, KeepsLife, KeepsFrames, KeepsMovers}
use Rattle.pef_guest.specs.Aims.{uses_pool, changes_life}
use Rattle.pef_guest.specs.Ready.{KeepsOwn, WorksAt}
use Rattle.pef_guest.specs.Refused.{Refuses}
use Rattle.pef_guest.specs.Shows.{ShowsCpu, Shows}
use Rattle.pef_guest.specs.Rows.{RowWithPool}

-- whether a secure frame is free
abbrev pub is_any_free : PoolState → Bool
is_any_free pool = nat_lt 0 (length pool.free)

-- the entry of a step at a guest of the model; found: the doubleword at an offset of a normal frame; any: a secure frame is free
abbrev pub entry_at_guest : Plan → GuestWhole → (ℕ → ℕ → ℕ) → Bool → CpuPart → Mark → Cmd → Event
entry_at_guest plan g found any c mark cmd = entry_of (ask_of c cmd) mark cmd (deed_guest plan g found any (ask_of c cmd) cmd)

-- a normal frame that a step is lent: its number, and its bytes
pub record NormalPart : Type 0 where
  pub number : ℕ
  pub bytes : List ℕ

-- what a step finds in the normal frame that it is lent
abbrev pub IsFoundIn : Option NormalPart → (ℕ → ℕ → ℕ) → Type 0
IsFoundIn None found = Unit {0}
IsFoundIn (Some frame) found = (offset : ℕ) → found frame.number offset ≡ doubleword frame.bytes offset

-- an entry tells of the normal frame that the step was lent, and of no other, and leaves these bytes in it
abbrev pub TellsFrame : Plan → Event → Option NormalPart → List ℕ → Type 0
TellsFrame plan e None left = e.saw.frame ≡ None
TellsFrame plan e (Some frame) left = (e.saw.frame ≡ Some frame.number) × (left ≡ next_frame plan frame.number frame.bytes e)

module _ {S : Type 0} (takes : S → ℕ → ℕ → Type 0) (stands : S → Tag → List ℕ → List ℕ → Type 0) (image : S → Tag → List ℕ → List ℕ) (cmd : Cmd) (old new : Guest S) (cpu cpu_new : Cpu) (pool pool_new : PoolState) (frame : Option NormalPart) (left : List ℕ) (a : Answer) where
  -- a step makes the model's entry, whatever guest and CPU of the model are shown, unless that is a digest collision
  abbrev pub MakesLent : Type 0
  MakesLent =
      (plan : Plan) (g : GuestWhole) (found : ℕ → ℕ → ℕ) (c : CpuPart) (mark : Mark) → mark.cpu ≡ cpu.number → Shows stands image plan old g → ShowsCpu cpu c → IsFoundIn frame found →
      clashes g.part (entry_at_guest plan g found (is_any_free pool) c mark cmd) ≡ false →
      RowWithPool stands image plan g c (entry_at_guest plan g found (is_any_free pool) c mark cmd) new cpu_new (length pool.free) (length pool_new.free) a
      × TellsFrame plan (entry_at_guest plan g found (is_any_free pool) c mark cmd) frame left

  -- what every step at a guest does that is lent this normal frame, or none
  pub record DoesLent : Type 0 where
    pub whole : IsWhole takes new
    pub keeps : KeepsGuest old new
    pub life : changes_life cpu.ctx cmd ≡ false → KeepsLife old new
    pub movers : KeepsMovers cpu.number old new
    pub frames : KeepsFrames old new pool pool_new
    pub own : KeepsOwn new cpu cpu_new
    pub works : WorksAt new cpu_new cpu_new.ctx
    pub pool_stays : uses_pool cpu.ctx cmd ≡ false → pool_new ≡ pool
    pub refused : Refuses cpu.ctx cmd old new cpu cpu_new pool pool_new a
    pub row : MakesLent

module _ {S : Type 0} (takes : S → ℕ → ℕ → Type 0) (stands : S → Tag → List ℕ → List ℕ → Type 0) (image : S → Tag → List ℕ → List ℕ) (cmd : Cmd) (old new : Guest S) (cpu cpu_new : Cpu) (pool pool_new : PoolState) (a : Answer) where
  -- the same of a step that is lent no normal frame
  abbrev pub MakesEntry : Type 0
  MakesEntry = MakesLent takes stands image cmd old new cpu cpu_new pool pool_new None [] a

  abbrev pub DoesRow : Type 0
  DoesRow = DoesLent takes stands image cmd old new cpu cpu_new pool pool_new None [] a
