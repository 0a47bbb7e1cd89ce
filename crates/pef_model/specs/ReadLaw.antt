-- Laws of what an object's next value reads of an entry, and which entries it reads at all.
use Rattle.std.specs.Prelude.{◌≡◌, ℕ, Bool, true, false, if◌then◌else◌, List, Some, ◌==◌}
use Rattle.std.specs.List.{filter}
use Rattle.pef_model.specs.declared.command.Cmd.{Cmd}
use Rattle.pef_model.specs.declared.command.Cmd.TheVariants.{UReturn, GSt}
use Rattle.pef_model.specs.declared.state.Work.TheVariants.{Inward}
use Rattle.pef_model.specs.declared.state.Ctx.{Ctx}
use Rattle.pef_model.specs.declared.state.Ctx.TheVariants as ctx
use Rattle.pef_model.specs.declared.entry.Answer.{Answer}
use Rattle.pef_model.specs.declared.entry.Answer.TheVariants.{Done, Step, Enter}
use Rattle.pef_model.specs.declared.entry.PoolSaw.{PoolSaw}
use Rattle.pef_model.specs.Plan.{Plan}
use Rattle.pef_model.specs.Event.{Event}
use Rattle.pef_model.specs.Target.{Ask, frame_of, touches_cpu, touches_guest, touches_pool, touches_frame, is_sealing, takes_bytes, is_copying}
use Rattle.pef_model.specs.Cpu.{CpuPart, next_cpu}
use Rattle.pef_model.specs.GuestPart.{GuestPart, next_part}
use Rattle.pef_model.specs.Guest.{Guest, next_guest}
use Rattle.pef_model.specs.Memory.{next_pool, next_frame, tells_free}
use Rattle.pef_model.specs.Deed.{deed_guest}
use Rattle.pef_model.specs.History.{cpu_after, guest_after, pool_after, frame_after, last_store, last_norm, reg, Extends}

-- the entries of a history that touch an object decide its value; so last_store and reg read only their guest's entries, and last_norm those of its frame
pub record OwnEntriesDecide (plan : Plan) (past : List Event) : Type 0 where
  pub cpu : (n : ℕ) → cpu_after plan n (filter (touches_cpu n) past) ≡ cpu_after plan n past
  pub guest : (lpid : ℕ) → guest_after plan lpid (filter (touches_guest plan lpid) past) ≡ guest_after plan lpid past
  pub pool : pool_after plan (filter touches_pool past) ≡ pool_after plan past
  pub frame : (n : ℕ) → frame_after plan n (filter (touches_frame n) past) ≡ frame_after plan n past
  pub store : (lpid gpa : ℕ) → last_store plan (filter (touches_guest plan lpid) past) lpid gpa ≡ last_store plan past lpid gpa
  pub norm : (ra : ℕ) → last_norm plan (filter (touches_frame (frame_of plan ra)) past) ra ≡ last_norm plan past ra
  pub register : (lpid vid r : ℕ) → reg plan (filter (touches_guest plan lpid) past) lpid vid r ≡ reg plan past lpid vid r

-- the entries that touch an object decide its value, for every history
abbrev pub EachOwnEntriesDecide : Type 0
EachOwnEntriesDecide = (plan : Plan) (past : List Event) → OwnEntriesDecide plan past

-- whether a command is UV_RETURN
abbrev pub IsReturn : Cmd → Type 0
IsReturn (UReturn r0 r2 outs) = Unit {0}
IsReturn cmd = ⊥

-- whether an answer gives a page or a vCPU to a CPU
abbrev pub GivesCpu : Answer → Type 0
GivesCpu Step = Unit {0}
GivesCpu Enter = Unit {0}
GivesCpu a = ⊥

-- two entries agree in what a CPU's record reads of them: the bytes where the hand takes them
pub record AgreeForCpu (e f : Event) : Type 0 where
  pub cmd : e.trace.cmd ≡ f.trace.cmd
  pub answer : e.trace.answer ≡ f.trace.answer
  pub before : e.saw.before ≡ f.saw.before
  pub after : e.saw.after ≡ f.saw.after
  pub shown : e.saw.shown ≡ f.saw.shown
  pub bytes : takes_bytes e.saw.before e.trace.cmd e.trace.answer ≡ true → e.bytes ≡ f.bytes

-- whether a guest reads a step's bytes: where a page-out begins, and where a page-in ends
abbrev pub tells_guest : Ctx → Cmd → Answer → Bool
tells_guest (ctx.Uv (Inward move)) cmd a = true
tells_guest before cmd a = is_sealing before cmd a

-- two entries agree in what a guest reads of them: the vCPU at UV_RETURN alone, the CPU where a vCPU runs or a page moves from then on, the bytes where they tell it something
pub record AgreeForGuest (plan : Plan) (e f : Event) : Type 0 where
  pub cmd : e.trace.cmd ≡ f.trace.cmd
  pub answer : e.trace.answer ≡ f.trace.answer
  pub before : e.saw.before ≡ f.saw.before
  pub pool : e.saw.pool ≡ f.saw.pool
  pub frame : e.saw.frame ≡ f.saw.frame
  pub vid : IsReturn e.trace.cmd → e.saw.vid ≡ f.saw.vid
  pub cpu : GivesCpu e.trace.answer → e.trace.cpu ≡ f.trace.cpu
  pub bytes : tells_guest e.saw.before e.trace.cmd e.trace.answer ≡ true → e.bytes ≡ f.bytes

-- whether a normal frame reads a step's bytes: where a page is copied into it, and where a guest stores in it
abbrev pub tells_frame : Ctx → Cmd → Answer → Bool
tells_frame (ctx.Guest run) (GSt rs gpa) Done = true
tells_frame before cmd a = is_copying before cmd a

-- two entries agree in what a normal frame reads of them: the bytes where they tell it something
pub record AgreeForFrame (e f : Event) : Type 0 where
  pub cmd : e.trace.cmd ≡ f.trace.cmd
  pub answer : e.trace.answer ≡ f.trace.answer
  pub before : e.saw.before ≡ f.saw.before
  pub frame : e.saw.frame ≡ f.saw.frame
  pub bytes : tells_frame e.saw.before e.trace.cmd e.trace.answer ≡ true → e.bytes ≡ f.bytes

-- entries that agree in these fields give equal next values
pub record NextValuesAgree (plan : Plan) (e f : Event) : Type 0 where
  pub cpu : (cpu : CpuPart) → AgreeForCpu e f → next_cpu cpu e ≡ next_cpu cpu f
  pub part : (g : GuestPart) → AgreeForGuest plan e f → next_part plan g e ≡ next_part plan g f
  pub guest : (g : Guest) → AgreeForGuest plan e f → next_guest plan g e ≡ next_guest plan g f
  pub pool : (free : ℕ) → e.saw.pool ≡ f.saw.pool → next_pool free e ≡ next_pool free f
  pub frame : (n : ℕ) (bytes : List ℕ) → AgreeForFrame e f → next_frame plan n bytes e ≡ next_frame plan n bytes f

-- no other field of an entry counts
abbrev pub TheseFieldsDecide : Type 0
TheseFieldsDecide = (plan : Plan) (e f : Event) → NextValuesAgree plan e f

-- two histories agree in the objects that an entry touches
pub record AgreeWhereTouched (plan : Plan) (past other : List Event) (e : Event) : Type 0 where
  pub cpu : cpu_after plan e.trace.cpu past ≡ cpu_after plan e.trace.cpu other
  pub guest : (lpid : ℕ) → touches_guest plan lpid e ≡ true → guest_after plan lpid past ≡ guest_after plan lpid other
  pub pool : touches_pool e ≡ true → pool_after plan past ≡ pool_after plan other
  pub frame : (n : ℕ) → touches_frame n e ≡ true → frame_after plan n past ≡ frame_after plan n other

-- the objects that an entry touches decide whether it extends a history
abbrev pub TouchedObjectsDecide : Type 0
TouchedObjectsDecide = (plan : Plan) (past other : List Event) (e : Event) → AgreeWhereTouched plan past other e → Extends plan past e → Extends plan other e

-- whether a frame is free makes no difference to a step that doesn't tell it
abbrev pub UnaskedMakesNoDifference : Type 0
UnaskedMakesNoDifference =
    (plan : Plan) (g : Guest) (found : ℕ → ℕ → ℕ) (ask : Ask) (cmd : Cmd) → tells_free (deed_guest plan g found true ask cmd).pool ≡ false → deed_guest plan g found false ask cmd ≡ deed_guest plan g found true ask cmd

-- what a step saw of the pool has whether a frame was free, but where it gave frames back: then it didn't ask
abbrev pub IsTold : Bool → PoolSaw → Type 0
IsTold any saw = saw.any ≡ (if saw.given == 0 then any else false)

-- a step that tells of the pool tells whether a frame was free where it may need one, and nothing of it where it gives frames back
abbrev pub AskedIsTold : Type 0
AskedIsTold = (plan : Plan) (g : Guest) (found : ℕ → ℕ → ℕ) (any : Bool) (ask : Ask) (cmd : Cmd) (saw : PoolSaw) → (deed_guest plan g found any ask cmd).pool ≡ Some saw → IsTold any saw
