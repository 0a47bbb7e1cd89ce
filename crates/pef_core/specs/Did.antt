-- What a step did, as its entry tells it.
use Rattle.std.specs.Prelude.{◌≡◌, ℕ, ◌-◌, nat_lt, Bool, true, false, List, [], Option, Some, None}
use Rattle.pef_model.specs.declared.state.Run.{Run}
use Rattle.pef_model.specs.declared.state.Ctx.{Ctx}
use Rattle.pef_model.specs.declared.state.Ctx.TheVariants as ctx
use Rattle.pef_model.specs.declared.entry.Answer.{Answer}
use Rattle.pef_model.specs.Guest.{Guest}
use Rattle.pef_model.specs.StepLaw.{let_out_running}
use Rattle.pef_model.specs.declared.command.Cmd.{Cmd}
use Rattle.pef_model.specs.declared.entry.PoolSaw.{PoolSaw}
use Rattle.pef_model.specs.declared.state.Tag.{Tag}
use Rattle.pef_model.specs.Plan.{Plan}
use Rattle.pef_model.specs.Event.{Event}
use Rattle.pef_model.specs.Target.{touches_pool}
use Rattle.pef_model.specs.History.{cpu_after, guest_after, next_entry}
use Rattle.pef_model.specs.Sound.{is_clash}
use Rattle.pef_core.specs.State.{State}
use Rattle.pef_core.specs.Steps.{Fits}
use Rattle.pef_core.specs.declared.did.Did.{Did}
use Rattle.pef_core.specs.declared.did.Look.{Look}

-- what a step did with the pool, by the numbers of free frames before and after it, where it touched the pool
abbrev pub pool_seen : Bool → ℕ → ℕ → Option PoolSaw
pool_seen true free free_new = Some (record { any = nat_lt free_new free; taken = free - free_new; given = free_new - free })
pool_seen false free free_new = None

-- the values that a guest lets out in a step, by the registers of the vCPU whose step it is
abbrev pub shown_of : Ctx → List ℕ → Cmd → Answer → Option ℕ → List ℕ
shown_of (ctx.Guest run) gpr cmd a frame = let_out_running gpr cmd a frame
shown_of before gpr cmd a frame = []

-- what can be told of a step before it is done is what its entry tells, by the guests before it
pub record IsLook (guests : ℕ → Guest) (e : Event) (look : Look) : Type 0 where
  pub before : look.before ≡ e.saw.before
  pub lpid : look.lpid ≡ e.saw.lpid
  pub vid : look.vid ≡ e.saw.vid
  pub last : look.last ≡ e.saw.last
  pub touched : look.touched ≡ touches_pool e
  pub frame : look.frame ≡ e.saw.frame
  -- with the registers of the vCPU whose step it is
  pub gpr : (run : Run) → e.saw.before ≡ ctx.Guest run → look.gpr ≡ ((guests run.lpid).registers run.vid).gpr

-- what a step did is what its entry tells: its command, its answer, and all that it saw
pub record Tells (e : Event) (did : Did) : Type 0 where
  pub cmd : did.cmd ≡ e.trace.cmd
  pub answer : did.answer ≡ e.trace.answer
  pub saw : did.saw ≡ e.saw

-- the same of the one entry that the step adds, whatever history fits the machine before it, but where that is a digest collision
module _ {S : Type 0} (stands : S → Tag → List ℕ → List ℕ → Type 0) (image : S → Tag → List ℕ → List ℕ) where
  -- these are the registers of the vCPU that a CPU runs, if it runs one, whatever history fits the machine
  abbrev pub HasRegisters : State S → ℕ → List ℕ → Type 0
  HasRegisters m cpu gpr = (plan : Plan) (past : List Event) (run : Run) → Fits stands image plan m past → (cpu_after plan cpu past).ctx ≡ ctx.Guest run → gpr ≡ ((guest_after plan run.lpid past).registers run.vid).gpr

  abbrev pub LooksAt : State S → ℕ → Cmd → Look → Type 0
  LooksAt m cpu cmd look =
      (plan : Plan) (past : List Event) (line place stamp : ℕ) → Fits stands image plan m past →
      is_clash plan past (next_entry plan past (record { line = line; cpu = cpu; place = place; stamp = stamp }) cmd) ≡ false →
      IsLook (λ lpid. guest_after plan lpid past) (next_entry plan past (record { line = line; cpu = cpu; place = place; stamp = stamp }) cmd) look

  abbrev pub TellsStep : State S → ℕ → Cmd → Did → Type 0
  TellsStep m cpu cmd did =
      (plan : Plan) (past : List Event) (line place stamp : ℕ) → Fits stands image plan m past →
      is_clash plan past (next_entry plan past (record { line = line; cpu = cpu; place = place; stamp = stamp }) cmd) ≡ false →
      Tells (next_entry plan past (record { line = line; cpu = cpu; place = place; stamp = stamp }) cmd) did
