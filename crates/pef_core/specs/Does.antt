-- What every step of a CPU does to a machine, and what it needs.
use Rattle.std.specs.Prelude.{◌≡◌, ℕ, ◌<◌, List, length, Some, slice_get, ◌⊎◌}
use Rattle.pef_model.specs.declared.state.Ctx.{Ctx}
use Rattle.pef_model.specs.declared.state.Ctx.TheVariants as ctx
use Rattle.pef_model.specs.declared.state.Tag.{Tag}
use Rattle.pef_model.specs.declared.aim.Aim.{Aim}
use Rattle.pef_model.specs.declared.aim.Aim.TheVariants as aim
use Rattle.pef_model.specs.declared.command.Cmd.{Cmd}
use Rattle.pef_model.specs.declared.entry.Answer.{Answer}
use Rattle.pef_model.specs.declared.entry.Answer.TheVariants as answer
use Rattle.pef_model.specs.Commands.{IsCommand}
use Rattle.pef_model.specs.Plan.{Plan, IsWithin}
use Rattle.pef_model.specs.Event.{Mark}
use Rattle.pef_model.specs.Cpu.{CpuPart}
use Rattle.pef_model.specs.Target.{Target, Alone, AtGuest, AtFrame, aim_in, target_in}
use Rattle.pef_model.specs.Deed.{deed_alone}
use Rattle.pef_model.specs.History.{ask_of, entry_of}
use Rattle.pef_guest.specs.declared.cpu.Cpu.{Cpu}
use Rattle.pef_guest.specs.Refused.{RefusesCpu}
use Rattle.pef_guest.specs.Shows.{ShowsCpu}
use Rattle.pef_move.specs.PageIn.{RowRead}
use Rattle.pef_core.specs.declared.aim.Target.{Target as Found}
use Rattle.pef_core.specs.declared.aim.Target.TheVariants as found
use Rattle.pef_core.specs.Normal.{NormalState}
use Rattle.pef_core.specs.State.{State, FramesOnce, HasSteps}
use Rattle.pef_core.specs.Steps.{Continues}
use Rattle.pef_core.specs.Refused.{LeavesRest}
use Rattle.pef_core.specs.Alone.{LeavesOthers}

-- at what a command of a CPU aims, in a machine with so many guests and these normal frames
abbrev pub Targets : ℕ → NormalState → Cpu → Cmd → Target → Type 0
Targets guests normal own cmd t = (plan : Plan) → plan.shift ≡ normal.shift → plan.normal ≡ length normal.frames → plan.guests ≡ guests → target_in plan own.ctx own.lpid cmd ≡ t

-- a target as the code has it
abbrev pub target_shown : Found → Target
target_shown found.Alone = Alone
target_shown (found.Guest lpid) = AtGuest lpid
target_shown (found.Frame n) = AtFrame n

-- a command of a CPU aims there, and the step is counted already
pub record AimsAt {S : Type 0} (n : ℕ) (cmd : Cmd) (t : Target) (m : State S) : Type 0 where
  pub below : n < length m.cpus
  pub aims : (own : Cpu) → slice_get m.cpus n ≡ Some own → Targets (length m.guests) m.normal own cmd t
  pub steps : HasSteps m

-- an aim may be at nothing: those at a guest that is there and at a page on the move never are
abbrev pub MayBeAtNone : Aim → Type 0
MayBeAtNone (aim.Guest lpid) = ⊥
MayBeAtNone (aim.Move move) = ⊥
MayBeAtNone other = Unit {0}

-- a command may aim at nothing: one of the hypervisor where its aim may be, and elsewhere each
abbrev pub MayAimAtNone : Ctx → ℕ → Cmd → Type 0
MayAimAtNone ctx.Hv lpid cmd = MayBeAtNone (aim_in ctx.Hv lpid cmd)
MayAimAtNone before lpid cmd = Unit {0}

-- what such a step keeps of its CPU, in a machine with so many guests of so many vCPUs each: its number, its context and its hand, and its selection, unless it selects one of these vCPUs
pub record KeepsSelection (guests vcpus : ℕ) (old new : Cpu) : Type 0 where
  pub number : new.number ≡ old.number
  pub ctx : new.ctx ≡ old.ctx
  pub selects : ((new.lpid ≡ old.lpid) × (new.vid ≡ old.vid)) ⊎ (IsWithin 1 guests new.lpid × (new.vid < vcpus))
  pub hand : new.hand ≡ old.hand

-- what a refused step on its CPU alone leaves
abbrev pub RefusesOwn : Ctx → Cpu → Cpu → Answer → Type 0
RefusesOwn ctx.Hv cpu cpu_new (answer.Ret code) = RefusesCpu cpu cpu_new code
RefusesOwn ctx.Hv cpu cpu_new answer.Hole = cpu_new ≡ record cpu { last = answer.Hole }
RefusesOwn ctx.Hv cpu cpu_new answer.Done = Unit {0}
RefusesOwn ctx.Hv cpu cpu_new (answer.Val value) = Unit {0}
RefusesOwn before cpu cpu_new answer.Context = cpu_new ≡ cpu
RefusesOwn before cpu cpu_new other = ⊥

-- what every step on its CPU alone does, in a machine with so many guests of so many vCPUs each
pub record DoesOwn (guests vcpus : ℕ) (cmd : Cmd) (cpu cpu_new : Cpu) (a : Answer) : Type 0 where
  pub keeps : KeepsSelection guests vcpus cpu cpu_new
  pub refused : RefusesOwn cpu.ctx cpu cpu_new a
  pub row : (plan : Plan) (c : CpuPart) (mark : Mark) → plan.guests ≡ guests → plan.vcpus ≡ vcpus → ShowsCpu cpu c → RowRead c (entry_of (ask_of c cmd) mark cmd (deed_alone plan (ask_of c cmd) cmd)) cpu_new a

-- what every step of a CPU does to a machine
pub record DoesStep {S : Type 0} (stands : S → Tag → List ℕ → List ℕ → Type 0) (image : S → Tag → List ℕ → List ℕ) (n : ℕ) (cmd : Cmd) (old new : State S) (a : Answer) : Type 0 where
  pub step : IsCommand cmd → Continues stands image old new n cmd a
  pub frames_once : FramesOnce new
  pub refused : (own : Cpu) → slice_get old.cpus n ≡ Some own → LeavesRest n own.ctx cmd old new a
  pub alone : LeavesOthers n cmd old new a
  pub count : new.steps ≡ old.steps
  pub cpus : length new.cpus ≡ length old.cpus
  pub guests : length new.guests ≡ length old.guests
