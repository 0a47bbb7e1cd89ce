-- What the hypervisor sees of a history.
use Rattle.std.specs.Prelude.{ℕ, Bool, ◌||◌, List, [], ◌∷◌, Option, Some, None}
use Rattle.pef_model.specs.declared.state.Ctx.{Ctx}
use Rattle.pef_model.specs.declared.state.Ctx.TheVariants as ctx
use Rattle.pef_model.specs.declared.entry.Answer.{Answer}
use Rattle.pef_model.specs.Plan.{Plan}
use Rattle.pef_model.specs.Event.{Event}
use Rattle.pef_model.specs.Target.{is_hypervisor}
use Rattle.pef_model.specs.Memory.{Write, writes_of, after_writes, start_frame, either_of}
use Rattle.pef_model.specs.History.{cpu_after}
use Rattle.pef_model.specs.Report.{command_name}

-- a step that the hypervisor sees: its line, CPU, command and answer
pub record SeenStep : Type 0 where
  pub line : ℕ
  pub cpu : ℕ
  pub command : List ℕ
  pub answer : Answer

-- what an entry shows: the step, the CPU's registers, what was written
pub record Sight : Type 0 where
  pub step : Option SeenStep
  pub registers : Option (List ℕ)
  pub writes : List Write

-- a value where the hypervisor runs
abbrev pub if_hypervisor : {A : Type 0} → Ctx → A → Option A
if_hypervisor ctx.Hv x = Some x
if_hypervisor (ctx.Uv work) x = None
if_hypervisor (ctx.Guest run) x = None

-- whether the hypervisor sees an entry's step: it ran before it or runs after it
abbrev pub is_seen : Event → Bool
is_seen e = is_hypervisor e.saw.before || is_hypervisor e.saw.after

-- what an entry after a history shows: the step where the hypervisor ran before it or runs after it, the CPU's registers where it runs after it
abbrev pub sight : Plan → List Event → Event → Sight
sight plan past e = record {
  step = either_of (if_hypervisor e.saw.before step) (if_hypervisor e.saw.after step);
  registers = if_hypervisor e.saw.after (cpu_after plan e.trace.cpu (e ∷ past)).own;
  writes = writes_of plan e;
} where
  step : SeenStep
  step = record { line = e.trace.line; cpu = e.trace.cpu; command = command_name e.trace.cmd; answer = e.trace.answer }

-- what a history shows, the newest entry first
abbrev pub view : Plan → List Event → List Sight
view plan [] = []
view plan (e ∷ past) = sight plan past e ∷ view plan past

-- what the writes that were seen leave in a frame, which begins with zeros
abbrev pub memory_seen : Plan → List Sight → ℕ → List ℕ
memory_seen plan [] n = start_frame plan
memory_seen plan (seen ∷ earlier) n = after_writes n (memory_seen plan earlier n) seen.writes
