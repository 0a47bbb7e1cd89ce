-- Laws of what the view has: the steps that the hypervisor sees, and all that it can read in a CPU.
use Rattle.std.specs.Prelude.{◌≡◌, ℕ, ◌==◌, if◌then◌else◌, List, [], ◌∷◌, Option, Some, None, unwrap_or}
use Rattle.pef_model.specs.declared.state.Ctx.TheVariants as ctx
use Rattle.pef_model.specs.Plan.{Plan}
use Rattle.pef_model.specs.Event.{Event}
use Rattle.pef_model.specs.Registers.{zero_registers}
use Rattle.pef_model.specs.History.{cpu_after, IsLegal}
use Rattle.pef_model.specs.Report.{command_name}
use Rattle.pef_model.specs.View.{SeenStep, Sight, is_seen, sight, view}

-- the registers of a CPU that a sight shows, if it is one of this CPU and shows them
abbrev pub shown_of : ℕ → Option SeenStep → Option (List ℕ) → Option (List ℕ)
shown_of n (Some step) registers = if step.cpu == n then registers else None
shown_of n None registers = None

-- the registers of a CPU that were seen last; a CPU begins with zeros
abbrev pub registers_seen : List Sight → ℕ → List ℕ
registers_seen [] n = zero_registers
registers_seen (seen ∷ earlier) n = unwrap_or (shown_of n seen.step seen.registers) (registers_seen earlier n)

-- where the hypervisor runs on a CPU, the registers that it can read there are those that were seen last
abbrev pub RegistersAreSeen : Type 0
RegistersAreSeen =
    (plan : Plan) (past : List Event) (n : ℕ) → IsLegal plan past → (cpu_after plan n past).ctx ≡ ctx.Hv → registers_seen (view plan past) n ≡ (cpu_after plan n past).own

-- the view shows the line, the CPU, the command and the answer of each step that the hypervisor sees, and of no other
abbrev pub SeenIsShown : Type 0
SeenIsShown =
    (plan : Plan) (past : List Event) (e : Event) →
    (sight plan past e).step ≡ (if is_seen e then Some (record { line = e.trace.line; cpu = e.trace.cpu; command = command_name e.trace.cmd; answer = e.trace.answer }) else None)
