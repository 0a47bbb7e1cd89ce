-- The faults of a run, and their outcomes.
use Rattle.pef_script.specs.declared.fault.ReadEnd.{ReadEnd}
use Rattle.pef_script.specs.declared.fault.ReadEnd.TheVariants as read
use Rattle.pef_top.specs.declared.fault.RunFault.{RunFault}
use Rattle.pef_top.specs.declared.fault.RunFault.TheVariants as fault
use Rattle.pef_top.specs.declared.input.InputFault.{InputFault}
use Rattle.pef_top.specs.declared.input.InputFault.TheVariants as input
use Rattle.pef_top.specs.declared.limits.Limit.TheVariants as limit
use Rattle.pef_top.specs.declared.outcome.RunOutcome.{RunOutcome}
use Rattle.pef_top.specs.Limits.{IsOver}
use Rattle.pef_top.specs.Outcome.{plain, script_fault, limit_passed}

-- the outcome of a fault
abbrev pub outcome_of : RunFault → RunOutcome
outcome_of (fault.Script line) = script_fault line
outcome_of fault.Read = plain 3
outcome_of fault.Write = plain 4
outcome_of fault.Memory = plain 5
outcome_of (fault.Limit passed) = limit_passed passed

-- a fault of reading as one of the run
abbrev pub fault_of_input : InputFault → RunFault
fault_of_input input.Read = fault.Read
fault_of_input input.TooLong = fault.Limit limit.Script
fault_of_input input.Memory = fault.Memory

-- a fault of reading a script as one of the run
abbrev pub fault_of_read : ReadEnd → RunFault
fault_of_read (read.Fault f) = fault.Script f.line
fault_of_read read.NoMemory = fault.Memory

-- where a fault is that of a limit, what it counts is more than it
abbrev pub IsFault : RunFault → Type 0
IsFault (fault.Script line) = Unit {0}
IsFault fault.Read = Unit {0}
IsFault fault.Write = Unit {0}
IsFault fault.Memory = Unit {0}
IsFault (fault.Limit passed) = IsOver passed
