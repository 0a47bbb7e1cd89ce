-- How a vCPU leaves its CPU.
use Rattle.pef_model.specs.declared.state.Phase.{Phase}
use Rattle.pef_model.specs.declared.state.Phase.TheVariants as phase
use Rattle.pef_model.specs.declared.entry.Exit.{Exit}
use Rattle.pef_model.specs.declared.entry.Exit.TheVariants as exit

-- how an interrupt takes a vCPU of a guest in this phase from its CPU
abbrev pub exit_in : Phase → Exit
exit_in phase.Normal = exit.Normal
exit_in other = exit.Irq
