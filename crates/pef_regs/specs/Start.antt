-- A vCPU as it begins.
use Rattle.pef_model.specs.declared.state.VState.{VState}
use Rattle.pef_model.specs.Registers.{fresh_registers}
use Rattle.pef_regs.specs.declared.vcpu.Vcpu.{Vcpu}

-- a vCPU in this state that was never taken up
abbrev pub start_vcpu : VState → Vcpu
start_vcpu state = record { state = state; generation = 0; regs = fresh_registers }
