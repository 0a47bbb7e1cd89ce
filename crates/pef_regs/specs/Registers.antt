-- A vCPU whose registers change.
use Rattle.std.specs.Prelude.{◌≡◌, ℕ, ◌+◌, ◌<◌, ◌≤◌, List, slice_index}
use Rattle.pef_model.specs.declared.state.Regs.{Regs}
use Rattle.pef_regs.specs.declared.vcpu.Vcpu.{Vcpu}

-- a vCPU with other registers
abbrev pub with_registers : Vcpu → Regs → Vcpu
with_registers vcpu regs = record vcpu { regs = regs }

-- a vCPU with other values in R0 to R31
abbrev pub with_gpr : Vcpu → List ℕ → Vcpu
with_gpr vcpu gpr = with_registers vcpu (record vcpu.regs { gpr = gpr })

-- so many registers from R4 on have the values of a list, in its order, and every other register is as it was
pub record TakesOutputs (old new : List ℕ) (count : ℕ) (outs : List ℕ) : Type 0 where
  pub taken : (k : ℕ) → k < count → slice_index new (4 + k) ≡ slice_index outs k
  pub below : (r : ℕ) → r < 4 → slice_index new r ≡ slice_index old r
  pub above : (r : ℕ) → 4 + count ≤ r → slice_index new r ≡ slice_index old r
