-- What UV_WRITE_PATE makes of a guest.
use Rattle.std.specs.Prelude.{◌≡◌, ◌+◌, ◌==◌, if◌then◌else◌, length, replicate}
use Rattle.pef_model.specs.declared.state.Phase.TheVariants.{Absent, Normal}
use Rattle.pef_model.specs.declared.state.VState.TheVariants.{Idle}
use Rattle.pef_pate.specs.declared.pate.Pate.{Pate}
use Rattle.pef_guest.specs.declared.guest.Guest.{Guest}
use Rattle.pef_regs.specs.Start.{start_vcpu}

-- a guest with another partition entry, but for its vCPUs: with a page it is in normal memory, and with none it is Absent, in the next generation
abbrev pub with_pate : {S : Type 0} → Guest S → Pate → Guest S
with_pate guest entry = if entry.dw1 == 0 then record guest { entry = entry; phase = Absent; generation = guest.generation + 1 } else record guest { entry = entry; phase = Normal }

-- a guest's partition entry was set: with a page its vCPUs stay, and with none each is one that hasn't run
pub record IsSet {S : Type 0} (old new : Guest S) (entry : Pate) : Type 0 where
  pub rest : new ≡ record (with_pate old entry) { vcpus = new.vcpus }
  pub vcpus : new.vcpus.items ≡ (if entry.dw1 == 0 then replicate (length old.vcpus.items) (start_vcpu Idle) else old.vcpus.items)
