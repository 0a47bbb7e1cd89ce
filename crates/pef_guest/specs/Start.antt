-- CPUs and guests as they begin.
use Rattle.std.specs.Prelude.{◌≡◌, ℕ, replicate}
use Rattle.pef_model.specs.declared.config.Config.{Config}
use Rattle.pef_model.specs.declared.state.Ctx.TheVariants as ctx
use Rattle.pef_model.specs.declared.entry.Answer.TheVariants as answer
use Rattle.pef_model.specs.Plan.{plan_of}
use Rattle.pef_model.specs.Registers.{zero_registers}
use Rattle.pef_model.specs.Slots.{start_slots}
use Rattle.pef_model.specs.GuestPart.{start_phase, start_state}
use Rattle.pef_pate.specs.declared.pate.Pate.{Pate}
use Rattle.pef_pages.specs.Pages.{invalid_pages}
use Rattle.pef_regs.specs.Start.{start_vcpu}
use Rattle.pef_guest.specs.declared.cpu.Cpu.{Cpu}
use Rattle.pef_guest.specs.declared.guest.Guest.{Guest}

-- a CPU of this number, with a hand of so many bytes: the hypervisor runs, all is zero, vCPU 0 of guest 1 is selected
pub record IsStartCpu (number size : ℕ) (cpu : Cpu) : Type 0 where
  pub number_is : cpu.number ≡ number
  pub ctx : cpu.ctx ≡ ctx.Hv
  pub gpr : cpu.gpr ≡ zero_registers
  pub lpid : cpu.lpid ≡ 1
  pub vid : cpu.vid ≡ 0
  pub last : cpu.last ≡ answer.Nothing
  pub hand : cpu.hand ≡ replicate size 0

-- a partition entry with no page
abbrev pub no_pate : Pate
no_pate = record { dw0 = 0; dw1 = 0 }

-- a guest of a configuration as it begins, with this sealer
pub record IsStartGuest {S : Type 0} (config : Config) (lpid : ℕ) (sealer : S) (guest : Guest S) : Type 0 where
  pub lpid_is : guest.lpid ≡ lpid
  pub shift : guest.shift ≡ config.shift
  pub normal : guest.normal ≡ config.normal
  pub secure : guest.secure ≡ config.secure
  pub phase : guest.phase ≡ start_phase ((plan_of config).is_born lpid)
  pub generation : guest.generation ≡ 1
  pub entry : guest.entry ≡ no_pate
  pub slots : guest.slots ≡ start_slots (plan_of config) ((plan_of config).is_born lpid)
  pub words : guest.words ≡ (plan_of config).entropy lpid
  pub pages : guest.pages ≡ invalid_pages config.pages
  pub vcpus : guest.vcpus.items ≡ replicate config.vcpus (start_vcpu (start_state ((plan_of config).is_born lpid)))
  pub sealer_is : guest.sealer ≡ sealer
  pub steps : guest.steps ≡ 0
