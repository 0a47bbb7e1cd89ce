-- The machine as it begins.
use Rattle.std.specs.Prelude.{◌≡◌, ℕ, ◌+◌, ◌^◌, List, length}
use Rattle.pef_model.specs.declared.config.Config.{Config}
use Rattle.pef_model.specs.declared.state.Tag.{Tag}
use Rattle.pef_model.specs.Seal as seal
use Rattle.pef_seal.specs.Serves.{Serves}
use Rattle.pef_guest.specs.declared.cpu.Cpu.{Cpu}
use Rattle.pef_guest.specs.declared.guest.Guest.{Guest}
use Rattle.pef_guest.specs.Start.{IsStartCpu, IsStartGuest}
use Rattle.pef_guest.specs.Whole.{IsWhole}
use Rattle.pef_core.specs.State.{Each}

-- there is a sealer for each guest, and each serves the configuration
pub record IsServed {S : Type 0} (config : Config) (image : S → Tag → List ℕ → List ℕ) (takes : S → ℕ → ℕ → Type 0) (sealers : List S) : Type 0 where
  pub count : length sealers ≡ config.guests
  pub each : Each (λ i sealer. Serves config (image sealer) (takes sealer)) sealers

-- these are the CPUs of a configuration as they begin
pub record AreStartCpus (config : Config) (cpus : List Cpu) : Type 0 where
  pub count : length cpus ≡ config.cpus
  pub each : Each (λ n cpu. IsStartCpu n (2 ^ config.shift) cpu) cpus

-- a guest as it begins, whole, whatever its sealer is, which writes the configuration's sealed pages
pub record Begins {S : Type 0} (image : S → Tag → List ℕ → List ℕ) (takes : S → ℕ → ℕ → Type 0) (config : Config) (lpid : ℕ) (guest : Guest S) : Type 0 where
  pub start : IsStartGuest config lpid guest.sealer guest
  pub whole : IsWhole takes guest
  pub images : image guest.sealer ≡ seal.image config

-- these are the guests of a configuration as they begin
pub record AreStartGuests {S : Type 0} (image : S → Tag → List ℕ → List ℕ) (takes : S → ℕ → ℕ → Type 0) (config : Config) (guests : List (Guest S)) : Type 0 where
  pub count : length guests ≡ config.guests
  pub each : Each (λ i guest. Begins image takes config (i + 1) guest) guests
