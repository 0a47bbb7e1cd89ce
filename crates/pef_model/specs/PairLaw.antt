-- Pairs of runs, computed: one in which a secret differs, and one in which the hypervisor's own values do.
use Rattle.std.specs.Prelude.{◌≡◌, ◌≢◌, ℕ, true, [], ◌∷◌, length, replicate}
use Rattle.pef_model.specs.declared.config.Config.{Config}
use Rattle.pef_model.specs.declared.command.Cmd.TheVariants.{HLd, HSt, HEnter, UPate, UReturn, GLi, GLd, GSt, GIrq}
use Rattle.pef_model.specs.Plan.{plan_of}
use Rattle.pef_model.specs.Script.{Script}
use Rattle.pef_model.specs.Run.{run_of}
use Rattle.pef_model.specs.History.{last_store}
use Rattle.pef_model.specs.View.{view}
use Rattle.pef_model.specs.Alike.{IsAlike}
use Rattle.pef_model.specs.SeenReport.{DifferInSecrets, all_sealed}
use Rattle.pef_model.specs.RunLaw.{small_config, line_at, return_with, page_out_script}

-- a secret as the guest's entropy word
abbrev pub secret_config : ℕ → Config
secret_config secret = record small_config { entropy = record { lpid = 1; left = secret; right = 0 } ∷ [] }

-- a guest stores a value and loads it, while the hypervisor works on another CPU; an interrupt takes the guest from its CPU, and it goes on on the other
abbrev pub secret_script : ℕ → Script
secret_script secret = record {
  config = secret_config secret;
  lines =
      line_at 1 0 (return_with 0) ∷ line_at 2 0 (GLi 20 secret) ∷ line_at 3 0 (GSt 20 0x8) ∷ line_at 4 1 (HSt 0x10 5) ∷ line_at 5 0 (GLd 6 0x8)
      ∷ line_at 6 1 (HLd 0x10) ∷ line_at 7 1 (return_with 0) ∷ line_at 8 0 (UReturn 1 2 (replicate 9 3)) ∷ line_at 9 0 GIrq
      ∷ line_at 10 1 (return_with 0) ∷ line_at 11 1 (GLd 7 0x8) ∷ line_at 12 1 GIrq ∷ line_at 13 0 (HLd 0x8) ∷ [];
}

-- the runs of that script with two secrets
pub record ASecretDiffers (one other : ℕ) : Type 0 where
  -- the scripts differ, in secrets alone: in the value of a line and in an entropy word
  pub apart : secret_script one ≢ secret_script other
  pub words : (plan_of (secret_config one)).entropy 1 ≢ (plan_of (secret_config other)).entropy 1
  pub scripts : DifferInSecrets (secret_script one) (secret_script other)
  -- the guest's memory differs
  pub stored : last_store (plan_of (secret_config one)) (run_of (secret_script one)) 1 0x8 ≡ one
  pub other_stored : last_store (plan_of (secret_config other)) (run_of (secret_script other)) 1 0x8 ≡ other
  -- the runs are alike, and show the hypervisor the same
  pub alike : IsAlike (secret_config one) (run_of (secret_script one)) (secret_config other) (run_of (secret_script other))
  pub seen : view (plan_of (secret_config one)) (run_of (secret_script one)) ≡ view (plan_of (secret_config other)) (run_of (secret_script other))

-- a guest that stores 7, and one that stores 9
abbrev pub SecretStaysIn : Type 0
SecretStaysIn = ASecretDiffers 7 9

-- the hypervisor stores a value
abbrev pub open_script : ℕ → Script
open_script value = record { config = small_config; lines = line_at 1 0 (HSt 0x10 value) ∷ [] }

-- where the hypervisor's own values differ, the views do
abbrev pub ViewShowsStores : Type 0
ViewShowsStores = view (plan_of small_config) (run_of (open_script 7)) ≢ view (plan_of small_config) (run_of (open_script 9))

-- a guest in normal memory stores a value, and leaves with another in a register
abbrev pub normal_pair : ℕ → ℕ → Script
normal_pair stored kept = record {
  config = small_config;
  lines = line_at 1 0 (UPate 2 0x100 1) ∷ line_at 2 0 (HEnter 2 0 0) ∷ line_at 3 0 (GLi 20 stored) ∷ line_at 4 0 (GSt 20 0x8) ∷ line_at 5 0 (GLi 20 kept) ∷ line_at 6 0 GIrq ∷ [];
}

-- it hides neither: the scripts differ in secrets alone; where what is stored differs, or what is kept, the runs aren't alike and the views differ
pub record NormalGuestsHideNothing : Type 0 where
  pub scripts : DifferInSecrets (normal_pair 7 5) (normal_pair 9 6)
  pub stored_apart : IsAlike small_config (run_of (normal_pair 7 5)) small_config (run_of (normal_pair 9 5)) → ⊥
  pub kept_apart : IsAlike small_config (run_of (normal_pair 7 5)) small_config (run_of (normal_pair 7 6)) → ⊥
  pub stored : view (plan_of small_config) (run_of (normal_pair 7 5)) ≢ view (plan_of small_config) (run_of (normal_pair 9 5))
  pub kept : view (plan_of small_config) (run_of (normal_pair 7 5)) ≢ view (plan_of small_config) (run_of (normal_pair 7 6))

-- a guest in normal memory has a secret in a register, and another value there before it stores and leaves
abbrev pub normal_secret : ℕ → Script
normal_secret secret = record {
  config = small_config;
  lines = line_at 1 0 (UPate 2 0x100 1) ∷ line_at 2 0 (HEnter 2 0 0) ∷ line_at 3 0 (GLi 20 secret) ∷ line_at 4 0 (GLi 20 5) ∷ line_at 5 0 (GSt 20 0x8) ∷ line_at 6 0 GIrq ∷ [];
}

-- what it doesn't let out stays in: the runs are alike, and show the hypervisor the same
pub record WhatIsNotLetOutStaysIn : Type 0 where
  pub scripts : DifferInSecrets (normal_secret 7) (normal_secret 9)
  pub apart : normal_secret 7 ≢ normal_secret 9
  pub alike : IsAlike small_config (run_of (normal_secret 7)) small_config (run_of (normal_secret 9))
  pub seen : view (plan_of small_config) (run_of (normal_secret 7)) ≡ view (plan_of small_config) (run_of (normal_secret 9))

-- that configuration with a vault
abbrev pub vault_config : Config
vault_config = record small_config { vault = true }

-- the stream's sealed page tells pages apart: the guest pages out 7, or 9
pub record ASealedPageTells (one other : ℕ) : Type 0 where
  -- what was sealed differs
  pub sealed : all_sealed (run_of (page_out_script small_config one)) ≢ all_sealed (run_of (page_out_script small_config other))
  -- and so does what the hypervisor sees
  pub seen : view (plan_of small_config) (run_of (page_out_script small_config one)) ≢ view (plan_of small_config) (run_of (page_out_script small_config other))

abbrev pub StreamTells : Type 0
StreamTells = ASealedPageTells 7 9

-- the vault's sealed page doesn't: the guest pages out 7, or 9
pub record AVaultIsShut (one other : ℕ) : Type 0 where
  -- what the page holds differs
  pub stored : last_store (plan_of vault_config) (run_of (page_out_script vault_config one)) 1 0x8 ≡ one
  pub other_stored : last_store (plan_of vault_config) (run_of (page_out_script vault_config other)) 1 0x8 ≡ other
  -- a page was sealed, the same in both runs
  pub sealed : all_sealed (run_of (page_out_script vault_config one)) ≡ all_sealed (run_of (page_out_script vault_config other))
  pub some : length (all_sealed (run_of (page_out_script vault_config one))) ≡ 1
  -- the runs are alike, and show the hypervisor the same
  pub alike : IsAlike vault_config (run_of (page_out_script vault_config one)) vault_config (run_of (page_out_script vault_config other))
  pub seen : view (plan_of vault_config) (run_of (page_out_script vault_config one)) ≡ view (plan_of vault_config) (run_of (page_out_script vault_config other))

abbrev pub VaultIsShut : Type 0
VaultIsShut = AVaultIsShut 7 9
