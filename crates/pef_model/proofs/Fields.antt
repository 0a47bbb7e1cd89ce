-- What an entry leaves of the CPUs and of the guests, field by field.
use Rattle.std.proofs.Common.{◌≡◌, ℕ, List, ◌∷◌, Bool, true, false, ap, sym, subst, refl, ◌∙◌, ◌==◌, if◌then◌else◌, inl, inr}
use Rattle.std.proofs.lemmas.Bool.{cases_eq}
use Rattle.pef_model.specs.declared.state.Phase.TheVariants.{Normal}
use Rattle.pef_model.specs.declared.state.Ctx.{Ctx}
use Rattle.pef_model.specs.Plan.{Plan}
use Rattle.pef_model.specs.Event.{Event}
use Rattle.pef_model.specs.Target.{touches_cpu}
use Rattle.pef_model.specs.Cpu.{CpuPart, start_cpu, next_cpu}
use Rattle.pef_model.specs.GuestPart.{GuestPart, put, with_entry, ended_normal}
use Rattle.pef_model.specs.History.{cpu_after, part_after}
use Rattle.pef_model.proofs.Folds.{test_same, counts, skips}
use Rattle.pef_model.proofs.Puts.{not_swapped, put-ap, put-same, put-here, put-other}
use Rattle.pef_model.proofs.Changes.{LeavesCpu, KeepsParts, PutsPart, entry_gives}

-- the contexts of the CPUs
abbrev pub ctxs : Plan → List Event → ℕ → Ctx
ctxs plan past n = (cpu_after plan n past).ctx

-- the hands of the CPUs
abbrev pub hands : Plan → List Event → ℕ → List ℕ
hands plan past n = (cpu_after plan n past).hand

-- a field of each guest's public part
abbrev pub of_each : {X : Type 0} → (GuestPart → X) → Plan → List Event → ℕ → X
of_each f plan past lpid = f (part_after plan past lpid)

-- an entry changes its CPU alone
pub cpus_after : (plan : Plan) (past : List Event) (e : Event) (n : ℕ) →
    cpu_after plan n (e ∷ past) ≡ put (λ k. cpu_after plan k past) e.trace.cpu (next_cpu (cpu_after plan e.trace.cpu past) e) n
cpus_after plan past e n = by_test (e.trace.cpu == n) (n == e.trace.cpu) refl refl where
  by_test : (b c : Bool) → (e.trace.cpu == n) ≡ b → (n == e.trace.cpu) ≡ c →
      cpu_after plan n (e ∷ past) ≡ (if c then next_cpu (cpu_after plan e.trace.cpu past) e else cpu_after plan n past)
  by_test true true t s =
      counts (touches_cpu n) next_cpu (start_cpu plan) e past t
      ∙ ap (λ (k : ℕ). next_cpu (cpu_after plan k past) e) (sym (test_same e.trace.cpu n t))
  by_test false false t s = skips (touches_cpu n) next_cpu (start_cpu plan) e past t
  by_test true false t s = absurd (not_swapped e.trace.cpu n t s)
  by_test false true t s = absurd (not_swapped n e.trace.cpu s t)

module _ (plan : Plan) (past : List Event) (e : Event) where
  abbrev m : ℕ
  m = e.trace.cpu

  abbrev cpu : CpuPart
  cpu = cpu_after plan m past

  -- the CPU that makes the step goes into its new context
  pub ctxs_after : (after : Ctx) (hand : List ℕ) (lpid : ℕ) → LeavesCpu cpu e after hand lpid → put (ctxs plan past) m after ≡ ctxs plan (e ∷ past)
  ctxs_after after hand lpid left = (λ i n. (sym (
      ap (λ (x : CpuPart). x.ctx) (cpus_after plan past e n) ∙ put-ap (λ (x : CpuPart). x.ctx) (λ k. cpu_after plan k past) m (next_cpu cpu e) n
      ∙ ap (λ (x : Ctx). put (ctxs plan past) m x n) left.ctx_is)) i)

  -- and takes its new hand
  pub hands_after : (after : Ctx) (hand : List ℕ) (lpid : ℕ) → LeavesCpu cpu e after hand lpid → put (hands plan past) m hand ≡ hands plan (e ∷ past)
  hands_after after hand lpid left = (λ i n. (sym (
      ap (λ (x : CpuPart). x.hand) (cpus_after plan past e n) ∙ put-ap (λ (x : CpuPart). x.hand) (λ k. cpu_after plan k past) m (next_cpu cpu e) n
      ∙ ap (λ (x : List ℕ). put (hands plan past) m x n) left.hand_is)) i)

  -- a CPU that keeps its hand
  pub same_hands : (after : Ctx) (lpid : ℕ) → LeavesCpu cpu e after cpu.hand lpid → hands plan past ≡ hands plan (e ∷ past)
  same_hands after lpid left = (λ i n. sym (put-same (hands plan past) m n) i) ∙ hands_after after cpu.hand lpid left

  -- a CPU that keeps its context
  pub same_ctxs : (hand : List ℕ) (lpid : ℕ) → LeavesCpu cpu e cpu.ctx hand lpid → ctxs plan past ≡ ctxs plan (e ∷ past)
  same_ctxs hand lpid left = (λ i n. sym (put-same (ctxs plan past) m n) i) ∙ ctxs_after cpu.ctx hand lpid left

  -- a field of each guest's public part
  pub field_after : {X : Type 0} (f : GuestPart → X) (l : ℕ) (new : GuestPart) → PutsPart plan past e l new → put (of_each f plan past) l (f new) ≡ of_each f plan (e ∷ past)
  field_after f l new parts = (λ i lpid. (sym (ap f (parts lpid) ∙ put-ap f (part_after plan past) l new lpid)) i)

  -- a field that the new part has from the old
  pub same_field : {X : Type 0} (f : GuestPart → X) (l : ℕ) (new : GuestPart) → PutsPart plan past e l new → f new ≡ f (part_after plan past l) →
      of_each f plan past ≡ of_each f plan (e ∷ past)
  same_field f l new parts same = (λ i lpid. sym (put-same (of_each f plan past) l lpid) i) ∙ ap (put (of_each f plan past) l) (sym same) ∙ field_after f l new parts

  -- a field where no part changes
  pub kept_field : {X : Type 0} (f : GuestPart → X) → KeepsParts plan past e → of_each f plan past ≡ of_each f plan (e ∷ past)
  kept_field f parts = (λ i lpid. f (sym (parts lpid) i))

  -- a field where a partition entry is set that leaves it
  pub entry_field : {X : Type 0} (f : GuestPart → X) (l base length : ℕ) → PutsPart plan past e l (with_entry (part_after plan past l) base length) →
      f (record (part_after plan past l) { entry = record { base = base; length_ = length }; phase = Normal }) ≡ f (part_after plan past l) →
      f (ended_normal (record (part_after plan past l) { entry = record { base = base; length_ = length } })) ≡ f (part_after plan past l) →
      of_each f plan past ≡ of_each f plan (e ∷ past)
  entry_field f l base length parts set ended =
      same_field f l (with_entry (part_after plan past l) base length) parts (entry_gives (λ (g : GuestPart). f g ≡ f (part_after plan past l)) (part_after plan past l) base length set ended)

  -- what holds of each part before an entry that changes none holds after it
  pub holds_same : (P : GuestPart → Type 0) → KeepsParts plan past e → ((lpid : ℕ) → P (part_after plan past lpid)) → (lpid : ℕ) → P (part_after plan (e ∷ past) lpid)
  holds_same P parts h lpid = subst P (sym (parts lpid)) (h lpid)

  -- and after one that changes one part, where it holds of the new one
  pub holds_one : (P : GuestPart → Type 0) (l : ℕ) (new : GuestPart) → PutsPart plan past e l new → P new → ((lpid : ℕ) → P (part_after plan past lpid)) → (lpid : ℕ) → P (part_after plan (e ∷ past) lpid)
  holds_one P l new parts here h lpid = subst P (sym (parts lpid)) (elim (cases_eq lpid l) [
    | inl same ↦ subst P (sym (ap (put (part_after plan past) l new) same ∙ put-here (part_after plan past) l new)) here
    | inr other ↦ subst P (sym (put-other (part_after plan past) l new lpid other)) (h lpid)
  ])
