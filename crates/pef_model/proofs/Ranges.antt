-- In a legal history each CPU has a guest of the machine selected, and runs vCPUs of no other.
use Rattle.std.proofs.Common.{◌≡◌, ℕ, ◌<◌, List, [], ◌∷◌, ap, sym, subst, inl, inr, ◌∙◌, arith, Some}
use Rattle.std.proofs.lemmas.Bool.{cases_eq}
use Rattle.pef_model.specs.declared.state.Run.{Run}
use Rattle.pef_model.specs.declared.state.Ctx.{Ctx}
use Rattle.pef_model.specs.Target.{vcpu_in}
use Rattle.pef_model.specs.Plan.{Plan, IsWithin}
use Rattle.pef_model.specs.Event.{Event}
use Rattle.pef_model.specs.GuestPart.{put}
use Rattle.pef_model.specs.Cpu.{CpuPart, next_cpu}
use Rattle.pef_model.specs.History.{cpu_after, IsLegal}
use Rattle.pef_model.proofs.Puts.{put-here, put-other}
use Rattle.pef_model.proofs.Works.{one_vcpu}
use Rattle.pef_model.proofs.Changes.{Change, Quiet, Begins, Copies, Ends, Drops, Comes, Reads, Accepts, Refuses, Takes, Parked, Gone, Backs, Writes, Slots, Unmaps, Selected, LeavesCpu}
use Rattle.pef_model.proofs.ChangeOf.{change}
use Rattle.pef_model.proofs.Fields.{cpus_after}

-- a number is that of a guest of the machine
abbrev pub IsNumbered : Plan → ℕ → Type 0
IsNumbered plan lpid = IsWithin 1 plan.guests lpid

-- a CPU selects a guest of the machine, and runs a vCPU of one
pub record IsRanged (plan : Plan) (cpu : CpuPart) : Type 0 where
  pub selects : IsNumbered plan cpu.lpid
  pub runs : (run : Run) → vcpu_in cpu.ctx ≡ Some run → IsNumbered plan run.lpid

-- a CPU that an entry leaves so, in a context in which no vCPU runs
left_calm : (plan : Plan) (cpu : CpuPart) (e : Event) (after : Ctx) (hand : List ℕ) (lpid : ℕ) → LeavesCpu cpu e after hand lpid → IsNumbered plan lpid → ((run : Run) → vcpu_in after ≡ Some run → IsNumbered plan run.lpid) → IsRanged plan (next_cpu cpu e)
left_calm plan cpu e after hand lpid left selects runs = record {
  selects = subst (IsNumbered plan) (sym left.lpid_is) selects;
  runs = λ run is. runs run (ap vcpu_in (sym left.ctx_is) ∙ is);
}

-- each change leaves a CPU so
ranged_by : (plan : Plan) (past : List Event) (cpu : CpuPart) (e : Event) → IsRanged plan cpu → Change plan past cpu e → IsRanged plan (next_cpu cpu e)
ranged_by plan past cpu e ranged (Quiet x) = left_calm plan cpu e _ _ _ x.cpu_is ranged.selects ranged.runs
ranged_by plan past cpu e ranged (Begins x) = left_calm plan cpu e _ _ _ x.cpu_is ranged.selects (λ run is. cc)
ranged_by plan past cpu e ranged (Copies x) = left_calm plan cpu e _ _ _ x.cpu_is ranged.selects (λ run is. cc)
ranged_by plan past cpu e ranged (Ends x) = left_calm plan cpu e _ _ _ x.cpu_is ranged.selects (λ run is. cc)
ranged_by plan past cpu e ranged (Drops x) = left_calm plan cpu e _ _ _ x.cpu_is ranged.selects (λ run is. cc)
ranged_by plan past cpu e ranged (Comes x) = left_calm plan cpu e _ _ _ x.cpu_is ranged.selects (λ run is. cc)
ranged_by plan past cpu e ranged (Reads x) = left_calm plan cpu e _ _ _ x.cpu_is ranged.selects (λ run is. cc)
ranged_by plan past cpu e ranged (Accepts x) = left_calm plan cpu e _ _ _ x.cpu_is ranged.selects (λ run is. cc)
ranged_by plan past cpu e ranged (Refuses x) = left_calm plan cpu e _ _ _ x.cpu_is ranged.selects (λ run is. cc)
ranged_by plan past cpu e ranged (Takes x) = left_calm plan cpu e _ _ _ x.cpu_is ranged.selects (λ run is. let same : x.lpid ≡ run.lpid = ap (λ (r : Run). r.lpid) (one_vcpu x.after _ run x.runs is) in subst (IsNumbered plan) same (elim x.number [
  | inl selected ↦ subst (IsNumbered plan) (sym selected) ranged.selects
  | inr named ↦ named
]))
ranged_by plan past cpu e ranged (Parked x) = left_calm plan cpu e _ _ _ x.cpu_is (ranged.runs x.run (ap vcpu_in x.before)) (λ run is. cc)
ranged_by plan past cpu e ranged (Gone x) = left_calm plan cpu e _ _ _ x.cpu_is ranged.selects (λ run is. cc)
ranged_by plan past cpu e ranged (Backs x) = left_calm plan cpu e _ _ _ x.cpu_is ranged.selects ranged.runs
ranged_by plan past cpu e ranged (Writes x) = left_calm plan cpu e _ _ _ x.cpu_is ranged.selects ranged.runs
ranged_by plan past cpu e ranged (Slots x) = left_calm plan cpu e _ _ _ x.cpu_is ranged.selects ranged.runs
ranged_by plan past cpu e ranged (Unmaps x) = left_calm plan cpu e _ _ _ x.cpu_is ranged.selects ranged.runs
ranged_by plan past cpu e ranged (Selected x) = left_calm plan cpu e _ _ _ x.cpu_is x.number ranged.runs

-- so it is after a legal history
pub all_ranged : (plan : Plan) (past : List Event) → 0 < plan.guests → IsLegal plan past → (n : ℕ) → IsRanged plan (cpu_after plan n past)
all_ranged plan [] some legal n = record { selects = (omega arith, omega arith); runs = λ run is. cc }
all_ranged plan (e ∷ past) some legal n = subst (IsRanged plan) (sym (cpus_after plan past e n)) (elim (cases_eq n e.trace.cpu) [
  | inl here ↦ subst (IsRanged plan) (sym (ap (put cpus e.trace.cpu new) here ∙ put-here cpus e.trace.cpu new))
      (ranged_by plan past (cpus e.trace.cpu) e (all_ranged plan past some legal.1 e.trace.cpu) (change plan past e legal.0))
  | inr other ↦ subst (IsRanged plan) (sym (put-other cpus e.trace.cpu new n other)) (all_ranged plan past some legal.1 n)
]) where
  cpus : ℕ → CpuPart
  cpus k = cpu_after plan k past

  new : CpuPart
  new = next_cpu (cpus e.trace.cpu) e
