-- In a legal history each context names a generation that its guest has reached.
use Rattle.std.proofs.Common.{◌≡◌, ℕ, ◌≤◌, List, [], ◌∷◌, refl, ap, sym, subst, ◌∙◌, inl, inr, arith, Some}
use Rattle.std.proofs.lemmas.Bool.{cases_eq}
use Rattle.pef_model.specs.declared.state.Run.{Run}
use Rattle.pef_model.specs.declared.state.Ctx.{Ctx}
use Rattle.pef_model.specs.declared.state.Ctx.TheVariants as ctx
use Rattle.pef_model.specs.Plan.{Plan}
use Rattle.pef_model.specs.Event.{Event}
use Rattle.pef_model.specs.Target.{vcpu_in}
use Rattle.pef_model.specs.Cpu.{CpuPart, next_cpu}
use Rattle.pef_model.specs.GuestPart.{GuestPart, put}
use Rattle.pef_model.specs.History.{cpu_after, IsLegal}
use Rattle.pef_model.specs.MoveLaw.{EachMoveIsOfAGeneration}
use Rattle.pef_model.proofs.Works.{PageMove, inward, outward, work_of, with_copy, one_move, one_call, moves_none, one_vcpu}
use Rattle.pef_model.proofs.Puts.{put-here, put-other}
use Rattle.pef_model.proofs.Parts.{generation_grows}
use Rattle.pef_model.proofs.Changes.{Change, Quiet, Begins, Copies, Ends, Drops, Comes, Reads, Accepts, Refuses, Takes, Parked, Gone, Backs, Writes, Slots, Unmaps, Selected}
use Rattle.pef_model.proofs.ChangeOf.{change}
use Rattle.pef_model.proofs.Fields.{cpus_after, of_each}

-- a context names generations that their guests have reached, by the guests' generations
pub record Reached (generations : ℕ → ℕ) (c : Ctx) : Type 0 where
  pub runs : (run : Run) → vcpu_in c ≡ Some run → run.generation ≤ generations run.lpid
  pub moves : (m : PageMove) → c ≡ ctx.Uv (work_of m) → m.move.generation ≤ generations m.move.lpid

-- so it does where they have grown
reached_still : (old new : ℕ → ℕ) → ((lpid : ℕ) → old lpid ≤ new lpid) → (c : Ctx) → Reached old c → Reached new c
reached_still old new grow c reached = record {
  runs = λ run is. let low = reached.runs run is in omega (arith, low, grow run.lpid);
  moves = λ m is. let low = reached.moves m is in omega (arith, low, grow m.move.lpid);
}

-- the hypervisor's context names none
reached_none : (generations : ℕ → ℕ) → Reached generations ctx.Hv
reached_none generations = record { runs = λ run is. cc; moves = λ m is. cc }

-- that of a page's move names one
reached_moving : (generations : ℕ → ℕ) (m : PageMove) → m.move.generation ≤ generations m.move.lpid → Reached generations (ctx.Uv (work_of m))
reached_moving generations m low = record {
  runs = λ run is. absurd (moves_none (ctx.Uv (work_of m)) run is m refl);
  moves = λ other is. subst (λ (x : PageMove). x.move.generation ≤ generations x.move.lpid) (one_move m other (one_call (work_of m) (work_of other) is)) low;
}

-- and that of a vCPU
reached_running : (generations : ℕ → ℕ) (c : Ctx) (run : Run) → vcpu_in c ≡ Some run → run.generation ≤ generations run.lpid → Reached generations c
reached_running generations c run runs low = record {
  runs = λ other is. subst (λ (x : Run). x.generation ≤ generations x.lpid) (one_vcpu c run other runs is) low;
  moves = λ m is. absurd (moves_none c run runs m is);
}

-- the generations of the guests
abbrev generations : Plan → List Event → ℕ → ℕ
generations plan past = of_each (λ (g : GuestPart). g.generation) plan past

-- each change leaves its CPU in such a context
reached_by : (plan : Plan) (past : List Event) (cpu : CpuPart) (e : Event) → Reached (generations plan past) cpu.ctx → Change plan past cpu e → Reached (generations plan past) (next_cpu cpu e).ctx
reached_by plan past cpu e reached (Quiet x) = subst (Reached (generations plan past)) (sym x.cpu_is.ctx_is) reached
reached_by plan past cpu e reached (Begins x) = subst (Reached (generations plan past)) (sym x.cpu_is.ctx_is) (reached_moving _ (outward x.move) (let now = x.generation in omega arith))
reached_by plan past cpu e reached (Copies x) = subst (Reached (generations plan past)) (sym x.cpu_is.ctx_is) (reached_moving _ (with_copy (outward x.move)) (reached.moves (outward x.move) x.before))
reached_by plan past cpu e reached (Ends x) = subst (Reached (generations plan past)) (sym x.cpu_is.ctx_is) (reached_none (generations plan past))
reached_by plan past cpu e reached (Drops x) = subst (Reached (generations plan past)) (sym x.cpu_is.ctx_is) (reached_none (generations plan past))
reached_by plan past cpu e reached (Comes x) = subst (Reached (generations plan past)) (sym x.cpu_is.ctx_is) (reached_moving _ (inward x.move) (let now = x.generation in omega arith))
reached_by plan past cpu e reached (Reads x) = subst (Reached (generations plan past)) (sym x.cpu_is.ctx_is) (reached_moving _ (with_copy (inward x.move)) (reached.moves (inward x.move) x.before))
reached_by plan past cpu e reached (Accepts x) = subst (Reached (generations plan past)) (sym x.cpu_is.ctx_is) (reached_none (generations plan past))
reached_by plan past cpu e reached (Refuses x) = subst (Reached (generations plan past)) (sym x.cpu_is.ctx_is) (reached_none (generations plan past))
reached_by plan past cpu e reached (Takes x) = subst (Reached (generations plan past)) (sym x.cpu_is.ctx_is) (reached_running _ x.after _ x.runs (omega arith))
reached_by plan past cpu e reached (Parked x) = subst (Reached (generations plan past)) (sym x.cpu_is.ctx_is) (reached_none (generations plan past))
reached_by plan past cpu e reached (Gone x) = subst (Reached (generations plan past)) (sym x.cpu_is.ctx_is) (reached_none (generations plan past))
reached_by plan past cpu e reached (Backs x) = subst (Reached (generations plan past)) (sym x.cpu_is.ctx_is) reached
reached_by plan past cpu e reached (Writes x) = subst (Reached (generations plan past)) (sym x.cpu_is.ctx_is) reached
reached_by plan past cpu e reached (Slots x) = subst (Reached (generations plan past)) (sym x.cpu_is.ctx_is) reached
reached_by plan past cpu e reached (Unmaps x) = subst (Reached (generations plan past)) (sym x.cpu_is.ctx_is) reached
reached_by plan past cpu e reached (Selected x) = subst (Reached (generations plan past)) (sym x.cpu_is.ctx_is) reached

-- so it is after a legal history
pub all_reached : (plan : Plan) (past : List Event) → IsLegal plan past → (n : ℕ) → Reached (generations plan past) (cpu_after plan n past).ctx
all_reached plan [] legal n = reached_none (generations plan [])
all_reached plan (e ∷ past) legal n =
    reached_still (generations plan past) (generations plan (e ∷ past)) (generation_grows plan past e) (cpu_after plan n (e ∷ past)).ctx
    (subst (λ (cpu : CpuPart). Reached (generations plan past) cpu.ctx) (sym (cpus_after plan past e n)) (elim (cases_eq n e.trace.cpu) [
      | inl here ↦ subst (λ (cpu : CpuPart). Reached (generations plan past) cpu.ctx) (sym (ap (put cpus e.trace.cpu new) here ∙ put-here cpus e.trace.cpu new))
          (reached_by plan past (cpus e.trace.cpu) e (all_reached plan past legal.1 e.trace.cpu) (change plan past e legal.0))
      | inr other ↦ subst (λ (cpu : CpuPart). Reached (generations plan past) cpu.ctx) (sym (put-other cpus e.trace.cpu new n other)) (all_reached plan past legal.1 n)
    ])) where
      cpus : ℕ → CpuPart
      cpus k = cpu_after plan k past

      new : CpuPart
      new = next_cpu (cpus e.trace.cpu) e

-- a call that moves a page so
pub each_move_is_of_a_generation : EachMoveIsOfAGeneration
each_move_is_of_a_generation plan past n way move legal is = (all_reached plan past legal n).moves (record { way = way; move = move }) is
