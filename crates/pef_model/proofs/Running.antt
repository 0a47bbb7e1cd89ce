-- A vCPU runs on one CPU.
use Rattle.std.proofs.Common.{◌≡◌, ℕ, ◌≤◌, List, [], ◌∷◌, true, refl, ap, sym, subst, ◌∙◌, inl, inr, arith, Some, None}
use Rattle.std.proofs.lemmas.Bool.{cases_eq}
use Rattle.pef_model.specs.declared.state.Phase.{Phase}
use Rattle.pef_model.specs.declared.state.VState.{VState}
use Rattle.pef_model.specs.declared.state.VState.TheVariants as vstate
use Rattle.pef_model.specs.declared.state.Run.{Run}
use Rattle.pef_model.specs.declared.state.Ctx.{Ctx}
use Rattle.pef_model.specs.declared.state.Ctx.TheVariants as ctx
use Rattle.pef_model.specs.Plan.{Plan}
use Rattle.pef_model.specs.Event.{Event}
use Rattle.pef_model.specs.Target.{vcpu_in}
use Rattle.pef_model.specs.GuestPart.{GuestPart, VcpuPart, put, with_entry}
use Rattle.pef_model.specs.History.{cpu_after, IsLegal, part_after}
use Rattle.pef_model.specs.CountLaw.{EachCpuRunsItsVcpu, EachRunIsOfAGeneration, NoVcpuRunsTwice}
use Rattle.pef_model.proofs.Puts.{put-here, put-other, put_in, IsElsewhere, put_in-here, put_in-elsewhere}
use Rattle.pef_model.proofs.Parts.{settled, secure_where_runs}
use Rattle.pef_model.proofs.Reached.{all_reached}
use Rattle.pef_model.proofs.Works.{one_vcpu}
use Rattle.pef_model.proofs.Changes.{Change, may_run_in, entry_gives, Quiet, Begins, Copies, Ends, Drops, Comes, Reads, Accepts, Refuses, Takes, Parked, Gone, Backs, Writes, Slots, Unmaps, Selected, LeavesCpu, KeepsParts, PutsPart}
use Rattle.pef_model.proofs.ChangeOf.{change}
use Rattle.pef_model.proofs.Fields.{ctxs, of_each, ctxs_after, same_ctxs, field_after, same_field, kept_field}

-- a vCPU of a guest in this phase runs on this CPU
pub record IsRunning (vcpu : VcpuPart) (p : Phase) (n : ℕ) (run : Run) : Type 0 where
  state : vcpu.state ≡ vstate.Running n
  taken : vcpu.generation ≡ run.generation
  allowed : may_run_in p ≡ true

-- by the contexts of the CPUs, and the guests' vCPUs, generations and phases: each CPU that runs a vCPU, or has its call in progress, is the one on which it runs, as long as its guest is in that generation, and no other runs it in it
pub record AreRun (ctxs : ℕ → Ctx) (vcpus : ℕ → ℕ → VcpuPart) (generations : ℕ → ℕ) (phases : ℕ → Phase) : Type 0 where
  runs : (n : ℕ) (run : Run) → vcpu_in (ctxs n) ≡ Some run → run.generation ≡ generations run.lpid → IsRunning (vcpus run.lpid run.vid) (phases run.lpid) n run
  alone : (m n : ℕ) (left right : Run) → vcpu_in (ctxs m) ≡ Some left → vcpu_in (ctxs n) ≡ Some right → left.lpid ≡ right.lpid → left.vid ≡ right.vid → left.generation ≡ right.generation → m ≡ n

-- a vCPU runs on one CPU
one_cpu : (state : VState) (n m : ℕ) → state ≡ vstate.Running n → state ≡ vstate.Running m → n ≡ m
one_cpu state n m h k = cc

module _ (ctxs : ℕ → Ctx) (vcpus : ℕ → ℕ → VcpuPart) (generations : ℕ → ℕ) (phases : ℕ → Phase) (m : ℕ) (h : AreRun ctxs vcpus generations phases) where
  -- a CPU that runs a vCPU once this one is in a context in which none runs did before
  ran : (after : Ctx) → ((run : Run) → vcpu_in after ≡ Some run → ⊥) → (n : ℕ) (run : Run) → vcpu_in (put ctxs m after n) ≡ Some run → vcpu_in (ctxs n) ≡ Some run
  ran after none n run is = elim (cases_eq n m) [
    | inl here ↦ absurd (none run (ap vcpu_in (sym (put-here ctxs m after) ∙ ap (put ctxs m after) (sym here)) ∙ is))
    | inr other ↦ ap vcpu_in (sym (put-other ctxs m after n other)) ∙ is
  ]

  -- a CPU goes into a context in which no vCPU runs
  run_on : (after : Ctx) → ((run : Run) → vcpu_in after ≡ Some run → ⊥) → AreRun (put ctxs m after) vcpus generations phases
  run_on after none = record {
    runs = λ n run is now. h.runs n run (ran after none n run is) now;
    alone = λ k n left right first second. h.alone k n left right (ran after none k left first) (ran after none n right second);
  }

  -- one of a vCPU's changes leaves the others that run
  run_else : (l v : ℕ) (new : VcpuPart) (n : ℕ) (run : Run) → vcpu_in (ctxs n) ≡ Some run → run.generation ≡ generations run.lpid → IsElsewhere l v run.lpid run.vid →
      IsRunning (put_in vcpus l v new run.lpid run.vid) (phases run.lpid) n run
  run_else l v new n run is now elsewhere =
      subst (λ (vcpu : VcpuPart). IsRunning vcpu (phases run.lpid) n run) (sym (put_in-elsewhere vcpus l v new run.lpid run.vid elsewhere)) (h.runs n run is now)

  -- a CPU that runs a vCPU in its guest's generation has it in this state
  state_at : (l v : ℕ) (n : ℕ) (run : Run) → vcpu_in (ctxs n) ≡ Some run → run.generation ≡ generations run.lpid → run.lpid ≡ l → run.vid ≡ v → (vcpus l v).state ≡ vstate.Running n
  state_at l v n run is now p q =
      let running = h.runs n run is now in
      ap (λ (x : ℕ). (vcpus x v).state) (sym p) ∙ ap (λ (x : ℕ). (vcpus run.lpid x).state) (sym q) ∙ running.state

  -- a vCPU that doesn't run is taken up
  run_taken : (l v : ℕ) (after : Ctx) → vcpu_in after ≡ Some (record { lpid = l; vid = v; generation = generations l }) → ((n : ℕ) → (vcpus l v).state ≡ vstate.Running n → ⊥) → may_run_in (phases l) ≡ true →
      AreRun (put ctxs m after) (put_in vcpus l v (record { state = vstate.Running m; generation = generations l })) generations phases
  run_taken l v after goes rests allowed = record {
    runs = λ n run is now. elim (cases_eq n m) [
      | inl here ↦
          subst (λ (x : ℕ). IsRunning (put_in vcpus l v new run.lpid run.vid) (phases run.lpid) x run) (sym here)
          (subst (λ (x : Run). IsRunning (put_in vcpus l v new x.lpid x.vid) (phases x.lpid) m x) (up_is n run here is)
          (record {
            state = ap (λ (x : VcpuPart). x.state) (put_in-here vcpus l v new);
            taken = ap (λ (x : VcpuPart). x.generation) (put_in-here vcpus l v new);
            allowed = allowed;
          }))
      | inr other ↦
          let before = ap vcpu_in (sym (put-other ctxs m after n other)) ∙ is in
          run_else l v new n run before now (λ p q. rests n (state_at l v n run before now p q))
    ];
    alone = λ k n left right first second guest vcpu generation. elim (cases_eq k m) [
      | inl here ↦ elim (cases_eq n m) [
        | inl there ↦ here ∙ sym there
        | inr other ↦
            let one = up_is k left here first in
            absurd (apart n right other second (sym guest ∙ ap (λ (x : Run). x.lpid) (sym one)) (sym vcpu ∙ ap (λ (x : Run). x.vid) (sym one)) (sym generation ∙ ap (λ (x : Run). x.generation) (sym one)))
      ]
      | inr elsewhere ↦ elim (cases_eq n m) [
        | inl there ↦
            let one = up_is n right there second in
            absurd (apart k left elsewhere first (guest ∙ ap (λ (x : Run). x.lpid) (sym one)) (vcpu ∙ ap (λ (x : Run). x.vid) (sym one)) (generation ∙ ap (λ (x : Run). x.generation) (sym one)))
        | inr other ↦ h.alone k n left right (ap vcpu_in (sym (put-other ctxs m after k elsewhere)) ∙ first) (ap vcpu_in (sym (put-other ctxs m after n other)) ∙ second) guest vcpu generation
      ]
    ];
  } where
    up : Run
    up = record { lpid = l; vid = v; generation = generations l }

    new : VcpuPart
    new = record { state = vstate.Running m; generation = generations l }

    -- this CPU runs the one that was taken up
    up_is : (n : ℕ) (run : Run) → n ≡ m → vcpu_in (put ctxs m after n) ≡ Some run → up ≡ run
    up_is n run here is = one_vcpu after up run goes (ap vcpu_in (sym (put-here ctxs m after) ∙ ap (put ctxs m after) (sym here)) ∙ is)

    -- and no other ran it
    apart : (n : ℕ) (run : Run) → (n ≡ m → ⊥) → vcpu_in (put ctxs m after n) ≡ Some run → run.lpid ≡ l → run.vid ≡ v → run.generation ≡ generations l → ⊥
    apart n run other is p q now =
        let before = ap vcpu_in (sym (put-other ctxs m after n other)) ∙ is in
        rests n (state_at l v n run before (now ∙ ap generations (sym p)) p q)

  -- a vCPU leaves its CPU
  run_parked : (left : Run) (new : VcpuPart) → vcpu_in (ctxs m) ≡ Some left → left.generation ≡ generations left.lpid → AreRun (put ctxs m ctx.Hv) (put_in vcpus left.lpid left.vid new) generations phases
  run_parked left new before lives = record {
    runs = λ n run is now. elim (cases_eq n m) [
      | inl here ↦ let none : None ≡ Some run = ap vcpu_in (sym (put-here ctxs m ctx.Hv) ∙ ap (put ctxs m ctx.Hv) (sym here)) ∙ is in cc
      | inr other ↦
          let was = ap vcpu_in (sym (put-other ctxs m ctx.Hv n other)) ∙ is in
          let own = h.runs m left before lives in
          run_else left.lpid left.vid new n run was now (λ p q. other (one_cpu (vcpus left.lpid left.vid).state n m (state_at left.lpid left.vid n run was now p q) own.state))
    ];
    alone = λ k n one other first second. h.alone k n one other (ran ctx.Hv (λ run is. cc) k one first) (ran ctx.Hv (λ run is. cc) n other second);
  }

  -- one guest has other vCPUs, another generation and phase
  run_written : (l : ℕ) (vs : ℕ → VcpuPart) (generation : ℕ) (p : Phase) →
      ((n : ℕ) (run : Run) → vcpu_in (ctxs n) ≡ Some run → run.lpid ≡ l → run.generation ≡ generation → (run.generation ≡ generations l → IsRunning (vcpus l run.vid) (phases l) n run) → IsRunning (vs run.vid) p n run) →
      AreRun ctxs (put vcpus l vs) (put generations l generation) (put phases l p)
  run_written l vs generation p there = record {
    runs = λ n run is now. elim (cases_eq run.lpid l) [
      | inl here ↦
          subst (λ (x : ℕ → VcpuPart). IsRunning (x run.vid) (put phases l p run.lpid) n run) (sym (ap (put vcpus l vs) here ∙ put-here vcpus l vs))
          (subst (λ (x : Phase). IsRunning (vs run.vid) x n run) (sym (ap (put phases l p) here ∙ put-here phases l p))
          (there n run is here (now ∙ ap (put generations l generation) here ∙ put-here generations l generation)
          (λ old. subst (λ (x : ℕ). IsRunning (vcpus x run.vid) (phases x) n run) here (h.runs n run is (old ∙ ap generations (sym here))))))
      | inr other ↦
          subst (λ (x : ℕ → VcpuPart). IsRunning (x run.vid) (put phases l p run.lpid) n run) (sym (put-other vcpus l vs run.lpid other))
          (subst (λ (x : Phase). IsRunning (vcpus run.lpid run.vid) x n run) (sym (put-other phases l p run.lpid other))
          (h.runs n run is (now ∙ put-other generations l generation run.lpid other)))
    ];
    alone = h.alone;
  }

-- what holds of contexts, vCPUs, generations and phases holds of equal ones
carry : {c d : ℕ → Ctx} {v w : ℕ → ℕ → VcpuPart} {g f : ℕ → ℕ} {p q : ℕ → Phase} → c ≡ d → v ≡ w → g ≡ f → p ≡ q → AreRun c v g p → AreRun d w f q
carry {c = c} {d = d} {v = v} {w = w} {g = g} {f = f} {p = p} {q = q} one two three four are =
    subst (λ (x : ℕ → Ctx). AreRun x w f q) one (subst (λ (x : ℕ → ℕ → VcpuPart). AreRun c x f q) two
    (subst (λ (x : ℕ → ℕ). AreRun c v x q) three (subst (λ (x : ℕ → Phase). AreRun c v g x) four are)))

-- each CPU that runs a vCPU after a history is the one on which it runs
abbrev pub AllRun : Plan → List Event → Type 0
AllRun plan past = AreRun (ctxs plan past) (of_each (λ (g : GuestPart). g.vcpus) plan past) (of_each (λ (g : GuestPart). g.generation) plan past) (of_each (λ (g : GuestPart). g.phase) plan past)

-- the same by the contexts after an entry and the vCPUs before it
abbrev AreStill : Plan → List Event → Event → Type 0
AreStill plan past e =
    AreRun (ctxs plan (e ∷ past)) (of_each (λ (g : GuestPart). g.vcpus) plan past) (of_each (λ (g : GuestPart). g.generation) plan past) (of_each (λ (g : GuestPart). g.phase) plan past)

-- a step that leaves its CPU in a context in which no vCPU runs
runs_none : (plan : Plan) (past : List Event) (e : Event) (after : Ctx) (hand : List ℕ) (lpid : ℕ) → AllRun plan past → LeavesCpu (cpu_after plan e.trace.cpu past) e after hand lpid →
    ((run : Run) → vcpu_in after ≡ Some run → ⊥) → AreStill plan past e
runs_none plan past e after hand lpid all left none = carry (ctxs_after plan past e after hand lpid left) refl refl refl (run_on _ _ _ _ e.trace.cpu all after none)

-- one that leaves each vCPU
keeps_vcpus : (plan : Plan) (past : List Event) (e : Event) (l : ℕ) (new : GuestPart) → PutsPart plan past e l new → new.vcpus ≡ (part_after plan past l).vcpus →
    new.generation ≡ (part_after plan past l).generation → new.phase ≡ (part_after plan past l).phase →
    AreStill plan past e → AllRun plan (e ∷ past)
keeps_vcpus plan past e l new parts vcpus generation phase =
    carry refl (same_field plan past e (λ (g : GuestPart). g.vcpus) l new parts vcpus) (same_field plan past e (λ (g : GuestPart). g.generation) l new parts generation)
    (same_field plan past e (λ (g : GuestPart). g.phase) l new parts phase)

-- one that leaves each guest
keeps_guests : (plan : Plan) (past : List Event) (e : Event) → KeepsParts plan past e →
    AreStill plan past e → AllRun plan (e ∷ past)
keeps_guests plan past e parts =
    carry refl (kept_field plan past e (λ (g : GuestPart). g.vcpus) parts) (kept_field plan past e (λ (g : GuestPart). g.generation) parts) (kept_field plan past e (λ (g : GuestPart). g.phase) parts)

-- one that changes a vCPU
puts_vcpu : (plan : Plan) (past : List Event) (e : Event) (l : ℕ) (new : GuestPart) → PutsPart plan past e l new →
    new.generation ≡ (part_after plan past l).generation → new.phase ≡ (part_after plan past l).phase →
    AreRun (ctxs plan (e ∷ past)) (put (of_each (λ (g : GuestPart). g.vcpus) plan past) l new.vcpus) (of_each (λ (g : GuestPart). g.generation) plan past) (of_each (λ (g : GuestPart). g.phase) plan past) →
    AllRun plan (e ∷ past)
puts_vcpu plan past e l new parts generation phase =
    carry refl (field_after plan past e (λ (g : GuestPart). g.vcpus) l new parts) (same_field plan past e (λ (g : GuestPart). g.generation) l new parts generation)
    (same_field plan past e (λ (g : GuestPart). g.phase) l new parts phase)

-- each change keeps it so
run_by : (plan : Plan) (past : List Event) (e : Event) → IsLegal plan past → AllRun plan past → Change plan past (cpu_after plan e.trace.cpu past) e → AllRun plan (e ∷ past)
run_by plan past e legal all (Quiet x) = keeps_guests plan past e x.parts (carry (same_ctxs plan past e _ _ x.cpu_is) refl refl refl all)
run_by plan past e legal all (Begins x) = keeps_vcpus plan past e _ _ x.parts refl refl refl (runs_none plan past e _ _ _ all x.cpu_is (λ run is. cc))
run_by plan past e legal all (Copies x) = keeps_guests plan past e x.parts (runs_none plan past e _ _ _ all x.cpu_is (λ run is. cc))
run_by plan past e legal all (Ends x) = keeps_vcpus plan past e _ _ x.parts refl refl refl (runs_none plan past e _ _ _ all x.cpu_is (λ run is. cc))
run_by plan past e legal all (Drops x) = keeps_guests plan past e x.parts (runs_none plan past e _ _ _ all x.cpu_is (λ run is. cc))
run_by plan past e legal all (Comes x) = keeps_vcpus plan past e _ _ x.parts refl refl refl (runs_none plan past e _ _ _ all x.cpu_is (λ run is. cc))
run_by plan past e legal all (Reads x) = keeps_guests plan past e x.parts (runs_none plan past e _ _ _ all x.cpu_is (λ run is. cc))
run_by plan past e legal all (Accepts x) = keeps_vcpus plan past e _ _ x.parts refl refl refl (runs_none plan past e _ _ _ all x.cpu_is (λ run is. cc))
run_by plan past e legal all (Refuses x) = keeps_vcpus plan past e _ _ x.parts refl refl refl (runs_none plan past e _ _ _ all x.cpu_is (λ run is. cc))
run_by plan past e legal all (Takes x) =
    puts_vcpu plan past e _ _ x.parts refl refl
    (carry (ctxs_after plan past e _ _ _ x.cpu_is) refl refl refl (run_taken _ _ _ _ e.trace.cpu all x.lpid x.vid x.after x.runs x.rests x.allowed))
run_by plan past e legal all (Parked x) =
    puts_vcpu plan past e _ _ x.parts refl refl
    (carry (ctxs_after plan past e _ _ _ x.cpu_is) refl refl refl (run_parked _ _ _ _ e.trace.cpu all x.run _ (ap vcpu_in x.before) x.generation))
run_by plan past e legal all (Gone x) = keeps_guests plan past e x.parts (runs_none plan past e _ _ _ all x.cpu_is (λ run is. cc))
run_by plan past e legal all (Backs x) = keeps_vcpus plan past e _ _ x.parts refl refl refl (carry (same_ctxs plan past e _ _ x.cpu_is) refl refl refl all)
run_by plan past e legal all (Slots x) = keeps_vcpus plan past e _ _ x.parts refl refl refl (carry (same_ctxs plan past e _ _ x.cpu_is) refl refl refl all)
run_by plan past e legal all (Unmaps x) = keeps_vcpus plan past e _ _ x.parts refl refl refl (carry (same_ctxs plan past e _ _ x.cpu_is) refl refl refl all)
run_by plan past e legal all (Writes x) =
    let g : GuestPart = part_after plan past x.lpid in
    let new : GuestPart = with_entry g x.base x.length_ in
    let reached : (n : ℕ) (run : Run) → vcpu_in (ctxs plan past n) ≡ Some run → run.lpid ≡ x.lpid → run.generation ≤ g.generation =
    (λ n run is here.
    let low = (all_reached plan past legal n).runs run is in
    subst (λ (l : ℕ). run.generation ≤ (part_after plan past l).generation) here low) in
    carry (same_ctxs plan past e _ _ x.cpu_is) (field_after plan past e (λ (p : GuestPart). p.vcpus) x.lpid new x.parts) (field_after plan past e (λ (p : GuestPart). p.generation) x.lpid new x.parts)
    (field_after plan past e (λ (p : GuestPart). p.phase) x.lpid new x.parts)
    (run_written _ _ _ _ e.trace.cpu all x.lpid new.vcpus new.generation new.phase
    (λ n run is here.
    entry_gives (λ (p : GuestPart). run.generation ≡ p.generation → (run.generation ≡ g.generation → IsRunning (g.vcpus run.vid) g.phase n run) → IsRunning (p.vcpus run.vid) p.phase n run) g x.base x.length_
    (λ now runs. let running = runs now in record { state = running.state; taken = running.taken; allowed = refl })
    (λ now runs. let low = reached n run is here in absurd (omega arith))))
run_by plan past e legal all (Selected x) = keeps_guests plan past e x.parts (carry (same_ctxs plan past e _ _ x.cpu_is) refl refl refl all)

-- so it is after a legal history
pub all_run : (plan : Plan) (past : List Event) → IsLegal plan past → AllRun plan past
all_run plan [] legal = record { runs = λ n run is now. cc; alone = λ m n left right first second guest vcpu generation. cc }
all_run plan (e ∷ past) legal = run_by plan past e legal.1 (all_run plan past legal.1) (change plan past e legal.0)

-- a guest that runs in its generation does so in a phase for it
pub runs_in : (plan : Plan) (past : List Event) → AllRun plan past → (n : ℕ) (run : Run) → (cpu_after plan n past).ctx ≡ ctx.Guest run → run.generation ≡ (part_after plan past run.lpid).generation →
    may_run_in (part_after plan past run.lpid).phase ≡ true
runs_in plan past all n run is now = let running = all.runs n run (ap vcpu_in is) now in running.allowed

-- each CPU runs the vCPU that it took up, or has its call in progress
pub each_cpu_runs_its_vcpu : EachCpuRunsItsVcpu
each_cpu_runs_its_vcpu plan past n run legal is now =
    let all = all_run plan past legal in
    let running = all.runs n run is now in
    record { state = running.state; taken = running.taken; secure = λ runs normal. secure_where_runs (part_after plan past run.lpid).phase (settled plan past run.lpid) running.allowed normal }

pub each_run_is_of_a_generation : EachRunIsOfAGeneration
each_run_is_of_a_generation plan past n run legal is = (all_reached plan past legal n).runs run is

-- no other CPU runs it in the same generation
pub no_vcpu_runs_twice : NoVcpuRunsTwice
no_vcpu_runs_twice plan past m n left right legal h k here this same =
    let all = all_run plan past legal in
    all.alone m n left right h k here this same
