-- What can be told of a step before it is done, and of the pool afterwards.
use Rattle.std.proofs.Common.{◌≡◌, ℕ, ◌+◌, ◌-◌, ◌<◌, nat_lt, Bool, true, false, List, Option, Some, None, is_some, refl, ap, sym, subst, ◌∙◌, ◌⊎◌, inl, inr, length, arith}
use Rattle.std.specs.Prelude.{slice_get}
use Rattle.std.proofs.lemmas.Bool.Decides.{nat_tests}
use Rattle.pef_model.specs.declared.state.Ctx.{Ctx}
use Rattle.pef_model.specs.declared.state.Tag.{Tag}
use Rattle.pef_model.specs.declared.command.Cmd.{Cmd}
use Rattle.pef_model.specs.declared.entry.PoolSaw.{PoolSaw}
use Rattle.pef_model.specs.Plan.{Plan}
use Rattle.pef_model.specs.Event.{Event}
use Rattle.pef_model.specs.Target.{Target, target_in}
use Rattle.pef_model.specs.Memory.{pool_with}
use Rattle.pef_model.specs.Deed.{Deed}
use Rattle.pef_model.specs.History.{ask_of, cpu_after, deed_after, next_entry}
use Rattle.pef_model.specs.Sound.{is_clash}
use Rattle.pef_guest.specs.declared.cpu.Cpu.{Cpu}
use Rattle.pef_core.specs.State.{State}
use Rattle.pef_core.specs.Steps.{Fits}
use Rattle.pef_core.specs.Does.{Targets}
use Rattle.pef_core.specs.Did.{pool_seen, HasRegisters, LooksAt}
use Rattle.pef_core.proofs.Continuing.{mark_at}
use Rattle.pef_guest.proofs.Deeds.{IsShareOf}

-- what a step did with the pool is told by the numbers of free frames before and after it
pub told_by_numbers : (free free_new : ℕ) (o : Option PoolSaw) → IsShareOf (nat_lt 0 free) o → free_new ≡ pool_with free o → pool_seen (is_some o) free free_new ≡ o
told_by_numbers free free_new None share is = refl
told_by_numbers free free_new (Some p) share is = by_share share is where
  told : (any : Bool) (taken given : ℕ) → nat_lt free_new free ≡ any → free - free_new ≡ taken → free_new - free ≡ given → pool_seen true free free_new ≡ Some (record { any = any; taken = taken; given = given })
  told any taken given one two three = λ i. Some (record { any = one i; taken = two i; given = three i })

  by_share : ((p ≡ record { any = true; taken = 1; given = 0 }) × (nat_lt 0 free ≡ true)) ⊎ ((p ≡ record { any = false; taken = 0; given = 0 }) ⊎ (p ≡ record { any = false; taken = 0; given = 1 })) → free_new ≡ pool_with free (Some p) → pool_seen true free free_new ≡ Some p
  by_share (inl (same, some)) is =
      let fewer : free_new ≡ free - 1 + 0 = is ∙ ap (λ (q : PoolSaw). free - q.taken + q.given) same in
      let least : 0 < free = grind (arith, nat_tests, some) in
      told true 1 0 (let less : free_new < free = omega (arith, fewer, least) in grind (arith, nat_tests, less)) (omega (arith, fewer, least)) (omega (arith, fewer, least)) ∙ ap (λ (q : PoolSaw). Some q) (sym same)
  by_share (inr (inl same)) is =
      let even : free_new ≡ free - 0 + 0 = is ∙ ap (λ (q : PoolSaw). free - q.taken + q.given) same in
      told false 0 0 (grind (arith, nat_tests, even)) (omega (arith, even)) (omega (arith, even)) ∙ ap (λ (q : PoolSaw). Some q) (sym same)
  by_share (inr (inr same)) is =
      let more : free_new ≡ free - 0 + 1 = is ∙ ap (λ (q : PoolSaw). free - q.taken + q.given) same in
      told false 0 1 (grind (arith, nat_tests, more)) (omega (arith, more)) (omega (arith, more)) ∙ ap (λ (q : PoolSaw). Some q) (sym same)

module _ {S : Type 0} (stands : S → Tag → List ℕ → List ℕ → Type 0) (image : S → Tag → List ℕ → List ℕ) (m : State S) (n : ℕ) (cpu : Cpu) (there : slice_get m.cpus n ≡ Some cpu) (cmd : Cmd) (t : Target) (targets : Targets (length m.guests) m.normal cpu cmd t) where
  -- the target in a plan that fits
  aimed : (plan : Plan) (past : List Event) → Fits stands image plan m past → target_in plan (cpu_after plan n past).ctx (cpu_after plan n past).lpid cmd ≡ t
  aimed plan past fits =
      let shows = fits.cpus n cpu there in
      subst (λ (x : Ctx). target_in plan x (cpu_after plan n past).lpid cmd ≡ t) shows.ctx
      (subst (λ (l : ℕ). target_in plan cpu.ctx l cmd ≡ t) shows.lpid (targets plan (sym fits.normal_is.shift) (sym fits.normal_is.count) (sym fits.guest_count)))

  -- the deed of the step
  abbrev pub deed_at : Plan → List Event → Target → Deed
  deed_at plan past x = deed_after plan past (ask_of (cpu_after plan n past) cmd) cmd x

  pub looks_at : (touched : Bool) (frame : Option ℕ) (gpr : List ℕ) → HasRegisters stands image m n gpr →
      ((plan : Plan) (past : List Event) (line place stamp : ℕ) → Fits stands image plan m past → is_clash plan past (next_entry plan past (mark_at n line place stamp) cmd) ≡ false →
      target_in plan (cpu_after plan n past).ctx (cpu_after plan n past).lpid cmd ≡ t → (touched ≡ is_some (deed_at plan past t).pool) × (frame ≡ (deed_at plan past t).frame)) →
      LooksAt stands image m n cmd (record { before = cpu.ctx; lpid = cpu.lpid; vid = cpu.vid; last = cpu.last; touched = touched; frame = frame; gpr = gpr })
  looks_at touched frame gpr has told plan past line place stamp fits clean =
      let shows = fits.cpus n cpu there in
      let at = aimed plan past fits in
      let is = told plan past line place stamp fits clean at in
      record {
        before = shows.ctx;
        lpid = shows.lpid;
        vid = shows.vid;
        last = shows.last;
        touched = is.0 ∙ ap (λ (x : Target). is_some (deed_at plan past x).pool) (sym at);
        frame = is.1 ∙ ap (λ (x : Target). (deed_at plan past x).frame) (sym at);
        gpr = λ run runs. has plan past run fits runs;
      }
