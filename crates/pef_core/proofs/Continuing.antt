-- A step that does what its row says makes the one entry that the model gives.
use Rattle.std.proofs.Common.{◌≡◌, ℕ, ◌+◌, ◌<◌, ◌==◌, false, List, ◌∷◌, length, Some, None, refl, ap, sym, subst, ◌∙◌}
use Rattle.std.specs.Prelude.{slice_get, slice_set}
use Rattle.std.proofs.Math.ListN.{length-set}
use Rattle.pef_model.specs.declared.state.Ctx.{Ctx}
use Rattle.pef_model.specs.declared.state.Tag.{Tag}
use Rattle.pef_model.specs.declared.command.Cmd.{Cmd}
use Rattle.pef_model.specs.declared.entry.Answer.{Answer}
use Rattle.pef_model.specs.Commands.{IsCommand}
use Rattle.pef_model.specs.Plan.{Plan}
use Rattle.pef_model.specs.Event.{Event, Mark}
use Rattle.pef_model.specs.Target.{Ask, Alone, is_guest, target_in, touches_guest}
use Rattle.pef_model.specs.Cpu.{next_cpu}
use Rattle.pef_model.specs.Memory.{pool_with}
use Rattle.pef_model.specs.Deed.{deed_alone}
use Rattle.pef_model.specs.History.{ask_of, cpu_after, guest_after, pool_after, frame_after, entry_of, next_entry}
use Rattle.pef_frames.specs.Pool.{PoolState}
use Rattle.pef_guest.specs.declared.cpu.Cpu.{Cpu}
use Rattle.pef_guest.specs.declared.guest.Guest.{Guest}
use Rattle.pef_guest.specs.Shows.{ShowsCpu}
use Rattle.pef_guest.specs.Rows.{RowWithPool}
use Rattle.pef_core.specs.Normal.{NormalState, ShowsNormal}
use Rattle.pef_core.specs.State.{State}
use Rattle.pef_core.specs.Steps.{Fits, Makes}
use Rattle.pef_core.proofs.Fitting.{cpus_after, guests_after, guests_stay, frames_stay, free_after}
use Rattle.pef_core.proofs.Entries.{entry_at}

-- the mark of a step of a CPU
abbrev pub mark_at : ℕ → ℕ → ℕ → ℕ → Mark
mark_at n line place stamp = record { line = line; cpu = n; place = place; stamp = stamp }

module _ {S : Type 0} (stands : S → Tag → List ℕ → List ℕ → Type 0) (image : S → Tag → List ℕ → List ℕ) (old : State S) (n : ℕ) (below : n < length old.cpus) (cpu : Cpu) (there : slice_get old.cpus n ≡ Some cpu) where
  -- the CPU of the model is in the context of the machine's
  pub context : (plan : Plan) (past : List Event) (c : Ctx) → cpu.ctx ≡ c → Fits stands image plan old past → (cpu_after plan n past).ctx ≡ c
  context plan past c is fits = sym (fits.cpus n cpu there).ctx ∙ is

  within : (plan : Plan) (past : List Event) → Fits stands image plan old past → n < plan.cpus
  within plan past fits = subst (λ (k : ℕ). n < k) fits.cpu_count below

  module _ (plan : Plan) (past : List Event) (line place stamp : ℕ) (fits : Fits stands image plan old past) (cmd : Cmd) (e : Event) (is : next_entry plan past (mark_at n line place stamp) cmd ≡ e) (command : IsCommand cmd) where
    own : e.trace.cpu ≡ n
    own = ap (λ (x : Event). x.trace.cpu) (sym is)

    commanded : IsCommand e.trace.cmd
    commanded = subst IsCommand (ap (λ (x : Event). x.trace.cmd) is) command

    -- a step at no guest, once its entry is known
    pub makes_alone : (new_cpu : Cpu) (normal : NormalState) (a : Answer) → a ≡ e.trace.answer → ((lpid : ℕ) → touches_guest plan lpid e ≡ false) → e.saw.pool ≡ None →
        ShowsCpu new_cpu (next_cpu (cpu_after plan n past) e) → ShowsNormal plan normal (λ k. frame_after plan k (e ∷ past)) →
        Makes stands image plan (record old { cpus = slice_set old.cpus n new_cpu; normal = normal }) past (next_entry plan past (mark_at n line place stamp) cmd) a
    makes_alone new_cpu normal a answered untouched unpooled shows normal_is =
        subst (λ (x : Event). Makes stands image plan (record old { cpus = slice_set old.cpus n new_cpu; normal = normal }) past x a) (sym is)
        (record {
          answered = answered;
          extends = record { cpu = subst (λ (k : ℕ). k < plan.cpus) (sym own) (within plan past fits); command = commanded; is = sym is ∙ same };
          fits = record {
            cpu_count = length-set old.cpus n new_cpu ∙ fits.cpu_count;
            guest_count = fits.guest_count;
            vcpu_count = fits.vcpu_count;
            cpus = cpus_after plan past e old.cpus n new_cpu own fits.cpus shows;
            guests = guests_stay plan past e stands image old.guests untouched fits.guests;
            normal_is = normal_is;
            free = fits.free ∙ sym (free_after plan past e ∙ ap (pool_with (pool_after plan past)) unpooled);
          };
        }) where
          same : next_entry plan past (mark_at n line place stamp) cmd ≡ next_entry plan past (record { line = e.trace.line; cpu = e.trace.cpu; place = e.trace.place; stamp = e.trace.stamp }) e.trace.cmd
          same = ap (λ (x : Event). next_entry plan past (record { line = x.trace.line; cpu = x.trace.cpu; place = x.trace.place; stamp = x.trace.stamp }) x.trace.cmd) is

    -- a step at a guest, once its entry is known
    pub makes_at_guest : (new_cpu : Cpu) (i : ℕ) (guest new_guest : Guest S) (pool : PoolState) (normal : NormalState) (a : Answer) → slice_get old.guests i ≡ Some guest → ((lpid : ℕ) → touches_guest plan lpid e ≡ (i + 1 == lpid)) →
        ShowsNormal plan normal (λ k. frame_after plan k (e ∷ past)) → RowWithPool stands image plan (guest_after plan (i + 1) past) (cpu_after plan n past) e new_guest new_cpu (length old.pool.free) (length pool.free) a →
        Makes stands image plan (record old { cpus = slice_set old.cpus n new_cpu; guests = slice_set old.guests i new_guest; pool = pool; normal = normal }) past (next_entry plan past (mark_at n line place stamp) cmd) a
    makes_at_guest new_cpu i guest new_guest pool normal a here touched normal_is row =
        subst (λ (x : Event). Makes stands image plan (record old { cpus = slice_set old.cpus n new_cpu; guests = slice_set old.guests i new_guest; pool = pool; normal = normal }) past x a) (sym is)
        (record {
          answered = row.row.answered;
          extends = record { cpu = subst (λ (k : ℕ). k < plan.cpus) (sym own) (within plan past fits); command = commanded; is = sym is ∙ same };
          fits = record {
            cpu_count = length-set old.cpus n new_cpu ∙ fits.cpu_count;
            guest_count = length-set old.guests i new_guest ∙ fits.guest_count;
            vcpu_count = fits.vcpu_count;
            cpus = cpus_after plan past e old.cpus n new_cpu own fits.cpus row.row.cpu_is;
            guests = guests_after plan past e stands image old.guests i new_guest touched fits.guests row.row.guest;
            normal_is = normal_is;
            free = row.pool ∙ ap (λ (k : ℕ). pool_with k e.saw.pool) fits.free ∙ sym (free_after plan past e);
          };
        }) where
          same : next_entry plan past (mark_at n line place stamp) cmd ≡ next_entry plan past (record { line = e.trace.line; cpu = e.trace.cpu; place = e.trace.place; stamp = e.trace.stamp }) e.trace.cmd
          same = ap (λ (x : Event). next_entry plan past (record { line = x.trace.line; cpu = x.trace.cpu; place = x.trace.place; stamp = x.trace.stamp }) x.trace.cmd) is

  -- a command that aims at nothing
  pub alone : (plan : Plan) (past : List Event) (line place stamp : ℕ) → Fits stands image plan old past → (new_cpu : Cpu) (ask : Ask) (cmd : Cmd) (a : Answer) → IsCommand cmd →
      ask_of (cpu_after plan n past) cmd ≡ ask → target_in plan ask.before ask.lpid cmd ≡ Alone → a ≡ (deed_alone plan ask cmd).answer →
      ShowsCpu new_cpu (next_cpu (cpu_after plan n past) (entry_of ask (mark_at n line place stamp) cmd (deed_alone plan ask cmd))) →
      Makes stands image plan (record old { cpus = slice_set old.cpus n new_cpu }) past (next_entry plan past (mark_at n line place stamp) cmd) a
  alone plan past line place stamp fits new_cpu ask cmd a command learns aims answered shows =
      let mark : Mark = mark_at n line place stamp in
      let e : Event = entry_of ask mark cmd (deed_alone plan ask cmd) in
      makes_alone plan past line place stamp fits cmd e (entry_at plan past mark cmd ask Alone learns aims) command new_cpu old.normal a answered (λ lpid. ap (is_guest lpid) aims) refl shows
      (frames_stay plan past e old.normal refl fits.normal_is)
