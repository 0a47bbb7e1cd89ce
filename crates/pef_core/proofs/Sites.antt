-- Where a step finds its CPU and its guest in the machine that it has open.
use Rattle.std.proofs.Common.{◌≡◌, ℕ, ◌+◌, ◌-◌, ◌<◌, ◌≤◌, length, Some, get_or, ap, sym, subst, refl, ◌∙◌, arith}
use Rattle.std.specs.Prelude.{slice_get}
use Rattle.pef_guest.specs.declared.cpu.Cpu.{Cpu}
use Rattle.pef_guest.specs.declared.guest.Guest.{Guest}
use Rattle.pef_core.specs.State.{State, HasContext, HasSteps, IsCpuOf, IsWholeMachine}
use Rattle.pef_core.specs.declared.machine.Machine.TheInside.{Inside}
use Rattle.pef_core.proofs.Places.{read_at, has_context, sized}
use Rattle.pef_core.specs.Does.{AimsAt, Targets}
use Rattle.pef_core.proofs.Lists.{element_at}
use Rattle.pef_core.proofs.AtGuest.{in_range}
use Rattle.pef_model.specs.Target.{Target, AtGuest}
use Rattle.pef_model.specs.declared.command.Cmd.{Cmd}
use Rattle.pef_core.proofs.Moving.{Site, site}

-- the state of a machine that is open
abbrev pub state_of : {S : Type 0} → Inside S → State S
state_of m = record { cpus = m.cpus.items; guests = m.guests.items; vcpus = m.vcpus; pool = m.pool; normal = m.normal; steps = m.steps }

-- a step has found the guest at which it aims
pub record AimedSite {S : Type 0} (takes : S → ℕ → ℕ → Type 0) (m : State S) (n : ℕ) (cpu : Cpu) (cmd : Cmd) (lpid : ℕ) (guest : Guest S) : Type 0 where
  pub found : Site takes m n cpu cpu.ctx (lpid - 1) guest
  pub aims : Targets (length m.guests) m.normal cpu cmd (AtGuest (lpid - 1 + 1))
  pub below : n < length m.cpus
  pub here : lpid - 1 < length m.guests

-- a step has found its CPU, and knows at what it aims
pub record OwnAims {S : Type 0} (m : State S) (n : ℕ) (cpu : Cpu) (cmd : Cmd) (t : Target) : Type 0 where
  pub there : slice_get m.cpus n ≡ Some cpu
  pub below : n < length m.cpus
  pub is_cpu : IsCpuOf m.guests m.normal n cpu
  pub targets : Targets (length m.guests) m.normal cpu cmd t

-- where the machine that is open is the one that the step was given
module _ {S : Type 0} (takes : S → ℕ → ℕ → Type 0) (m now : State S) (n : ℕ) (view : m ≡ now) (whole : IsWholeMachine takes m) where
  -- a guest at which a step aims is one of the machine's
  pub aimed_range : (cmd : Cmd) (lpid : ℕ) → AimsAt n cmd (AtGuest lpid) now → (1 ≤ lpid) × (lpid - 1 < length m.guests)
  aimed_range cmd lpid aimed =
      let at : AimsAt n cmd (AtGuest lpid) m = subst (AimsAt n cmd (AtGuest lpid)) (sym view) aimed in
      let own = element_at m.cpus n at.below in
      let is_cpu = whole.cpus n own.0 own.1 in
      in_range (sized m) m.guests m.normal n own.0.lpid own.0.vid own.0.ctx cmd lpid refl is_cpu.selects is_cpu.works (at.aims own.0 own.1 (sized m) refl refl refl)

  -- what the target of a CPU says
  pub aims_found : (cpu : Cpu) → cpu ≡ get_or m.cpus n cpu → n < length now.cpus → HasSteps now → (cmd : Cmd) (t one : Target) → Targets (length m.guests) m.normal cpu cmd t → t ≡ one → AimsAt n cmd one now
  aims_found cpu cpu_read below steps cmd t one targets is =
      let there : slice_get m.cpus n ≡ Some cpu = read_at m.cpus n cpu (subst (λ (x : State S). n < length x.cpus) (sym view) below) cpu_read in
      subst (AimsAt n cmd one) view (record {
        below = subst (λ (x : State S). n < length x.cpus) (sym view) below;
        aims = λ own is_own. subst (λ (x : Cpu). Targets (length m.guests) m.normal x cmd one) (let same : cpu ≡ own = (let two = sym there ∙ is_own in cc) in same) (subst (Targets (length m.guests) m.normal cpu cmd) is targets);
        steps = subst HasSteps (sym view) steps;
      })

  -- a step has found its CPU, and knows at what it aims
  pub own_aims : (cpu : Cpu) → cpu ≡ get_or m.cpus n cpu → (cmd : Cmd) (t : Target) → AimsAt n cmd t now → OwnAims m n cpu cmd t
  own_aims cpu cpu_read cmd t aimed =
      let at : AimsAt n cmd t m = subst (AimsAt n cmd t) (sym view) aimed in
      let there : slice_get m.cpus n ≡ Some cpu = read_at m.cpus n cpu at.below cpu_read in
      record { there = there; below = at.below; is_cpu = whole.cpus n cpu there; targets = at.aims cpu there }

  -- a step that aims at a guest has found it
  pub aimed_site : (cpu : Cpu) → cpu ≡ get_or m.cpus n cpu → (cmd : Cmd) (lpid : ℕ) (guest : Guest S) → AimsAt n cmd (AtGuest lpid) now → guest ≡ get_or m.guests (lpid - 1) guest → AimedSite takes m n cpu cmd lpid guest
  aimed_site cpu cpu_read cmd lpid guest aimed guest_read =
      let at : AimsAt n cmd (AtGuest lpid) m = subst (AimsAt n cmd (AtGuest lpid)) (sym view) aimed in
      let there : slice_get m.cpus n ≡ Some cpu = read_at m.cpus n cpu at.below cpu_read in
      let range = aimed_range cmd lpid aimed in
      let least = range.0 in
      let has : HasContext now.cpus n cpu.ctx = subst (λ xs. HasContext xs n cpu.ctx) (ap (λ (x : State S). x.cpus) view) (has_context m.cpus n cpu cpu.ctx at.below cpu_read refl) in
      let one : lpid ≡ lpid - 1 + 1 = omega arith in
      record {
        found = site takes m now n cpu cpu.ctx (lpid - 1) guest view whole has aimed.steps cpu_read range.1 guest_read;
        aims = subst (λ (x : ℕ). Targets (length m.guests) m.normal cpu cmd (AtGuest x)) one (at.aims cpu there);
        below = at.below;
        here = range.1;
      }
