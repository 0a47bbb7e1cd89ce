-- A machine and the histories that fit it.
use Rattle.std.specs.Prelude.{◌≡◌, ℕ, ◌+◌, false, List, ◌∷◌, length}
use Rattle.pef_model.specs.declared.state.Tag.{Tag}
use Rattle.pef_model.specs.declared.command.Cmd.{Cmd}
use Rattle.pef_model.specs.declared.entry.Answer.{Answer}
use Rattle.pef_model.specs.Plan.{Plan}
use Rattle.pef_model.specs.Event.{Event}
use Rattle.pef_model.specs.History.{cpu_after, guest_after, pool_after, frame_after, next_entry, Extends}
use Rattle.pef_model.specs.Sound.{is_clash}
use Rattle.pef_guest.specs.Shows.{ShowsCpu, Shows}
use Rattle.pef_core.specs.Normal.{ShowsNormal}
use Rattle.pef_core.specs.State.{State, Each}

-- with what the machine's sealers give back, and what they write
module _ {S : Type 0} (stands : S → Tag → List ℕ → List ℕ → Type 0) (image : S → Tag → List ℕ → List ℕ) where
  -- a history is one that the machine may have behind it: its CPUs, guests, normal frames and number of free secure frames are those after the history
  pub record Fits (plan : Plan) (m : State S) (past : List Event) : Type 0 where
    pub cpu_count : length m.cpus ≡ plan.cpus
    pub guest_count : length m.guests ≡ plan.guests
    pub vcpu_count : m.vcpus ≡ plan.vcpus
    pub cpus : Each (λ n cpu. ShowsCpu cpu (cpu_after plan n past)) m.cpus
    pub guests : Each (λ i guest. Shows stands image plan guest (guest_after plan (i + 1) past)) m.guests
    pub normal_is : ShowsNormal plan m.normal (λ n. frame_after plan n past)
    pub free : length m.pool.free ≡ pool_after plan past

  -- the step was an entry that extends the history: its answer is the entry's, and the machine fits the history with it
  pub record Makes (plan : Plan) (new : State S) (past : List Event) (e : Event) (answer : Answer) : Type 0 where
    pub answered : answer ≡ e.trace.answer
    pub extends : Extends plan past e
    pub fits : Fits plan new (e ∷ past)

  -- whatever history fits the machine before a step of a CPU, and whatever line, place and stamp the step has, it makes the one entry that the model gives, but where that is a digest collision
  abbrev pub Continues : State S → State S → ℕ → Cmd → Answer → Type 0
  Continues old new cpu cmd answer =
      (plan : Plan) (past : List Event) (line place stamp : ℕ) → Fits plan old past →
      is_clash plan past (next_entry plan past (record { line = line; cpu = cpu; place = place; stamp = stamp }) cmd) ≡ false →
      Makes plan new past (next_entry plan past (record { line = line; cpu = cpu; place = place; stamp = stamp }) cmd) answer
