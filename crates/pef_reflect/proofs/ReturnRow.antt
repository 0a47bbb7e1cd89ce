-- UV_RETURN takes a vCPU up, or comes back, exactly where the model's does.
use Rattle.std.proofs.Common.{◌≡◌, ℕ, ◌<◌, Bool, true, false, ◌&&◌, if◌then◌else◌, List, length, Some, refl, ap, sym, ◌∙◌}
use Rattle.pef_model.specs.declared.state.Phase.{Phase}
use Rattle.pef_model.specs.declared.state.Phase.TheVariants as phase
use Rattle.pef_model.specs.declared.state.Regs.{Regs}
use Rattle.pef_model.specs.declared.state.VState.{VState}
use Rattle.pef_model.specs.declared.state.VState.TheVariants as vstate
use Rattle.pef_model.specs.declared.state.Pending.TheVariants as pending
use Rattle.pef_model.specs.declared.state.Run.{Run}
use Rattle.pef_model.specs.declared.state.Ctx.{Ctx}
use Rattle.pef_model.specs.declared.state.Tag.{Tag}
use Rattle.pef_model.specs.declared.command.Cmd.{Cmd}
use Rattle.pef_model.specs.declared.command.Cmd.TheVariants.{UReturn}
use Rattle.pef_model.specs.declared.command.Code.TheVariants.{UInvalid}
use Rattle.pef_model.specs.declared.entry.Answer.TheVariants.{Ret}
use Rattle.pef_model.specs.Plan.{Plan}
use Rattle.pef_model.specs.Event.{Mark}
use Rattle.pef_model.specs.Registers.{loaded}
use Rattle.pef_model.specs.Cpu.{CpuPart}
use Rattle.pef_model.specs.GuestPart.{with_running_vcpu}
use Rattle.pef_model.specs.Guest.{Guest as GuestWhole, returned_by}
use Rattle.pef_model.specs.Deed.{answering, may_return_in, is_waiting, taken_up_in}
use Rattle.pef_guest.specs.declared.cpu.Cpu.{Cpu}
use Rattle.pef_guest.specs.declared.guest.Guest.{Guest}
use Rattle.pef_guest.specs.Shows.{ShowsCpu, vcpu_at, Shows}
use Rattle.pef_guest.specs.Ready.{may_run_in, RunsAt, WorksAt}
use Rattle.pef_guest.specs.Rows.{ask_hypervisor}
use Rattle.pef_guest.proofs.OneVcpu.{stepped, shows_own}
use Rattle.pef_reflect.proofs.AtOnce.{RefusesAlso}
use Rattle.pef_reflect.proofs.TakenUp.{entering, EntersAlso}

-- whether UV_RETURN takes up the vCPU of a number
abbrev pub returns_to : {S : Type 0} → Guest S → ℕ → Bool
returns_to guest vid = may_return_in guest.phase && is_waiting (vcpu_at guest vid).state

-- what the registers of the vCPU of a number become where it takes it up
abbrev pub returning_in : {S : Type 0} → Guest S → ℕ → ℕ → ℕ → List ℕ → Regs → Regs
returning_in guest vid r0 r2 outs regs = returned_by (vcpu_at guest vid).state regs r0 r2 outs

-- in what context it goes on
abbrev pub going_on_in : {S : Type 0} → Guest S → ℕ → Run → Ctx
going_on_in guest vid run = taken_up_in (vcpu_at guest vid).state run

-- a vCPU that is taken up may run
pub may_run : (phase : Phase) (waits : Bool) → (may_return_in phase && waits) ≡ true → may_run_in phase ≡ true
may_run phase.Absent waits may = may
may_run phase.Normal waits may = refl
may_run phase.Starting waits may = refl
may_run phase.Secure waits may = refl
may_run phase.Aborting waits may = may

-- one that goes on in a call of its own does so as one that runs
pub works_in : {S : Type 0} (guest : Guest S) (cpu : Cpu) (state : VState) (run : Run) → RunsAt guest (Some run) → WorksAt guest cpu (taken_up_in state run)
works_in guest cpu (vstate.Parked (pending.Share gfn)) run runs = runs
works_in guest cpu (vstate.Parked (pending.Unshare gfn)) run runs = runs
works_in guest cpu (vstate.Parked (pending.UnshareAll gfn)) run runs = runs
works_in guest cpu (vstate.Parked pending.EsmStart) run runs = runs
works_in guest cpu (vstate.Parked (pending.EsmNeed gfn)) run runs = runs
works_in guest cpu (vstate.Parked pending.EsmDone) run runs = runs
works_in guest cpu (vstate.Parked waits) run runs = runs
works_in guest cpu state run runs = runs

module _ {S : Type 0} (stands : S → Tag → List ℕ → List ℕ → Type 0) (image : S → Tag → List ℕ → List ℕ) (r0 r2 : ℕ) (outs : List ℕ) (old : Guest S) (cpu : Cpu) (below : cpu.vid < length old.vcpus.items)
    (plan : Plan) (g : GuestWhole) (c : CpuPart) (mark : Mark) (shows : Shows stands image plan old g) (shows_cpu : ShowsCpu cpu c) where
  -- the call, and what it loads
  abbrev call : Cmd
  call = UReturn r0 r2 outs

  abbrev load : List ℕ → List ℕ
  load own = loaded own call

  -- the selected vCPU, in the guest's generation, here and in the model
  abbrev run : Run
  run = record { lpid = cpu.lpid; vid = cpu.vid; generation = old.generation }

  abbrev at : Run
  at = record { lpid = c.lpid; vid = c.vid; generation = g.part.generation }

  -- the vCPU's state is that of the model's
  state : (vcpu_at old cpu.vid).state ≡ (g.part.vcpus cpu.vid).state
  state = (shows_own stands image plan old g cpu.vid shows below).state

  same_state : (vcpu_at old cpu.vid).state ≡ (g.part.vcpus c.vid).state
  same_state = state ∙ ap (λ (n : ℕ). (g.part.vcpus n).state) shows_cpu.vid

  -- in what context it goes on in the model
  abbrev there : Ctx
  there = taken_up_in (g.part.vcpus c.vid).state at

  -- the model's test is this one
  same_test : returns_to old cpu.vid ≡ (may_return_in g.part.phase && is_waiting (g.part.vcpus c.vid).state)
  same_test = λ i. may_return_in (shows.phase i) && is_waiting (same_state i)

  pub returns_also : returns_to old cpu.vid ≡ true → EntersAlso call (returning_in old cpu.vid r0 r2 outs) load (going_on_in old cpu.vid) run plan g c mark
  returns_also may = record {
    at = at;
    at_is = λ i. record { lpid = shows_cpu.lpid i; vid = shows_cpu.vid i; generation = shows.generation i };
    deed = λ any. ap (λ (b : Bool). if b then entering c there else answering (ask_hypervisor c) (Ret UInvalid)) (sym same_test ∙ may) ∙ ap (λ (s : VState). entering c (taken_up_in s at)) (sym same_state);
    guest = ap (λ (n : ℕ). stepped g n (with_running_vcpu g.part n mark.cpu) g.content (returned_by (g.part.vcpus n).state (g.registers n) r0 r2 outs) (g.clean && true)) (sym shows_cpu.vid) ∙
        ap (λ (s : VState). stepped g cpu.vid (with_running_vcpu g.part cpu.vid mark.cpu) g.content (returned_by s (g.registers cpu.vid) r0 r2 outs) (g.clean && true)) (sym state);
    cpu = refl;
  }

  pub stays_also : returns_to old cpu.vid ≡ false → RefusesAlso call UInvalid load plan g c mark
  stays_also none = record {
    deed = λ any. ap (λ (b : Bool). if b then entering c there else answering (ask_hypervisor c) (Ret UInvalid)) (sym same_test ∙ none);
    guest = refl;
    cpu = refl;
  }
