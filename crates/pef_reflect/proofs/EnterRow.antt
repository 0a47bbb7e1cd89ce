-- h.enter enters a vCPU, or comes back, exactly where the model's does.
use Rattle.std.proofs.Common.{◌≡◌, ℕ, ◌<◌, Bool, true, false, nat_lt, not, ◌&&◌, if◌then◌else◌, List, length, Option, Some, None, refl, ap, sym, ◌∙◌, arith}
use Rattle.std.proofs.lemmas.Bool.Decides.{nat_tests}
use Rattle.pef_model.specs.declared.state.Phase.{Phase}
use Rattle.pef_model.specs.declared.state.Phase.TheVariants as phase
use Rattle.pef_model.specs.declared.state.Regs.{Regs}
use Rattle.pef_model.specs.declared.state.Run.{Run}
use Rattle.pef_model.specs.declared.state.Ctx.TheVariants as ctx
use Rattle.pef_model.specs.declared.state.Tag.{Tag}
use Rattle.pef_model.specs.declared.command.Cmd.TheVariants.{HEnter}
use Rattle.pef_model.specs.declared.command.Code.{Code}
use Rattle.pef_model.specs.declared.command.Code.TheVariants.{UParameter, UP2}
use Rattle.pef_model.specs.Plan.{Plan}
use Rattle.pef_model.specs.Event.{Mark}
use Rattle.pef_model.specs.Cpu.{CpuPart}
use Rattle.pef_model.specs.GuestPart.{put, with_running_vcpu}
use Rattle.pef_model.specs.Guest.{Guest as GuestWhole, answered_with, entered_at}
use Rattle.pef_model.specs.Deed.{returning}
use Rattle.pef_model.specs.Entry.{may_enter_in, can_be_entered, enter_code}
use Rattle.pef_guest.specs.declared.guest.Guest.{Guest}
use Rattle.pef_guest.specs.Ready.{may_run_in}
use Rattle.pef_guest.specs.Rows.{ask_hypervisor}
use Rattle.pef_guest.specs.Shows.{vcpu_at, Shows}
use Rattle.pef_guest.proofs.OneVcpu.{shows_own}
use Rattle.pef_reflect.proofs.AtOnce.{RefusesAlso}
use Rattle.pef_reflect.proofs.TakenUp.{entering, EntersAlso}

-- whether a guest has a vCPU of a number that h.enter enters
abbrev pub enters_at : {S : Type 0} → Guest S → ℕ → Bool
enters_at guest vid = nat_lt vid (length guest.vcpus.items) && can_be_entered (vcpu_at guest vid).state

-- what it makes of the registers of such a vCPU: it gives R3 the answer of a hypercall, where one is waited for
abbrev pub answering_in : {S : Type 0} → Guest S → ℕ → ℕ → Regs → Regs
answering_in guest vid value regs = entered_at (answered_with (vcpu_at guest vid).state regs value) 0

-- the code with which it comes back, by whether the guest is in normal memory and has such a vCPU
abbrev code_by : Bool → Bool → Option Code
code_by may there = if not may then Some UParameter else if not there then Some UP2 else None

-- one that is entered may run, and there is one
pub may_run : (phase : Phase) → may_enter_in phase ≡ true → may_run_in phase ≡ true
may_run phase.Normal may = refl
may_run phase.Absent may = may
may_run phase may = absurd cc

pub is_there : {S : Type 0} (guest : Guest S) (vid : ℕ) → enters_at guest vid ≡ true → vid < length guest.vcpus.items
is_there guest vid may = by_test (nat_lt vid (length guest.vcpus.items)) refl may where
  by_test : (b : Bool) → nat_lt vid (length guest.vcpus.items) ≡ b → (b && can_be_entered (vcpu_at guest vid).state) ≡ true → vid < length guest.vcpus.items
  by_test true test may = grind (arith, nat_tests)
  by_test false test may = absurd cc

module _ {S : Type 0} (stands : S → Tag → List ℕ → List ℕ → Type 0) (image : S → Tag → List ℕ → List ℕ) (lpid vid value : ℕ) (old : Guest S) (named : lpid ≡ old.lpid) (plan : Plan) (g : GuestWhole) (c : CpuPart) (mark : Mark) (shows : Shows stands image plan old g) where
  -- the vCPU, in the guest's generation, here and in the model
  abbrev run : Run
  run = record { lpid = old.lpid; vid = vid; generation = old.generation }

  abbrev at : Run
  at = record { lpid = lpid; vid = vid; generation = g.part.generation }

  -- the model's tests are these
  same_vcpu : enters_at old vid ≡ (nat_lt vid plan.vcpus && can_be_entered (g.part.vcpus vid).state)
  same_vcpu = by_test (nat_lt vid (length old.vcpus.items)) refl ∙ ap (λ (n : ℕ). nat_lt vid n && can_be_entered (g.part.vcpus vid).state) shows.count where
    by_test : (b : Bool) → nat_lt vid (length old.vcpus.items) ≡ b → (b && can_be_entered (vcpu_at old vid).state) ≡ (b && can_be_entered (g.part.vcpus vid).state)
    by_test true test = ap can_be_entered (shows_own stands image plan old g vid shows (grind (arith, nat_tests))).state
    by_test false test = refl

  same_code : (may there : Bool) → may_enter_in old.phase ≡ may → enters_at old vid ≡ there → code_by may there ≡ enter_code plan g.part vid
  same_code may there one other = λ i. code_by ((sym one ∙ ap may_enter_in shows.phase) i) ((sym other ∙ same_vcpu) i)

  -- it comes back where the model's does
  refused : (code : Code) → Some code ≡ enter_code plan g.part vid → RefusesAlso (HEnter lpid vid value) code (λ own. own) plan g c mark
  refused code is = record {
    deed = λ any. ap (λ (o : Option Code). returning (ask_hypervisor c) o (entering c (ctx.Guest at))) (sym is);
    guest = refl;
    cpu = refl;
  }

  pub refused_guest : may_enter_in old.phase ≡ false → RefusesAlso (HEnter lpid vid value) UParameter (λ own. own) plan g c mark
  refused_guest none = refused UParameter (same_code false (enters_at old vid) none refl)

  pub refused_vcpu : may_enter_in old.phase ≡ true → enters_at old vid ≡ false → RefusesAlso (HEnter lpid vid value) UP2 (λ own. own) plan g c mark
  refused_vcpu may none = refused UP2 (same_code true false may none)

  -- and enters where the model's does
  pub enters_also : may_enter_in old.phase ≡ true → enters_at old vid ≡ true → EntersAlso (HEnter lpid vid value) (answering_in old vid value) (λ own. own) ctx.Guest run plan g c mark
  enters_also may waits =
      let state = (shows_own stands image plan old g vid shows (is_there old vid waits)).state in record {
        at = at;
        at_is = λ i. record { lpid = sym named i; vid = vid; generation = shows.generation i };
        deed = λ any. ap (λ (o : Option Code). returning (ask_hypervisor c) o (entering c (ctx.Guest at))) (sym (same_code true true may waits));
        guest = λ i. record g { part = with_running_vcpu g.part vid mark.cpu; registers = put g.registers vid (answered_with (sym state i) (g.registers vid) value); clean = g.clean && true };
        cpu = refl;
      }
