-- A vCPU that the hypervisor takes up: what UV_RETURN and h.enter have in common.
use Rattle.std.proofs.Common.{◌≡◌, ℕ, ◌<◌, Bool, true, List, length, Some, refl, ap, sym, subst, inl}
use Rattle.pef_model.specs.declared.state.Tag.{Tag}
use Rattle.pef_model.specs.declared.state.Regs.{Regs}
use Rattle.pef_model.specs.declared.state.Run.{Run}
use Rattle.pef_model.specs.declared.state.Ctx.{Ctx}
use Rattle.pef_model.specs.declared.state.Ctx.TheVariants as ctx
use Rattle.pef_model.specs.declared.state.VState.TheVariants.{Running}
use Rattle.pef_model.specs.declared.command.Cmd.{Cmd}
use Rattle.pef_model.specs.declared.entry.Answer.TheVariants.{Enter}
use Rattle.pef_model.specs.Plan.{Plan}
use Rattle.pef_model.specs.Event.{Event, Mark}
use Rattle.pef_model.specs.Cpu.{CpuPart, next_cpu}
use Rattle.pef_model.specs.GuestPart.{with_running_vcpu}
use Rattle.pef_model.specs.Guest.{Guest as GuestWhole, next_guest}
use Rattle.pef_model.specs.Deed.{Deed, answering, deed_hypervisor}
use Rattle.pef_model.specs.History.{entry_of}
use Rattle.pef_frames.specs.Pool.{PoolState}
use Rattle.pef_guest.specs.declared.cpu.Cpu.{Cpu}
use Rattle.pef_guest.specs.declared.guest.Guest.{Guest}
use Rattle.pef_regs.specs.declared.vcpu.Vcpu.{Vcpu}
use Rattle.pef_guest.specs.Does.{is_any_free, DoesRow}
use Rattle.pef_guest.specs.Keeps.{KeepsGuest}
use Rattle.pef_guest.specs.Ready.{may_run_in, RunsAt, WorksAt}
use Rattle.pef_guest.specs.Rows.{RowWithPool, ask_hypervisor}
use Rattle.pef_guest.specs.Shows.{ShowsCpu, Shows, vcpu_at}
use Rattle.pef_guest.specs.Whole.{IsWhole}
use Rattle.pef_guest.proofs.Asked.{frames_stay, makes_hypervisor}
use Rattle.pef_guest.proofs.OneVcpu.{with_step, stepped, keeps_guest, whole_vcpu, shows_running}

-- the deed of a command that takes a vCPU up
abbrev pub entering : CpuPart → Ctx → Deed
entering c after = record (answering (ask_hypervisor c) Enter) { after = after }

-- its entry
abbrev pub entry_entering : Cmd → CpuPart → Mark → Ctx → Event
entry_entering cmd c mark after = entry_of (ask_hypervisor c) mark cmd (entering c after)

-- in the model a command takes a vCPU up, which goes on in this context, and changes its registers so
pub record EntersAlso (cmd : Cmd) (change : Regs → Regs) (load : List ℕ → List ℕ) (goes : Run → Ctx) (run : Run) (plan : Plan) (g : GuestWhole) (c : CpuPart) (mark : Mark) : Type 0 where
  pub at : Run
  pub at_is : run ≡ at
  pub deed : (any : Bool) → deed_hypervisor plan g any (ask_hypervisor c) cmd ≡ entering c (goes at)
  pub guest : next_guest plan g (entry_entering cmd c mark (goes at)) ≡ stepped g run.vid (with_running_vcpu g.part run.vid mark.cpu) g.content (change (g.registers run.vid)) (next_guest plan g (entry_entering cmd c mark (goes at))).clean
  pub cpu : next_cpu c (entry_entering cmd c mark (goes at)) ≡ record c { ctx = goes at; own = load c.own; last = Enter }

module _ {S : Type 0} (takes : S → ℕ → ℕ → Type 0) (stands : S → Tag → List ℕ → List ℕ → Type 0) (image : S → Tag → List ℕ → List ℕ) (cmd : Cmd) (change : Regs → Regs) (load : List ℕ → List ℕ) (goes : Run → Ctx) (old : Guest S) (cpu : Cpu) (pool : PoolState) (run : Run) (generation : run.generation ≡ old.generation)
    (below : run.vid < length old.vcpus.items) where
  -- the vCPU is taken up by the CPU
  abbrev vcpu : Vcpu
  vcpu = record { state = Running cpu.number; generation = run.generation; regs = change (vcpu_at old run.vid).regs }

  -- the guest, and the CPU with the command's registers
  abbrev taken_up : Guest S
  taken_up = with_step old old.pages run.vid vcpu

  abbrev entered : Cpu
  entered = record cpu { ctx = goes run; gpr = load cpu.gpr; last = Enter }

  -- the guest is that of the model
  shows_taken : {clean : Bool} (plan : Plan) (g : GuestWhole) (mark : Mark) → mark.cpu ≡ cpu.number → Shows stands image plan old g →
      Shows stands image plan taken_up (stepped g run.vid (with_running_vcpu g.part run.vid mark.cpu) g.content (change (g.registers run.vid)) clean)
  shows_taken {clean = clean} plan g mark marked shows = rw (marked, generation) (shows_running stands image plan old g run.vid shows below cpu.number change)

  row : (plan : Plan) (g : GuestWhole) (any : Bool) (c : CpuPart) (mark : Mark) → mark.cpu ≡ cpu.number → Shows stands image plan old g → ShowsCpu cpu c → EntersAlso cmd change load goes run plan g c mark →
      RowWithPool stands image plan g c (entry_of (ask_hypervisor c) mark cmd (deed_hypervisor plan g any (ask_hypervisor c) cmd)) taken_up entered (length pool.free) (length pool.free) Enter
  row plan g any c mark marked shows shows_cpu also =
      subst (λ (deed : Deed). RowWithPool stands image plan g c (entry_of (ask_hypervisor c) mark cmd deed) taken_up entered (length pool.free) (length pool.free) Enter) (sym (also.deed any)) (record {
        row = record {
          answered = refl;
          guest = subst (Shows stands image plan taken_up) (sym also.guest) (shows_taken plan g mark marked shows);
          cpu_is = subst (ShowsCpu entered) (sym also.cpu) (record {
            ctx = ap goes also.at_is;
            own = ap load shows_cpu.own;
            lpid = shows_cpu.lpid;
            vid = shows_cpu.vid;
            last = refl;
            hand = shows_cpu.hand;
          });
        };
        pool = refl;
      })

  keeps : KeepsGuest old taken_up
  keeps = keeps_guest old old.pages run.vid vcpu refl

  -- such a command does its row
  pub takes_up : (RunsAt taken_up (Some run) → WorksAt taken_up entered (goes run)) → cpu.ctx ≡ ctx.Hv → run.lpid ≡ old.lpid → may_run_in old.phase ≡ true → IsWhole takes old →
      ((plan : Plan) (g : GuestWhole) (c : CpuPart) (mark : Mark) → Shows stands image plan old g → ShowsCpu cpu c → EntersAlso cmd change load goes run plan g c mark) → DoesRow takes stands image cmd old taken_up cpu entered pool pool Enter
  takes_up works hv lpid may whole also = record {
    whole = whole_vcpu takes old run.vid vcpu whole;
    keeps = keeps;
    life = λ still. record { phase = refl; generation = refl; entry = refl };
    movers = λ gfn mover same other moves. moves;
    frames = frames_stay old taken_up pool (λ number. refl);
    own = record { number = refl; hand = refl; selects = inl (refl, refl) };
    works = works (lpid, generation, subst (λ (n : ℕ). run.vid < n) (sym keeps.vcpus) below, may);
    pool_stays = λ unused. refl;
    refused = rw hv tt;
    row = makes_hypervisor takes stands image cmd old taken_up cpu entered pool pool Enter hv
        (λ plan g found c mark marked shows shows_cpu. row plan g (is_any_free pool) c mark marked shows shows_cpu (also plan g c mark shows shows_cpu));
  }
