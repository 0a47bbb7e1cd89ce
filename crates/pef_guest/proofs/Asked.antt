-- What the rows of steps at a guest have in common.
use Rattle.std.proofs.Common.{◌≡◌, ℕ, ◌+◌, ◌<◌, ◌==◌, Bool, true, false, if◌then◌else◌, List, [], length, Option, None, refl, ap, sym, subst, ◌∙◌, inl, arith}
use Rattle.std.proofs.lemmas.Bool.Decides.{nat_tests}
use Rattle.pef_model.specs.declared.state.Run.{Run}
use Rattle.pef_model.specs.declared.state.Tag.{Tag}
use Rattle.pef_model.specs.declared.state.Ctx.TheVariants as ctx
use Rattle.pef_model.specs.declared.command.Cmd.{Cmd}
use Rattle.pef_model.specs.declared.command.Cmd.TheVariants.{Dump}
use Rattle.pef_model.specs.declared.command.Code.{Code}
use Rattle.pef_model.specs.declared.entry.Answer.{Answer}
use Rattle.pef_model.specs.declared.entry.Answer.TheVariants.{Ret}
use Rattle.pef_model.specs.Plan.{Plan}
use Rattle.pef_model.specs.Event.{Event, Mark}
use Rattle.pef_model.specs.Target.{Ask, uses_hand}
use Rattle.pef_model.specs.Cpu.{CpuPart}
use Rattle.pef_model.specs.Guest.{Guest as GuestWhole}
use Rattle.pef_model.specs.Deed.{deed_guest, deed_running, deed_gone}
use Rattle.pef_model.specs.History.{register_shown, ask_of, entry_of}
use Rattle.pef_frames.specs.Pool.{PoolState}
use Rattle.pef_frames.specs.PoolLaw.{times_free}
use Rattle.pef_guest.specs.declared.cpu.Cpu.{Cpu}
use Rattle.pef_regs.specs.declared.vcpu.Vcpu.{Vcpu}
use Rattle.pef_guest.specs.declared.guest.Guest.{Guest}
use Rattle.pef_guest.specs.Whole.{IsWhole}
use Rattle.pef_guest.specs.Keeps.{KeepsGuest, KeepsLife, KeepsFrames, KeepsMovers, times_held}
use Rattle.pef_guest.specs.Aims.{uses_pool, frame_running, frame_at_guest}
use Rattle.pef_guest.specs.Ready.{may_run_in, IsRunning, KeepsOwn, WorksAt}
use Rattle.pef_guest.specs.Refused.{RefusesCpu, ChangesNothing, Refuses}
use Rattle.pef_guest.specs.Rows.{RowWithPool, ask_hypervisor, ask_running, entry_running}
use Rattle.pef_guest.specs.Shows.{ShowsCpu, Shows}
use Rattle.pef_guest.specs.Does.{NormalPart, IsFoundIn, TellsFrame, is_any_free, entry_at_guest, MakesLent, DoesLent, MakesEntry, DoesRow}
use Rattle.pef_guest.proofs.Deeds.{share_running, share_guest}
use Rattle.pef_guest.proofs.OneVcpu.{with_step, keeps_guest, whole_vcpu}

-- what a step learns of a CPU on which the hypervisor runs: for one that shows a register that register too
abbrev pub ask_showing : CpuPart → Cmd → Ask
ask_showing c cmd = record { before = ctx.Hv; lpid = c.lpid; vid = c.vid; last = c.last; hand = []; register = register_shown ctx.Hv cmd c.own }

pub ask_in_hypervisor : (c : CpuPart) (cmd : Cmd) → c.ctx ≡ ctx.Hv → ask_of c cmd ≡ ask_showing c cmd
ask_in_hypervisor c cmd is = λ i. record { before = is i; lpid = c.lpid; vid = c.vid; last = c.last; hand = if uses_hand (is i) cmd then c.hand else []; register = register_shown (is i) cmd c.own }

-- none that shows a register is at a guest
pub deed_in_hypervisor : (plan : Plan) (g : GuestWhole) (found : ℕ → ℕ → ℕ) (any : Bool) (c : CpuPart) (cmd : Cmd) → deed_guest plan g found any (ask_showing c cmd) cmd ≡ deed_guest plan g found any (ask_hypervisor c) cmd
deed_in_hypervisor plan g found any c (Dump reg) = refl
deed_in_hypervisor plan g found any c cmd = refl

-- what it learns of one on which a vCPU runs
pub ask_in_guest : (c : CpuPart) (run : Run) (cmd : Cmd) → c.ctx ≡ ctx.Guest run → ask_of c cmd ≡ ask_running run c
ask_in_guest c run cmd is = λ i. record { before = is i; lpid = c.lpid; vid = c.vid; last = c.last; hand = if uses_hand (is i) cmd then c.hand else []; register = register_shown (is i) cmd c.own }

-- a step that takes no frame and gives none back leaves each where it is
pub frames_stay : {S : Type 0} (old new : Guest S) (pool : PoolState) → ((number : ℕ) → times_held new number ≡ times_held old number) → KeepsFrames old new pool pool
frames_stay old new pool same = record { count = refl; size = refl; frames = λ number. ap (λ x. x + times_free pool number) (same number) }

-- a call of the hypervisor that comes back at once
pub refused_call : {S : Type 0} (cmd : Cmd) {old new : Guest S} {cpu cpu_new : Cpu} {pool pool_new : PoolState} {code : Code} → cpu.ctx ≡ ctx.Hv → RefusesCpu cpu cpu_new code → ChangesNothing old new pool pool_new →
    Refuses cpu.ctx cmd old new cpu cpu_new pool pool_new (Ret code)
refused_call cmd {old = old} {new = new} {cpu = cpu} {cpu_new = cpu_new} {pool = pool} {pool_new = pool_new} {code = code} hv refuses same =
    subst (λ c. Refuses c cmd old new cpu cpu_new pool pool_new (Ret code)) (sym hv) (λ refusal. (refuses, same))

module _ {S : Type 0} (takes : S → ℕ → ℕ → Type 0) (stands : S → Tag → List ℕ → List ℕ → Type 0) (image : S → Tag → List ℕ → List ℕ) (cmd : Cmd) (old new : Guest S) (cpu cpu_new : Cpu) (pool pool_new : PoolState) (a : Answer) where
  -- the row, by its entry
  abbrev RowOf : Plan → GuestWhole → CpuPart → Event → Type 0
  RowOf plan g c e = RowWithPool stands image plan g c e new cpu_new (length pool.free) (length pool_new.free) a

  -- by what the step learns of its CPU
  abbrev pub RowAsked : Plan → GuestWhole → (ℕ → ℕ → ℕ) → CpuPart → Mark → Ask → Type 0
  RowAsked plan g found c mark ask = RowOf plan g c (entry_of ask mark cmd (deed_guest plan g found (is_any_free pool) ask cmd))

  -- a step at a guest touches no normal frame, but for an access of a vCPU in one
  pub tells_none : (plan : Plan) (g : GuestWhole) (found : ℕ → ℕ → ℕ) (c : CpuPart) (mark : Mark) → frame_at_guest plan g.part c.ctx cmd ≡ None → (entry_at_guest plan g found (is_any_free pool) c mark cmd).saw.frame ≡ None
  tells_none plan g found c mark none = (share_guest plan g found (is_any_free pool) (ask_of c cmd) c.ctx cmd).0 ∙ none

  -- a command of the hypervisor
  pub makes_hypervisor : cpu.ctx ≡ ctx.Hv →
      ((plan : Plan) (g : GuestWhole) (found : ℕ → ℕ → ℕ) (c : CpuPart) (mark : Mark) → mark.cpu ≡ cpu.number → Shows stands image plan old g → ShowsCpu cpu c → RowAsked plan g found c mark (ask_hypervisor c)) →
      MakesEntry takes stands image cmd old new cpu cpu_new pool pool_new a
  makes_hypervisor hv does plan g found c mark marked shows shows_cpu none clean =
      let here : c.ctx ≡ ctx.Hv = sym shows_cpu.ctx ∙ hv in (
        subst (RowAsked plan g found c mark) (sym (ask_in_hypervisor c cmd here))
            (subst (λ deed. RowOf plan g c (entry_of (ask_hypervisor c) mark cmd deed)) (sym (deed_in_hypervisor plan g found (is_any_free pool) c cmd)) (does plan g found c mark marked shows shows_cpu)),
        tells_none plan g found c mark (ap (λ before. frame_at_guest plan g.part before cmd) here),
      )

  module _ (frame : Option NormalPart) (left : List ℕ) (run : Run) (running : cpu.ctx ≡ ctx.Guest run) where
    -- a row of a step that is lent this normal frame, or none, by its entry
    abbrev pub RowLent : Plan → GuestWhole → CpuPart → Event → Type 0
    RowLent plan g c e = RowOf plan g c e × TellsFrame plan e frame left

    -- a command of a vCPU, by whether it is in its guest's generation
    abbrev EntryIn : Plan → GuestWhole → (ℕ → ℕ → ℕ) → CpuPart → Mark → Bool → Event
    EntryIn plan g found c mark b = entry_of (ask_running run c) mark cmd (if b then deed_running plan run g found (is_any_free pool) (ask_running run c) cmd else deed_gone (ask_running run c))

    makes_in : (b : Bool) → ((life : ℕ) → old.generation ≡ life → (run.generation == life) ≡ b) →
        ((plan : Plan) (g : GuestWhole) (found : ℕ → ℕ → ℕ) (c : CpuPart) (mark : Mark) → Shows stands image plan old g → ShowsCpu cpu c → IsFoundIn frame found → RowLent plan g c (EntryIn plan g found c mark b)) →
        MakesLent takes stands image cmd old new cpu cpu_new pool pool_new frame left a
    makes_in b test does plan g found c mark marked shows shows_cpu finds clean =
        subst (λ ask. RowLent plan g c (entry_of ask mark cmd (deed_guest plan g found (is_any_free pool) ask cmd))) (sym (ask_in_guest c run cmd (sym shows_cpu.ctx ∙ running)))
        (subst (λ b. RowLent plan g c (EntryIn plan g found c mark b)) (sym (test g.part.generation shows.generation)) (does plan g found c mark shows shows_cpu finds))

    -- in the generation
    pub makes_lent : run.generation ≡ old.generation →
        ((plan : Plan) (g : GuestWhole) (found : ℕ → ℕ → ℕ) (c : CpuPart) (mark : Mark) → Shows stands image plan old g → ShowsCpu cpu c → IsFoundIn frame found →
        RowLent plan g c (entry_running plan g found c run (is_any_free pool) mark cmd)) →
        MakesLent takes stands image cmd old new cpu cpu_new pool pool_new frame left a
    makes_lent same does = makes_in true (λ life is. grind (arith, nat_tests)) does

  module _ (run : Run) (running : cpu.ctx ≡ ctx.Guest run) where
    -- a command that is no access in a normal frame
    pub makes_running : run.generation ≡ old.generation → ((plan : Plan) (g : GuestWhole) → Shows stands image plan old g → frame_running plan g.part cmd ≡ None) →
        ((plan : Plan) (g : GuestWhole) (found : ℕ → ℕ → ℕ) (c : CpuPart) (mark : Mark) → Shows stands image plan old g → ShowsCpu cpu c →
        RowWithPool stands image plan g c (entry_running plan g found c run (is_any_free pool) mark cmd) new cpu_new (length pool.free) (length pool_new.free) a) →
        MakesEntry takes stands image cmd old new cpu cpu_new pool pool_new a
    makes_running same inside does =
        makes_lent None [] run running same (λ plan g found c mark shows shows_cpu none. (does plan g found c mark shows shows_cpu, running_none plan g found c mark (inside plan g shows))) where
          running_none : (plan : Plan) (g : GuestWhole) (found : ℕ → ℕ → ℕ) (c : CpuPart) (mark : Mark) → frame_running plan g.part cmd ≡ None → (entry_running plan g found c run (is_any_free pool) mark cmd).saw.frame ≡ None
          running_none plan g found c mark none = (share_running plan run g found (is_any_free pool) (ask_running run c) cmd).0 ∙ none

    pub makes_gone : (run.generation ≡ old.generation → ⊥) →
        ((plan : Plan) (g : GuestWhole) (c : CpuPart) (mark : Mark) → Shows stands image plan old g → ShowsCpu cpu c →
        RowWithPool stands image plan g c (entry_of (ask_running run c) mark cmd (deed_gone (ask_running run c))) new cpu_new (length pool.free) (length pool_new.free) a) →
        MakesEntry takes stands image cmd old new cpu cpu_new pool pool_new a
    makes_gone other does =
        makes_in None [] run running false (λ life is. grind (arith, nat_tests, other)) (λ plan g found c mark shows shows_cpu none. (does plan g c mark shows shows_cpu, refl))

-- a CPU that a step leaves as it is
pub own_stays : {S : Type 0} (guest : Guest S) (cpu : Cpu) → KeepsOwn guest cpu cpu
own_stays guest cpu = record { number = refl; hand = refl; selects = inl (refl, refl) }

module _ {S : Type 0} {takes : S → ℕ → ℕ → Type 0} {stands : S → Tag → List ℕ → List ℕ → Type 0} {image : S → Tag → List ℕ → List ℕ} {cmd : Cmd} {old : Guest S} {cpu : Cpu} {pool : PoolState} {a : Answer} {run : Run} (runs : IsRunning cpu old run) where
  -- a command of a vCPU that goes on running, lent this normal frame, or none
  pub lent_does : {new : Guest S} {pool_new : PoolState} (frame : Option NormalPart) (left : List ℕ) → IsWhole takes new → KeepsGuest old new → KeepsLife old new → KeepsMovers cpu.number old new → KeepsFrames old new pool pool_new →
      (uses_pool (ctx.Guest run) cmd ≡ false → pool_new ≡ pool) → Refuses (ctx.Guest run) cmd old new cpu cpu pool pool_new a → MakesLent takes stands image cmd old new cpu cpu pool pool_new frame left a →
      DoesLent takes stands image cmd old new cpu cpu pool pool_new frame left a
  lent_does {new = new} {pool_new = pool_new} frame left whole keeps life movers frames unused refused row = record {
    whole = whole;
    keeps = keeps;
    life = λ still. life;
    movers = movers;
    frames = frames;
    own = own_stays new cpu;
    works = subst (WorksAt new cpu) (sym runs.ctx)
        (runs.lpid ∙ sym keeps.lpid, runs.generation ∙ sym life.generation, subst (λ (n : ℕ). run.vid < n) (sym keeps.vcpus) runs.vid, ap may_run_in life.phase ∙ runs.phase);
    pool_stays = subst (λ c. uses_pool c cmd ≡ false → pool_new ≡ pool) (sym runs.ctx) unused;
    refused = subst (λ c. Refuses c cmd old new cpu cpu pool pool_new a) (sym runs.ctx) refused;
    row = row;
  }

  module _ (inside : (plan : Plan) (g : GuestWhole) → Shows stands image plan old g → frame_running plan g.part cmd ≡ None) where
    -- one that is lent none
    pub running_does : {new : Guest S} {pool_new : PoolState} → IsWhole takes new → KeepsGuest old new → KeepsLife old new → KeepsMovers cpu.number old new → KeepsFrames old new pool pool_new →
        (uses_pool (ctx.Guest run) cmd ≡ false → pool_new ≡ pool) → Refuses (ctx.Guest run) cmd old new cpu cpu pool pool_new a →
        ((plan : Plan) (g : GuestWhole) (found : ℕ → ℕ → ℕ) (c : CpuPart) (mark : Mark) → Shows stands image plan old g → ShowsCpu cpu c →
        RowWithPool stands image plan g c (entry_running plan g found c run (is_any_free pool) mark cmd) new cpu (length pool.free) (length pool_new.free) a) →
        DoesRow takes stands image cmd old new cpu cpu pool pool_new a
    running_does {new = new} {pool_new = pool_new} whole keeps life movers frames unused refused does =
        lent_does None [] whole keeps life movers frames unused refused (makes_running takes stands image cmd old new cpu cpu pool pool_new a run runs.ctx runs.generation inside does)

    -- one that changes its vCPU alone
    pub vcpu_does : (vcpu : Vcpu) → IsWhole takes old → Refuses (ctx.Guest run) cmd old (with_step old old.pages run.vid vcpu) cpu cpu pool pool a →
        ((plan : Plan) (g : GuestWhole) (found : ℕ → ℕ → ℕ) (c : CpuPart) (mark : Mark) → Shows stands image plan old g → ShowsCpu cpu c →
        RowWithPool stands image plan g c (entry_running plan g found c run (is_any_free pool) mark cmd) (with_step old old.pages run.vid vcpu) cpu (length pool.free) (length pool.free) a) →
        DoesRow takes stands image cmd old (with_step old old.pages run.vid vcpu) cpu cpu pool pool a
    vcpu_does vcpu whole refused does =
        running_does (whole_vcpu takes old run.vid vcpu whole) (keeps_guest old old.pages run.vid vcpu refl) (record { phase = refl; generation = refl; entry = refl }) (λ gfn mover same other moves. moves)
        (frames_stay old (with_step old old.pages run.vid vcpu) pool (λ number. refl)) (λ unused. refl) refused does
