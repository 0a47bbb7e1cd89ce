-- A vCPU's hypercall leaves, or is answered, as the model's is.
use Rattle.std.proofs.Common.{◌≡◌, ℕ, ◌<◌, ◌==◌, if◌then◌else◌, arith, inl, List, [], ◌∷◌, drop, slice_set, length, Bool, true, false, refl, ap, sym, subst, ◌∙◌, inr, Some, None, slice_index, get_or}
use Rattle.std.specs.Prelude.{slice_get}
use Rattle.std.proofs.lemmas.Bool.{false≢true}
use Rattle.std.proofs.lemmas.Bool.Decides.{nat_tests}
use Rattle.pef_model.specs.declared.state.Phase.{Phase}
use Rattle.pef_model.specs.declared.state.Phase.TheVariants as phase
use Rattle.pef_model.specs.declared.state.VState.TheVariants.{Parked}
use Rattle.pef_model.specs.declared.state.Regs.{Regs}
use Rattle.pef_model.specs.declared.state.Run.{Run}
use Rattle.pef_model.specs.declared.state.Tag.{Tag}
use Rattle.pef_model.specs.declared.state.Ctx.TheVariants as ctx
use Rattle.pef_model.specs.declared.hypercall.TheConstants.{HCALLS}
use Rattle.pef_model.specs.declared.hypercall.Row.{Row}
use Rattle.pef_model.specs.declared.hypercall.RowKind.{RowKind}
use Rattle.pef_model.specs.declared.command.Code.{Code}
use Rattle.pef_model.specs.declared.command.Code.TheVariants.{HSuccess, HFunction, HHardware}
use Rattle.pef_model.specs.declared.command.Cmd.TheVariants.{GHcall}
use Rattle.pef_model.specs.declared.entry.Exit.{Exit}
use Rattle.pef_model.specs.declared.entry.Exit.TheVariants as exit
use Rattle.pef_model.specs.declared.entry.Answer.TheVariants as answer
use Rattle.pef_model.specs.Plan.{Plan}
use Rattle.pef_model.specs.Event.{Mark}
use Rattle.pef_model.specs.Registers.{with_code}
use Rattle.pef_model.specs.Hypercalls.{row_of}
use Rattle.pef_model.specs.Target.{Ask}
use Rattle.pef_model.specs.Cpu.{CpuPart}
use Rattle.pef_model.specs.GuestPart.{waits_for, with_parked_vcpu}
use Rattle.pef_model.specs.Guest.{Guest as GuestWhole, at_next_instruction, next_guest}
use Rattle.pef_model.specs.Entry.{may_enter_in}
use Rattle.pef_model.specs.Deed.{Deed, random_code, answering, deed_answered, deed_by_kind, deed_by_row, deed_hypercall}
use Rattle.pef_model.specs.History.{entry_of}
use Rattle.pef_frames.specs.Pool.{PoolState}
use Rattle.pef_regs.specs.declared.vcpu.Vcpu.{Vcpu}
use Rattle.pef_guest.specs.declared.cpu.Cpu.{Cpu}
use Rattle.pef_guest.specs.declared.guest.Guest.{Guest}
use Rattle.pef_guest.specs.Leaves.{leaving}
use Rattle.pef_guest.specs.Does.{DoesRow}
use Rattle.pef_guest.specs.Ready.{IsRunning}
use Rattle.pef_regs.specs.Registers.{with_registers}
use Rattle.pef_guest.specs.Rows.{RowWithPool, ask_running}
use Rattle.pef_guest.specs.Shows.{Shows, vcpu_at}
use Rattle.pef_guest.specs.Whole.{IsWhole}
use Rattle.pef_guest.specs.Refused.{RefusesVcpu, Refuses}
use Rattle.pef_reflect.proofs.OwnRow.{refused_guest}
use Rattle.pef_guest.proofs.Asked.{frames_stay, makes_running, running_does, vcpu_does}
use Rattle.pef_guest.proofs.OneVcpu.{with_step, stepped, is_at, keeps_guest, whole_vcpu, whole_words, shows_own, shows_drawn, shows_parked, shows_registers, shows_stays}

-- a vCPU that leaves so waits, with these registers
abbrev pub waiting : Vcpu → Exit → (Regs → Regs) → Vcpu
waiting vcpu way change = record vcpu { state = Parked (waits_for way); regs = change vcpu.regs }

-- a hypercall of a guest that isn't in normal memory goes by the row of its number
by_row_of : (words : ℕ) (p : Phase) (gpr : List ℕ) (ask : Ask) → may_enter_in p ≡ false → deed_hypercall words p gpr ask ≡ deed_by_row words ask gpr (row_of HCALLS (slice_index gpr 3))
by_row_of words phase.Normal gpr ask none = cc
by_row_of words p gpr ask none = refl

-- one that has no row
pub by_none : (words : ℕ) (p : Phase) (gpr : List ℕ) → may_enter_in p ≡ false → row_of HCALLS (slice_index gpr 3) ≡ None → (ask : Ask) → deed_hypercall words p gpr ask ≡ deed_answered ask gpr HFunction
by_none words p gpr shut unknown ask = by_row_of words p gpr ask shut ∙ ap (deed_by_row words ask gpr) unknown

-- one that has a row, by who answers it
pub by_row : (words : ℕ) (p : Phase) (gpr : List ℕ) (row : Row) (kind : RowKind) → may_enter_in p ≡ false → row_of HCALLS (slice_index gpr 3) ≡ Some row → row.kind ≡ kind → (ask : Ask) → deed_hypercall words p gpr ask ≡ deed_by_kind words kind ask gpr row
by_row words p gpr row kind shut known is ask = by_row_of words p gpr ask shut ∙ ap (deed_by_row words ask gpr) known ∙ ap (λ (k : RowKind). deed_by_kind words k ask gpr row) is

-- one of a guest in normal memory
pub by_open : (words : ℕ) (p : Phase) (gpr : List ℕ) → may_enter_in p ≡ true → (ask : Ask) → deed_hypercall words p gpr ask ≡ record (answering ask (answer.Exit exit.Normal)) { after = ctx.Hv; shown = gpr }
by_open words phase.Normal gpr may ask = refl
by_open words p gpr may ask = cc

-- the code of H_RANDOM where no entropy word is left, and where one is
pub none_left : (words : List ℕ) → slice_get words 0 ≡ None → random_code (length words) ≡ HHardware
none_left [] none = refl
none_left (word ∷ words) none = cc

pub some_left : (words : List ℕ) (word : ℕ) → slice_get words 0 ≡ Some word → random_code (length words) ≡ HSuccess
some_left [] word first = cc
some_left (one ∷ words) word first = ap (λ (none : Bool). if none then HHardware else HSuccess) (let e : (length (one ∷ words) == 0) ≡ false = grind (arith, nat_tests) in e)

-- the registers of a vCPU that is given a word
abbrev pub with_word : ℕ → Regs → Regs
with_word word regs = at_next_instruction regs (with_code (slice_set regs.gpr 4 word) HSuccess)

module _ {S : Type 0} (takes : S → ℕ → ℕ → Type 0) (stands : S → Tag → List ℕ → List ℕ → Type 0) (image : S → Tag → List ℕ → List ℕ) (old : Guest S) (cpu : Cpu) (pool : PoolState) (run : Run) (runs : IsRunning cpu old run) (whole : IsWhole takes old) where
  abbrev gpr : List ℕ
  gpr = (vcpu_at old run.vid).regs.gpr

  -- the registers of the model's vCPU are these
  same_registers : (plan : Plan) (g : GuestWhole) → Shows stands image plan old g → (g.registers run.vid).gpr ≡ gpr
  same_registers plan g shows = sym (ap (λ (regs : Regs). regs.gpr) (shows_own stands image plan old g run.vid shows runs.vid).registers)

  -- what the model does, by what is known of the guest here
  model_deed : (plan : Plan) (g : GuestWhole) (ask : Ask) (deed : Deed) → Shows stands image plan old g → deed_hypercall (length old.words) old.phase gpr ask ≡ deed → deed_hypercall g.part.words g.part.phase (g.registers run.vid).gpr ask ≡ deed
  model_deed plan g ask deed shows is = (λ i. deed_hypercall (sym shows.words_left i) (sym shows.phase i) (same_registers plan g shows i) ask) ∙ is

  -- one that leaves
  pub leaves : (way : Exit) (shown : List ℕ) (change : Regs → Regs) →
      ((ask : Ask) → deed_hypercall (length old.words) old.phase gpr ask ≡ record (answering ask (answer.Exit way)) { after = ctx.Hv; shown = shown }) →
      ((plan : Plan) (g : GuestWhole) (c : CpuPart) (mark : Mark) → next_guest plan g (entry_of (ask_running run c) mark GHcall (record (answering (ask_running run c) (answer.Exit way)) { after = ctx.Hv; shown = shown }))
      ≡ stepped g run.vid (with_parked_vcpu g.part run.vid (waits_for way)) g.content (change (g.registers run.vid)) (next_guest plan g (entry_of (ask_running run c) mark GHcall (record (answering (ask_running run c) (answer.Exit way)) { after = ctx.Hv; shown = shown }))).clean) →
      DoesRow takes stands image GHcall old (with_step old old.pages run.vid (waiting (vcpu_at old run.vid) way change)) cpu (leaving cpu run way shown) pool pool (answer.Exit way)
  leaves way shown change deed guest =
      let vcpu : Vcpu = waiting (vcpu_at old run.vid) way change in
      let keeps = keeps_guest old old.pages run.vid vcpu refl in
      record {
        whole = whole_vcpu takes old run.vid vcpu whole;
        keeps = keeps;
        life = λ still. record { phase = refl; generation = refl; entry = refl };
        movers = λ gfn mover same other moves. moves;
        frames = frames_stay old (with_step old old.pages run.vid vcpu) pool (λ number. refl);
        own = record { number = refl; hand = refl; selects = inr (runs.lpid, subst (λ (n : ℕ). run.vid < n) (sym keeps.vcpus) runs.vid) };
        works = tt;
        pool_stays = λ unused. refl;
        refused = rw runs.ctx tt;
        row = makes_running takes stands image GHcall old (with_step old old.pages run.vid vcpu) cpu (leaving cpu run way shown) pool pool (answer.Exit way) run runs.ctx runs.generation (λ plan g shows. refl)
            (λ plan g found c mark shows shows_cpu.
            subst (λ (d : Deed). RowWithPool stands image plan g c (entry_of (ask_running run c) mark GHcall d) (with_step old old.pages run.vid vcpu) (leaving cpu run way shown) (length pool.free) (length pool.free) (answer.Exit way))
            (sym (model_deed plan g (ask_running run c) (record (answering (ask_running run c) (answer.Exit way)) { after = ctx.Hv; shown = shown }) shows (deed (ask_running run c))))
            (record {
              row = record {
                answered = refl;
                guest = subst (Shows stands image plan (with_step old old.pages run.vid vcpu)) (sym (guest plan g c mark)) (shows_parked stands image plan old g run.vid shows runs.vid (waits_for way) change);
                cpu_is = record { ctx = refl; own = refl; lpid = refl; vid = refl; last = refl; hand = shows_cpu.hand };
              };
              pool = refl;
            }));
      }

  -- in the model a vCPU that has this code goes on with it in R3, and nothing else changes
  abbrev pub IsAnswered : Code → Type 0
  IsAnswered code =
      (plan : Plan) (g : GuestWhole) (c : CpuPart) (mark : Mark) → next_guest plan g (entry_of (ask_running run c) mark GHcall (deed_answered (ask_running run c) gpr code))
      ≡ stepped g run.vid g.part g.content (at_next_instruction (g.registers run.vid) (with_code (g.registers run.vid).gpr code)) (next_guest plan g (entry_of (ask_running run c) mark GHcall (deed_answered (ask_running run c) gpr code))).clean

  -- one that is answered at once
  answers : (code : Code) → IsAnswered code → ((ask : Ask) → deed_hypercall (length old.words) old.phase gpr ask ≡ deed_answered ask gpr code) →
      Refuses (ctx.Guest run) GHcall old (with_step old old.pages run.vid (with_registers (vcpu_at old run.vid) (at_next_instruction (vcpu_at old run.vid).regs (with_code gpr code)))) cpu cpu pool pool (answer.Ret code) →
      DoesRow takes stands image GHcall old (with_step old old.pages run.vid (with_registers (vcpu_at old run.vid) (at_next_instruction (vcpu_at old run.vid).regs (with_code gpr code)))) cpu cpu pool pool (answer.Ret code)
  answers code guest deed refused =
      let vcpu : Vcpu = with_registers (vcpu_at old run.vid) (at_next_instruction (vcpu_at old run.vid).regs (with_code gpr code)) in
      vcpu_does runs (λ plan g shows. refl) vcpu whole refused
      (λ plan g found c mark shows shows_cpu.
      subst (λ (d : Deed). RowWithPool stands image plan g c (entry_of (ask_running run c) mark GHcall d) (with_step old old.pages run.vid vcpu) cpu (length pool.free) (length pool.free) (answer.Ret code))
      (sym (model_deed plan g (ask_running run c) (deed_answered (ask_running run c) gpr code) shows (deed (ask_running run c))))
      (record {
        row = record {
          answered = refl;
          guest = subst (Shows stands image plan (with_step old old.pages run.vid vcpu)) (sym (guest plan g c mark)) (shows_registers stands image plan old g run.vid shows runs.vid (λ (regs : Regs). at_next_instruction regs (with_code regs.gpr code)));
          cpu_is = shows_stays run cpu c runs.ctx shows_cpu;
        };
        pool = refl;
      }))

  -- the same, of the vCPU as it is found
  pub answers_here : (vcpu new : Vcpu) (code : Code) → vcpu ≡ get_or old.vcpus.items run.vid vcpu → RefusesVcpu vcpu new code → new ≡ with_registers vcpu (at_next_instruction vcpu.regs (with_code vcpu.regs.gpr code)) → IsAnswered code →
      ((ask : Ask) → deed_hypercall (length old.words) old.phase gpr ask ≡ deed_answered ask gpr code) → DoesRow takes stands image GHcall old (with_step old old.pages run.vid new) cpu cpu pool pool (answer.Ret code)
  answers_here vcpu new code there refuses changed guest deed =
      let is : new ≡ with_registers (vcpu_at old run.vid) (at_next_instruction (vcpu_at old run.vid).regs (with_code gpr code)) =
      changed ∙ ap (λ (v : Vcpu). with_registers v (at_next_instruction v.regs (with_code v.regs.gpr code))) (is_at old run.vid vcpu runs.vid there) in
      subst (λ (v : Vcpu). DoesRow takes stands image GHcall old (with_step old old.pages run.vid v) cpu cpu pool pool (answer.Ret code)) (sym is)
      (answers code guest deed
      (subst (λ (v : Vcpu). Refuses (ctx.Guest run) GHcall old (with_step old old.pages run.vid v) cpu cpu pool pool (answer.Ret code)) is
      (λ refusal. (refused_guest old run.vid vcpu runs.vid there new code refuses, refl, refl))))

  -- one that is given an entropy word, the first of those that are left
  pub given_here : (vcpu new : Vcpu) (word : ℕ) → vcpu ≡ get_or old.vcpus.items run.vid vcpu → slice_get old.words 0 ≡ Some word → new ≡ with_registers vcpu (with_word word vcpu.regs) →
      ((ask : Ask) → deed_hypercall (length old.words) old.phase gpr ask ≡ deed_answered ask gpr HSuccess) →
      DoesRow takes stands image GHcall old (record (with_step old old.pages run.vid new) { words = drop 1 old.words }) cpu cpu pool pool (answer.Ret HSuccess)
  given_here vcpu new word there first changed deed =
      let same : Vcpu = with_registers (vcpu_at old run.vid) (with_word word (vcpu_at old run.vid).regs) in
      let is : new ≡ same = changed ∙ ap (λ (v : Vcpu). with_registers v (with_word word v.regs)) (is_at old run.vid vcpu runs.vid there) in
      let keeps = keeps_guest old old.pages run.vid same refl in
      let after : Guest S = record (with_step old old.pages run.vid same) { words = drop 1 old.words } in
      subst (λ (v : Vcpu). DoesRow takes stands image GHcall old (record (with_step old old.pages run.vid v) { words = drop 1 old.words }) cpu cpu pool pool (answer.Ret HSuccess)) (sym is)
      (running_does runs (λ plan g shows. refl) (whole_words takes (with_step old old.pages run.vid same) (drop 1 old.words) (whole_vcpu takes old run.vid same whole))
      (record { lpid = refl; shift = refl; normal = refl; secure = refl; pages = refl; vcpus = keeps.vcpus; generation = keeps.generation; phase = λ still. inl refl; steps = refl })
      (record { phase = refl; generation = refl; entry = refl }) (λ gfn mover still other moves. moves) (frames_stay old after pool (λ number. refl)) (λ unused. refl) (λ refusal. absurd (false≢true refusal))
      (λ plan g found c mark shows shows_cpu.
      subst (λ (d : Deed). RowWithPool stands image plan g c (entry_of (ask_running run c) mark GHcall d) after cpu (length pool.free) (length pool.free) (answer.Ret HSuccess))
      (sym (model_deed plan g (ask_running run c) (deed_answered (ask_running run c) gpr HSuccess) shows (deed (ask_running run c))))
      (record {
        row = record {
          answered = refl;
          guest = shows_drawn stands image plan old g run.vid shows runs.vid word with_word first;
          cpu_is = shows_stays run cpu c runs.ctx shows_cpu;
        };
        pool = refl;
      })))
