-- Where a guest leaves, and with what.
use Rattle.std.proofs.Common.{◌≡◌, ◌≢◌, ◌⊎◌, ℕ, List, Bool, true, false, ◌==◌, if◌then◌else◌, refl, ap, sym, ◌∙◌, Option, Some, None, slice_index, inl, inr, arith}
use Rattle.std.proofs.lemmas.Grind.{common_steps}
use Rattle.pef_model.specs.declared.state.Phase.{Phase}
use Rattle.pef_model.specs.declared.state.Phase.TheVariants as phase
use Rattle.pef_model.specs.declared.state.Run.{Run}
use Rattle.pef_model.specs.declared.state.Ctx.{Ctx}
use Rattle.pef_model.specs.declared.state.Ctx.TheVariants as ctx
use Rattle.pef_model.specs.declared.command.Cmd.{Cmd}
use Rattle.pef_model.specs.declared.command.Cmd.TheVariants.{GHcall, GIrq}
use Rattle.pef_model.specs.declared.hypercall.TheConstants.{HCALLS}
use Rattle.pef_model.specs.declared.hypercall.Row.{Row}
use Rattle.pef_model.specs.declared.hypercall.RowKind.{RowKind}
use Rattle.pef_model.specs.declared.hypercall.RowKind.TheVariants.{Reflected, Local, Svm}
use Rattle.pef_model.specs.declared.entry.Exit.{Exit}
use Rattle.pef_model.specs.declared.entry.Exit.TheVariants as exit
use Rattle.pef_model.specs.declared.entry.Answer.TheVariants as answer
use Rattle.pef_model.specs.Plan.{Plan}
use Rattle.pef_model.specs.Event.{Event}
use Rattle.pef_model.specs.Target.{Ask}
use Rattle.pef_model.specs.Guest.{Guest}
use Rattle.pef_model.specs.Hypercalls.{row_of}
use Rattle.pef_model.specs.Deed.{Deed, deed_interrupt, deed_by_kind, deed_by_row, deed_hypercall, deed_gone}
use Rattle.pef_model.specs.AnswerLaw.{can_answer}
use Rattle.pef_model.specs.History.{cpu_after, guest_after, Extends}
use Rattle.pef_model.specs.CauseLaw.{IsBy, Reflects, ExitsExactlyWhere}
use Rattle.pef_model.proofs.Folds.{same_test, test_same}
use Rattle.pef_model.proofs.AnswerRows.{each_answer_is_of_its_row}
use Rattle.pef_model.proofs.DeedOf.{ask_in, deed_is}
use Rattle.std.specs.Prelude.{◌↔◌}

-- a guest leaves by a hypercall or an interrupt
exit_command : (run : Run) (cmd : Cmd) (e : Exit) → can_answer (ctx.Guest run) cmd (answer.Exit e) ≡ true → (cmd ≡ GHcall) ⊎ (cmd ≡ GIrq)
exit_command run GHcall e h = inl refl
exit_command run GIrq e h = inr refl
exit_command run cmd e h = absurd (no_other cmd h) where
  no_other : (cmd : Cmd) → can_answer (ctx.Guest run) cmd (answer.Exit e) ≡ true → ⊥
  no_other cmd k = cc

exit_context : (c : Ctx) (cmd : Cmd) (e : Exit) → can_answer c cmd (answer.Exit e) ≡ true → (A : Type 0) → ((run : Run) → c ≡ ctx.Guest run → A) → A
exit_context ctx.Hv cmd e h A given = absurd (none_leaves cmd e h) where
  none_leaves : (cmd : Cmd) (e : Exit) → can_answer ctx.Hv cmd (answer.Exit e) ≡ true → ⊥
  none_leaves cmd e h = grind (arith, common_steps)
exit_context (ctx.Uv work) cmd e h A given = absurd (none_leaves cmd e h) where
  none_leaves : (cmd : Cmd) (e : Exit) → can_answer (ctx.Uv work) cmd (answer.Exit e) ≡ true → ⊥
  none_leaves cmd e h = grind (arith, common_steps)
exit_context (ctx.Guest run) cmd e h A given = given run refl

-- what an interrupt answers by the guest's phase
interrupt_normal : (p : Phase) (gpr : List ℕ) (ask : Ask) → ((deed_interrupt p gpr ask).answer ≡ answer.Exit exit.Normal) ↔ (p ≡ phase.Normal)
interrupt_normal phase.Normal gpr ask = (λ h. refl, λ is. refl)
interrupt_normal p gpr ask = (λ h. cc, λ is. cc)

interrupt_other : (p : Phase) (gpr : List ℕ) (ask : Ask) → ((deed_interrupt p gpr ask).answer ≡ answer.Exit exit.Irq) ↔ (p ≢ phase.Normal)
interrupt_other phase.Normal gpr ask = (λ h. cc, λ other. absurd (other refl))
interrupt_other p gpr ask = (λ h is. cc, λ other. refl)

interrupt_no_call : (p : Phase) (gpr : List ℕ) (ask : Ask) (n : ℕ) → (deed_interrupt p gpr ask).answer ≡ answer.Exit (exit.Hcall n) → ⊥
interrupt_no_call phase.Normal gpr ask n h = cc
interrupt_no_call p gpr ask n h = cc

-- and a hypercall, by the row of its number too
record Calls (gpr : List ℕ) (n : ℕ) : Type 0 where
  row : Row
  row_is : row_of HCALLS (slice_index gpr 3) ≡ Some row
  kind_is : row.kind ≡ Reflected
  number : row.number ≡ n

row_leaves : (words : ℕ) (gpr : List ℕ) (ask : Ask) (x : Exit) (o : Option Row) → row_of HCALLS (slice_index gpr 3) ≡ o → (deed_by_row words ask gpr o).answer ≡ answer.Exit x → (row : Row) × (o ≡ Some row) × (row.kind ≡ Reflected) × (x ≡ exit.Hcall row.number)
row_leaves words gpr ask x None is h = cc
row_leaves words gpr ask x (Some row) is h = by_kind row.kind refl h where
  exit_in : {a b : Exit} → answer.Exit a ≡ answer.Exit b → b ≡ a
  exit_in k = cc

  by_kind : (kind : RowKind) → row.kind ≡ kind → (deed_by_kind words kind ask gpr row).answer ≡ answer.Exit x → (one : Row) × (◌≡◌ {A = Option Row} (Some row) (Some one)) × (one.kind ≡ Reflected) × (x ≡ exit.Hcall one.number)
  by_kind Reflected is k = (row, refl, is, exit_in k)
  by_kind Local is k = cc
  by_kind Svm is k = cc

call_normal : (words : ℕ) (p : Phase) (gpr : List ℕ) (ask : Ask) → ((deed_hypercall words p gpr ask).answer ≡ answer.Exit exit.Normal) ↔ (p ≡ phase.Normal)
call_normal words phase.Normal gpr ask = (λ h. refl, λ is. refl)
call_normal words p gpr ask = (λ h. absurd (let leaves = row_leaves words gpr ask exit.Normal (row_of HCALLS (slice_index gpr 3)) refl h in cc), λ is. cc)

call_no_interrupt : (words : ℕ) (p : Phase) (gpr : List ℕ) (ask : Ask) → (deed_hypercall words p gpr ask).answer ≡ answer.Exit exit.Irq → ⊥
call_no_interrupt words phase.Normal gpr ask h = cc
call_no_interrupt words p gpr ask h = let leaves = row_leaves words gpr ask exit.Irq (row_of HCALLS (slice_index gpr 3)) refl h in cc

call_other : (words : ℕ) (p : Phase) (gpr : List ℕ) (ask : Ask) (n : ℕ) → ((deed_hypercall words p gpr ask).answer ≡ answer.Exit (exit.Hcall n)) ↔ ((p ≢ phase.Normal) × Calls gpr n)
call_other words phase.Normal gpr ask n = (λ h. cc, λ calls. absurd (calls.0 refl))
call_other words p gpr ask n = (
  λ h. (
      let leaves = row_leaves words gpr ask (exit.Hcall n) (row_of HCALLS (slice_index gpr 3)) refl h in
      (λ is. cc, record { row = leaves.0; row_is = leaves.1; kind_is = leaves.2; number = (let same = leaves.3 in cc) })
      ),
  λ (other, calls).
      ap (λ (o : Option Row). (deed_by_row words ask gpr o).answer) calls.row_is
      ∙ ap (λ (kind : RowKind). (deed_by_kind words kind ask gpr calls.row).answer) calls.kind_is
      ∙ ap (λ (number : ℕ). answer.Exit (exit.Hcall number)) calls.number,
)

module _ (plan : Plan) (past : List Event) (e : Event) (extends : Extends plan past e) where
  abbrev pub guest : Run → Guest
  guest run = guest_after plan run.lpid past

  abbrev pub gpr_of : Run → List ℕ
  gpr_of run = ((guest run).registers run.vid).gpr

  abbrev pub ask_of : Run → Cmd → Ask
  ask_of run cmd = ask_in (cpu_after plan e.trace.cpu past) (ctx.Guest run) cmd

  -- what such a command answers under its guest's generation, and under another
  interrupt_is : (run : Run) → e.saw.before ≡ ctx.Guest run → e.trace.cmd ≡ GIrq →
      e.trace.answer ≡ (if run.generation == (guest run).part.generation then deed_interrupt (guest run).part.phase (gpr_of run) (ask_of run GIrq) else deed_gone (ask_of run GIrq)).answer
  interrupt_is run before cmd_is = ap (λ (d : Deed). d.answer) (deed_is plan past e (ctx.Guest run) GIrq extends before cmd_is)

  pub call_is : (run : Run) → e.saw.before ≡ ctx.Guest run → e.trace.cmd ≡ GHcall →
      e.trace.answer ≡ (if run.generation == (guest run).part.generation then deed_hypercall (guest run).part.words (guest run).part.phase (gpr_of run) (ask_of run GHcall) else deed_gone (ask_of run GHcall)).answer
  call_is run before cmd_is = ap (λ (d : Deed). d.answer) (deed_is plan past e (ctx.Guest run) GHcall extends before cmd_is)

  -- one that leaves with an exit does so under its guest's generation
  lives : (run : Run) (x : Exit) (deed : Deed) (ask : Ask) (b : Bool) → (run.generation == (guest run).part.generation) ≡ b → (if b then deed else deed_gone ask).answer ≡ answer.Exit x → (run.generation ≡ (guest run).part.generation) × (deed.answer ≡ answer.Exit x)
  lives run x deed ask true t h = (test_same run.generation (guest run).part.generation t, h)
  lives run x deed ask false t h = cc

  pub alive : (run : Run) (deed : Deed) (ask : Ask) → run.generation ≡ (guest run).part.generation → (if run.generation == (guest run).part.generation then deed else deed_gone ask).answer ≡ deed.answer
  alive run deed ask same = ap (λ (b : Bool). (if b then deed else deed_gone ask).answer) (ap (λ (k : ℕ). run.generation == k) (sym same) ∙ same_test run.generation)

  -- an exit comes from a vCPU's hypercall or interrupt, with what these give
  from_vcpu : (A : Type 0) (x : Exit) → e.trace.answer ≡ answer.Exit x →
      ((run : Run) → e.saw.before ≡ ctx.Guest run → e.trace.cmd ≡ GHcall → run.generation ≡ (guest run).part.generation → (deed_hypercall (guest run).part.words (guest run).part.phase (gpr_of run) (ask_of run GHcall)).answer ≡ answer.Exit x → A) →
      ((run : Run) → e.saw.before ≡ ctx.Guest run → e.trace.cmd ≡ GIrq → run.generation ≡ (guest run).part.generation → (deed_interrupt (guest run).part.phase (gpr_of run) (ask_of run GIrq)).answer ≡ answer.Exit x → A) → A
  from_vcpu A x is by_call by_interrupt = exit_context e.saw.before e.trace.cmd x can A by_run where
    can : can_answer e.saw.before e.trace.cmd (answer.Exit x) ≡ true
    can = ap (can_answer e.saw.before e.trace.cmd) (sym is) ∙ each_answer_is_of_its_row plan past e extends

    by_run : (run : Run) → e.saw.before ≡ ctx.Guest run → A
    by_run run before = elim (exit_command run e.trace.cmd x (ap (λ (c : Ctx). can_answer c e.trace.cmd (answer.Exit x)) (sym before) ∙ can)) [
      | inl cmd_is ↦
          let alive_is = lives run x (deed_hypercall (guest run).part.words (guest run).part.phase (gpr_of run) (ask_of run GHcall)) (ask_of run GHcall) (run.generation == (guest run).part.generation) refl (sym (call_is run before cmd_is) ∙ is) in
          by_call run before cmd_is alive_is.0 alive_is.1
      | inr cmd_is ↦
          let alive_is = lives run x (deed_interrupt (guest run).part.phase (gpr_of run) (ask_of run GIrq)) (ask_of run GIrq) (run.generation == (guest run).part.generation) refl (sym (interrupt_is run before cmd_is) ∙ is) in
          by_interrupt run before cmd_is alive_is.0 alive_is.1
    ]

  normal_from : e.trace.answer ≡ answer.Exit exit.Normal → IsBy (λ cmd. (cmd ≡ GHcall) ⊎ (cmd ≡ GIrq)) (λ p. p ≡ phase.Normal) plan past e
  normal_from is = from_vcpu (IsBy (λ cmd. (cmd ≡ GHcall) ⊎ (cmd ≡ GIrq)) (λ p. p ≡ phase.Normal) plan past e) exit.Normal is
      (λ run before cmd_is same h. record { run = run; before = before; cmd_is = inl cmd_is; generation = same; phase = (call_normal (guest run).part.words (guest run).part.phase (gpr_of run) (ask_of run GHcall)).0 h })
      (λ run before cmd_is same h. record { run = run; before = before; cmd_is = inr cmd_is; generation = same; phase = (interrupt_normal (guest run).part.phase (gpr_of run) (ask_of run GIrq)).0 h })

  normal_to : IsBy (λ cmd. (cmd ≡ GHcall) ⊎ (cmd ≡ GIrq)) (λ p. p ≡ phase.Normal) plan past e → e.trace.answer ≡ answer.Exit exit.Normal
  normal_to by = elim by.cmd_is [
    | inl cmd_is ↦ call_is by.run by.before cmd_is ∙ alive by.run (deed_hypercall (guest by.run).part.words (guest by.run).part.phase (gpr_of by.run) (ask_of by.run GHcall)) (ask_of by.run GHcall) by.generation ∙ (call_normal (guest by.run).part.words (guest by.run).part.phase (gpr_of by.run) (ask_of by.run GHcall)).1 by.phase
    | inr cmd_is ↦ interrupt_is by.run by.before cmd_is ∙ alive by.run (deed_interrupt (guest by.run).part.phase (gpr_of by.run) (ask_of by.run GIrq)) (ask_of by.run GIrq) by.generation ∙ (interrupt_normal (guest by.run).part.phase (gpr_of by.run) (ask_of by.run GIrq)).1 by.phase
  ]

  irq_from : e.trace.answer ≡ answer.Exit exit.Irq → IsBy (λ cmd. cmd ≡ GIrq) (λ p. p ≢ phase.Normal) plan past e
  irq_from is = from_vcpu (IsBy (λ cmd. cmd ≡ GIrq) (λ p. p ≢ phase.Normal) plan past e) exit.Irq is
      (λ run before cmd_is same h. absurd (call_no_interrupt (guest run).part.words (guest run).part.phase (gpr_of run) (ask_of run GHcall) h))
      (λ run before cmd_is same h. record { run = run; before = before; cmd_is = cmd_is; generation = same; phase = (interrupt_other (guest run).part.phase (gpr_of run) (ask_of run GIrq)).0 h })

  irq_to : IsBy (λ cmd. cmd ≡ GIrq) (λ p. p ≢ phase.Normal) plan past e → e.trace.answer ≡ answer.Exit exit.Irq
  irq_to by = interrupt_is by.run by.before by.cmd_is ∙ alive by.run (deed_interrupt (guest by.run).part.phase (gpr_of by.run) (ask_of by.run GIrq)) (ask_of by.run GIrq) by.generation ∙ (interrupt_other (guest by.run).part.phase (gpr_of by.run) (ask_of by.run GIrq)).1 by.phase

  call_from : (n : ℕ) → e.trace.answer ≡ answer.Exit (exit.Hcall n) → Reflects n plan past e
  call_from n is = from_vcpu (Reflects n plan past e) (exit.Hcall n) is
      (λ run before cmd_is same h.
      let calls = (call_other (guest run).part.words (guest run).part.phase (gpr_of run) (ask_of run GHcall) n).0 h in
      record { call = record { run = run; before = before; cmd_is = cmd_is; generation = same; phase = calls.0 }; row = calls.1.row; row_is = calls.1.row_is; kind_is = calls.1.kind_is; number = calls.1.number })
      (λ run before cmd_is same h. absurd (interrupt_no_call (guest run).part.phase (gpr_of run) (ask_of run GIrq) n h))

  call_to : (n : ℕ) → Reflects n plan past e → e.trace.answer ≡ answer.Exit (exit.Hcall n)
  call_to n reflects =
      let run = reflects.call.run in
      call_is run reflects.call.before reflects.call.cmd_is ∙ alive run (deed_hypercall (guest run).part.words (guest run).part.phase (gpr_of run) (ask_of run GHcall)) (ask_of run GHcall) reflects.call.generation
      ∙ (call_other (guest run).part.words (guest run).part.phase (gpr_of run) (ask_of run GHcall) n).1 (reflects.call.phase, record { row = reflects.row; row_is = reflects.row_is; kind_is = reflects.kind_is; number = reflects.number })

pub exits_exactly_where : ExitsExactlyWhere
exits_exactly_where plan past e extends = record {
  normal = (normal_from plan past e extends, normal_to plan past e extends);
  irq = (irq_from plan past e extends, irq_to plan past e extends);
  call = λ n. (call_from plan past e extends n, call_to plan past e extends n);
}
