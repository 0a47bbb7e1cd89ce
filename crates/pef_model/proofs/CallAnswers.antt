-- Where a hypercall is answered at once, and with which code.
use Rattle.std.proofs.Common.{◌≡◌, ◌≢◌, ◌⊎◌, inl, inr, ℕ, ◌<◌, List, Bool, true, false, ◌==◌, if◌then◌else◌, refl, ap, sym, ◌∙◌, Option, Some, None, slice_index, arith}
use Rattle.std.specs.Prelude.{◌↔◌, option_map}
use Rattle.std.proofs.lemmas.Bool.Decides.{nat_tests}
use Rattle.std.proofs.lemmas.Grind.{common_steps}
use Rattle.pef_model.specs.declared.state.Phase.{Phase}
use Rattle.pef_model.specs.declared.state.Phase.TheVariants as phase
use Rattle.pef_model.specs.declared.state.Run.{Run}
use Rattle.pef_model.specs.declared.state.Work.{Work}
use Rattle.pef_model.specs.declared.state.Ctx.{Ctx}
use Rattle.pef_model.specs.declared.state.Ctx.TheVariants as ctx
use Rattle.pef_model.specs.declared.hypercall.TheConstants.{HCALLS}
use Rattle.pef_model.specs.declared.hypercall.Row.{Row}
use Rattle.pef_model.specs.declared.hypercall.RowKind.{RowKind}
use Rattle.pef_model.specs.declared.hypercall.RowKind.TheVariants.{Reflected, Local, Svm}
use Rattle.pef_model.specs.declared.command.Code.{Code}
use Rattle.pef_model.specs.declared.command.Code.TheVariants.{HSuccess, HUnsupported, HFunction, HHardware}
use Rattle.pef_model.specs.declared.command.Cmd.{Cmd}
use Rattle.pef_model.specs.declared.command.Cmd.TheVariants.{GHcall}
use Rattle.pef_model.specs.declared.entry.Answer.{Answer}
use Rattle.pef_model.specs.declared.entry.Answer.TheVariants.{Ret}
use Rattle.pef_model.specs.Plan.{Plan}
use Rattle.pef_model.specs.Event.{Event}
use Rattle.pef_model.specs.Target.{Ask}
use Rattle.pef_model.specs.Hypercalls.{row_of}
use Rattle.pef_model.specs.Guest.{Guest}
use Rattle.pef_model.specs.Deed.{Deed, random_code, deed_by_row, deed_hypercall, deed_gone}
use Rattle.pef_model.specs.AnswerLaw.{can_answer}
use Rattle.pef_model.specs.History.{Extends}
use Rattle.pef_model.specs.CallLaw.{kind_of, Calls, AnswersExactlyWhere}
use Rattle.pef_model.proofs.AnswerRows.{each_answer_is_of_its_row}
use Rattle.pef_model.proofs.ExitAnswers.{guest, gpr_of, ask_of, call_is, alive}
use Rattle.pef_model.proofs.Folds.{test_same}

-- the code that a call of this kind has at once
abbrev code_at : Option RowKind → ℕ → Option Code
code_at None words = Some HFunction
code_at (Some Reflected) words = None
code_at (Some Local) words = Some (random_code words)
code_at (Some Svm) words = Some HUnsupported

same_code : {code other : Code} → Ret code ≡ Ret other → ◌≡◌ {A = Option Code} (Some code) (Some other)
same_code h = cc

row_answers : (words : ℕ) (ask : Ask) (gpr : List ℕ) (code : Code) (o : Option Row) → ((deed_by_row words ask gpr o).answer ≡ Ret code) ↔ (code_at (option_map (λ (row : Row). row.kind) o) words ≡ Some code)
row_answers words ask gpr code None = (λ h. same_code h, λ h. cc)
row_answers words ask gpr code (Some row) = by_kind row.kind refl where
  is : RowKind → Answer
  is kind = (deed_by_row words ask gpr (Some (record row { kind = kind }))).answer

  by_kind : (kind : RowKind) → row.kind ≡ kind → (is kind ≡ Ret code) ↔ (code_at (Some kind) words ≡ Some code)
  by_kind Reflected same = (λ h. cc, λ h. cc)
  by_kind Local same = (λ h. same_code h, λ h. cc)
  by_kind Svm same = (λ h. same_code h, λ h. cc)

call_answers : (words : ℕ) (p : Phase) (gpr : List ℕ) (ask : Ask) (code : Code) → ((deed_hypercall words p gpr ask).answer ≡ Ret code) ↔ ((p ≢ phase.Normal) × (code_at (kind_of (slice_index gpr 3)) words ≡ Some code))
call_answers words phase.Normal gpr ask code = (λ h. cc, λ both. absurd (both.0 refl))
call_answers words p gpr ask code =
    let row = row_answers words ask gpr code (row_of HCALLS (slice_index gpr 3)) in
    (λ h. (λ is. cc, row.0 h), λ both. row.1 both.1)

-- these codes come at hypercalls alone
abbrev is_call_code : Code → Bool
is_call_code HSuccess = true
is_call_code HUnsupported = true
is_call_code HFunction = true
is_call_code HHardware = true
is_call_code code = false

no_command : (c : Ctx) (cmd : Cmd) (code : Code) → is_call_code code ≡ true → can_answer c cmd (Ret code) ≡ true → (run : Run) × (c ≡ ctx.Guest run) × (cmd ≡ GHcall)
no_command ctx.Hv cmd code h can = absurd (none cmd code h can) where
  none : (cmd : Cmd) (code : Code) → is_call_code code ≡ true → can_answer ctx.Hv cmd (Ret code) ≡ true → ⊥
  none cmd code h can = grind (arith, common_steps)
no_command (ctx.Uv work) cmd code h can = absurd (none work cmd code h can) where
  none : (work : Work) (cmd : Cmd) (code : Code) → is_call_code code ≡ true → can_answer (ctx.Uv work) cmd (Ret code) ≡ true → ⊥
  none work cmd code h can = grind (arith, common_steps)
no_command (ctx.Guest run) cmd code h can = (run, refl, calls cmd code h can) where
  calls : (cmd : Cmd) (code : Code) → is_call_code code ≡ true → can_answer (ctx.Guest run) cmd (Ret code) ≡ true → cmd ≡ GHcall
  calls cmd code h can = grind (arith, common_steps)

module _ (plan : Plan) (past : List Event) (e : Event) (extends : Extends plan past e) where
  -- what an entry with such a code found
  from : (code : Code) → is_call_code code ≡ true → e.trace.answer ≡ Ret code → Calls (λ kind words. code_at kind words ≡ Some code) plan past e
  from code is_call is =
      let can : can_answer e.saw.before e.trace.cmd (Ret code) ≡ true = ap (can_answer e.saw.before e.trace.cmd) (sym is) ∙ each_answer_is_of_its_row plan past e extends in
      let found = no_command e.saw.before e.trace.cmd code is_call can in
      by_run found.0 found.1 found.2 where
        by_run : (run : Run) → e.saw.before ≡ ctx.Guest run → e.trace.cmd ≡ GHcall → Calls (λ kind words. code_at kind words ≡ Some code) plan past e
        by_run run before cmd_is = by_life (run.generation == g.part.generation) refl (sym (call_is plan past e extends run before cmd_is) ∙ is) where
          g : Guest
          g = guest plan past e extends run

          ask : Ask
          ask = ask_of plan past e extends run GHcall

          deed : Deed
          deed = deed_hypercall g.part.words g.part.phase (gpr_of plan past e extends run) ask

          by_life : (b : Bool) → (run.generation == g.part.generation) ≡ b → (if b then deed else deed_gone ask).answer ≡ Ret code → Calls (λ kind words. code_at kind words ≡ Some code) plan past e
          by_life true t h =
              let both = (call_answers g.part.words g.part.phase (gpr_of plan past e extends run) ask code).0 h in
              record { call = record { run = run; before = before; cmd_is = cmd_is; generation = test_same run.generation g.part.generation t; phase = both.0 }; finds = both.1 }
          by_life false t h = cc

  -- and one that found it has the code
  to : (code : Code) → Calls (λ kind words. code_at kind words ≡ Some code) plan past e → e.trace.answer ≡ Ret code
  to code calls =
      let run = calls.call.run in
      let g = guest plan past e extends run in
      let ask = ask_of plan past e extends run GHcall in
      call_is plan past e extends run calls.call.before calls.call.cmd_is
      ∙ alive plan past e extends run (deed_hypercall g.part.words g.part.phase (gpr_of plan past e extends run) ask) ask calls.call.generation
      ∙ (call_answers g.part.words g.part.phase (gpr_of plan past e extends run) ask code).1 (calls.call.phase, calls.finds)

  -- as it stands of a code that comes exactly where this is found
  each_way : (code : Code) (Finds : Option RowKind → ℕ → Type 0) → is_call_code code ≡ true → ((kind : Option RowKind) (words : ℕ) → (code_at kind words ≡ Some code) ↔ Finds kind words) →
      (e.trace.answer ≡ Ret code) ↔ Calls Finds plan past e
  each_way code Finds is_call same = (
    λ is. (let calls = from code is_call is in record { call = calls.call; finds = (same _ _).0 calls.finds }),
    λ calls. to code (record { call = calls.call; finds = (same _ _).1 calls.finds }),
  )

-- which kind has which code
code_of_word : (words : ℕ) (code : Code) → code_at (Some Local) words ≡ Some code → ((words ≡ 0) × (code ≡ HHardware)) ⊎ ((0 < words) × (code ≡ HSuccess))
code_of_word words code h = by_test (words == 0) refl h where
  by_test : (b : Bool) → (words == 0) ≡ b → ◌≡◌ {A = Option Code} (Some (if b then HHardware else HSuccess)) (Some code) → ((words ≡ 0) × (code ≡ HHardware)) ⊎ ((0 < words) × (code ≡ HSuccess))
  by_test true t k = inl (test_same words 0 t, cc)
  by_test false t k = inr (grind (arith, nat_tests), cc)

function_at : (kind : Option RowKind) (words : ℕ) → (code_at kind words ≡ Some HFunction) ↔ (kind ≡ None)
function_at None words = (λ h. refl, λ h. refl)
function_at (Some Reflected) words = (λ h. cc, λ h. cc)
function_at (Some Svm) words = (λ h. cc, λ h. cc)
function_at (Some Local) words = (λ h. elim (code_of_word words HFunction h) [ inl both ↦ (let no = both.1 in cc) | inr both ↦ (let no = both.1 in cc) ], λ h. cc)

unsupported_at : (kind : Option RowKind) (words : ℕ) → (code_at kind words ≡ Some HUnsupported) ↔ (kind ≡ Some Svm)
unsupported_at None words = (λ h. cc, λ h. cc)
unsupported_at (Some Reflected) words = (λ h. cc, λ h. cc)
unsupported_at (Some Svm) words = (λ h. refl, λ h. refl)
unsupported_at (Some Local) words = (λ h. elim (code_of_word words HUnsupported h) [ inl both ↦ (let no = both.1 in cc) | inr both ↦ (let no = both.1 in cc) ], λ h. cc)

hardware_at : (kind : Option RowKind) (words : ℕ) → (code_at kind words ≡ Some HHardware) ↔ ((kind ≡ Some Local) × (words ≡ 0))
hardware_at None words = (λ h. cc, λ both. (let no = both.0 in cc))
hardware_at (Some Reflected) words = (λ h. cc, λ both. (let no = both.0 in cc))
hardware_at (Some Svm) words = (λ h. cc, λ both. (let no = both.0 in cc))
hardware_at (Some Local) words = (λ h. elim (code_of_word words HHardware h) [ inl both ↦ (refl, both.0) | inr both ↦ (let no = both.1 in cc) ], λ both. ap (λ (n : ℕ). Some (random_code n)) both.1)

success_at : (kind : Option RowKind) (words : ℕ) → (code_at kind words ≡ Some HSuccess) ↔ ((kind ≡ Some Local) × (0 < words))
success_at None words = (λ h. cc, λ both. (let no = both.0 in cc))
success_at (Some Reflected) words = (λ h. cc, λ both. (let no = both.0 in cc))
success_at (Some Svm) words = (λ h. cc, λ both. (let no = both.0 in cc))
success_at (Some Local) words = (
  λ h. elim (code_of_word words HSuccess h) [ inl both ↦ (let no = both.1 in cc) | inr both ↦ (refl, both.0) ],
  λ both. (let some = both.1 in let other : (words == 0) ≡ false = grind (arith, nat_tests) in ap (λ (b : Bool). Some (if b then HHardware else HSuccess)) other),
)

pub answers_exactly_where : AnswersExactlyWhere
answers_exactly_where plan past e extends = record {
  function = each_way plan past e extends HFunction (λ kind words. kind ≡ None) refl function_at;
  unsupported = each_way plan past e extends HUnsupported (λ kind words. kind ≡ Some Svm) refl unsupported_at;
  hardware = each_way plan past e extends HHardware (λ kind words. (kind ≡ Some Local) × (words ≡ 0)) refl hardware_at;
  success = each_way plan past e extends HSuccess (λ kind words. (kind ≡ Some Local) × (0 < words)) refl success_at;
}
