-- Each entropy word is given once.
use Rattle.std.proofs.Common.{◌≡◌, ℕ, ◌+◌, ◌<◌, List, [], ◌∷◌, length, Bool, true, false, not, cond, ◌==◌, ◌&&◌, ◌||◌, if◌then◌else◌, refl, ap, sym, subst, ◌∙◌, arith, Option, Some, None, slice_index, get_or}
use Rattle.std.specs.Prelude.{unwrap_or, option_map}
use Rattle.std.specs.List.{list_all}
use Rattle.std.proofs.lemmas.Bool.{and_parts}
use Rattle.std.proofs.lemmas.Grind.{common_steps}
use Rattle.std.proofs.lemmas.List.{get_or-drop}
use Rattle.std.proofs.lemmas.Option.{slice_get-get_or}
use Rattle.pef_model.specs.declared.state.Phase.{Phase}
use Rattle.pef_model.specs.declared.state.Phase.TheVariants as phase
use Rattle.pef_model.specs.declared.state.Run.{Run}
use Rattle.pef_model.specs.declared.state.Ctx.TheVariants as ctx
use Rattle.pef_model.specs.declared.hypercall.TheConstants.{HCALLS, H_RANDOM}
use Rattle.pef_model.specs.declared.hypercall.Row.{Row}
use Rattle.pef_model.specs.declared.hypercall.RowKind.{RowKind}
use Rattle.pef_model.specs.declared.hypercall.RowKind.TheVariants.{Reflected, Local, Svm}
use Rattle.pef_model.specs.declared.command.Code.TheVariants.{HSuccess}
use Rattle.pef_model.specs.declared.command.Cmd.TheVariants.{GHcall}
use Rattle.pef_model.specs.declared.entry.Answer.TheVariants.{Ret}
use Rattle.pef_model.specs.Plan.{Plan, plan_of}
use Rattle.pef_model.specs.Event.{Event}
use Rattle.pef_model.specs.Target.{Ask, is_guest, target_in, touches_guest}
use Rattle.pef_model.specs.Hypercalls.{row_of}
use Rattle.pef_model.specs.Guest.{Guest, next_word, is_drawing}
use Rattle.pef_model.specs.Deed.{Deed, deed_by_kind, deed_by_row, deed_hypercall, deed_gone}
use Rattle.pef_model.specs.History.{guest_after, part_after, reg, IsLegal}
use Rattle.pef_model.specs.StepLaw.{let_out}
use Rattle.pef_model.specs.SearchLaw.{assigned_in, decides_register, IsStep}
use Rattle.pef_model.specs.CallLaw.{kind_of, Calls}
use Rattle.pef_model.specs.RandomLaw.{draws, given, GivesAWord, EachWordIsGivenOnce}
use Rattle.pef_model.proofs.Folds.{same_test, test_same}
use Rattle.pef_model.proofs.CallAnswers.{answers_exactly_where}
use Rattle.pef_model.proofs.DeedOf.{deed_is}
use Rattle.pef_model.proofs.HypercallRows.{row_of-found}
use Rattle.pef_model.proofs.LetOut.{shown_is}
use Rattle.pef_model.proofs.Newest.{reg_is_newest}
use Rattle.pef_model.proofs.WordsLeft.{given_after, words_are_given_in_order, words_are_counted}

-- the ultravisor answers H_RANDOM alone
abbrev is_local : RowKind → Bool
is_local Local = true
is_local kind = false

test_found : (test : Row → Bool) (rows : List Row) (number : ℕ) (row : Row) → list_all test rows ≡ true → row_of rows number ≡ Some row → test row ≡ true
test_found test [] number row all is = cc
test_found test (x ∷ rows) number row all is = by_number (test_found test rows number row) (and_parts (test x) (list_all test rows) all) (x.number == number) refl where
  by_number : (list_all test rows ≡ true → row_of rows number ≡ Some row → test row ≡ true) → (test x ≡ true) × (list_all test rows ≡ true) → (b : Bool) → (x.number == number) ≡ b → test row ≡ true
  by_number rest both true same = let here : x ≡ row = (let e : Some x ≡ Some row = rw same at is in cc) in ap test (sym here) ∙ both.0
  by_number rest both false other = rest both.1 (rw other at is)

local_number : (number : ℕ) → kind_of number ≡ Some Local → number ≡ H_RANDOM
local_number number is = by_row (row_of HCALLS number) refl is where
  test : Row → Bool
  test row = not (is_local row.kind) || (row.number == H_RANDOM)

  by_row : (o : Option Row) → row_of HCALLS number ≡ o → option_map (λ (row : Row). row.kind) o ≡ Some Local → number ≡ H_RANDOM
  by_row None found kind = cc
  by_row (Some row) found kind =
      let local : row.kind ≡ Local = cc in
      let passes : test row ≡ true = test_found test HCALLS number row refl found in
      sym (row_of-found HCALLS number row found).1 ∙ test_same row.number H_RANDOM (ap (λ (k : RowKind). not (is_local k) || (row.number == H_RANDOM)) (sym local) ∙ passes)

module _ (plan : Plan) (past : List Event) (e : Event) (run : Run) (legal : IsLegal plan (e ∷ past)) (step : IsStep run GHcall (Ret HSuccess) e) where
  abbrev g : Guest
  g = guest_after plan run.lpid past

  touches : touches_guest plan run.lpid e ≡ true
  touches = (λ i. is_guest run.lpid (target_in plan (step.before i) e.saw.lpid (step.cmd_is i))) ∙ same_test run.lpid

  draws_one : draws plan run.lpid e ≡ true
  draws_one = (λ i. touches i && is_drawing (step.before i) (step.answer_is i) (step.cmd_is i))

  -- each register of R0 to R31 of its vCPU
  register : (r : ℕ) → r < 32 → reg plan (e ∷ past) run.lpid run.vid r ≡ unwrap_or (if r == 3 then Some 0 else if r == 4 then Some (next_word g) else None) (reg plan past run.lpid run.vid r)
  register r small =
      (reg_is_newest plan (e ∷ past) run.lpid run.vid legal).gpr r small
      ∙ (λ i. unwrap_or (decides i) ((sym ((reg_is_newest plan past run.lpid run.vid legal.1).gpr r small)) i)) where
        given_to : Option ℕ
        given_to = if r == 3 then Some 0 else if r == 4 then Some (next_word g) else None

        decides : decides_register plan run.lpid run.vid r past e ≡ given_to
        decides =
            (λ i. if touches i then assigned_in (step.before i) g e.saw.vid run.vid (step.cmd_is i) (step.answer_is i) r else None)
            ∙ ap (λ (b : Bool). if b then given_to else None) (same_test run.vid)

  calls : Calls (λ kind words. (kind ≡ Some Local) × (0 < words)) plan past e
  calls = (answers_exactly_where plan past e legal.0).success.0 step.answer_is

  run_is : calls.call.run ≡ run
  run_is = let same = sym calls.call.before ∙ step.before in cc

  number_is : reg plan past run.lpid run.vid 3 ≡ H_RANDOM
  number_is = ap (λ (x : Run). reg plan past x.lpid x.vid 3) (sym run_is) ∙ local_number (reg plan past calls.call.run.lpid calls.call.run.vid 3) calls.finds.0

  some_left : 0 < g.part.words
  some_left = subst (λ (x : Run). 0 < (part_after plan past x.lpid).words) run_is calls.finds.1

  gives : length (plan.entropy run.lpid) ≡ plan.words run.lpid → GivesAWord plan past e run
  gives counted =
      let left = words_are_given_in_order plan past run.lpid in
      let behind : given plan run.lpid past < length (plan.entropy run.lpid) = (let count = left.count in let some = some_left in omega arith) in
      let counts = given_after plan past e run.lpid in
      record {
        word = slice_get-get_or (plan.entropy run.lpid) (given plan run.lpid past) 0 behind
            ∙ ap Some (sym (register 4 (omega arith) ∙ ap (λ (words : List ℕ). get_or words 0 0) left.words ∙ get_or-drop (given plan run.lpid past) (plan.entropy run.lpid) 0 0
            ∙ ap (λ (n : ℕ). get_or (plan.entropy run.lpid) n 0) (omega arith)));
        code = register 3 (omega arith);
        others = λ r small three four. register r small ∙ grind (arith, common_steps);
        counted = counts ∙ ap (λ (b : Bool). given plan run.lpid past + cond b 1 0) draws_one;
        shown = shown_is plan past e legal.0
            ∙ (λ i. let_out plan (λ lpid. guest_after plan lpid past) (step.before i) (step.cmd_is i) (step.answer_is i) e.saw.frame)
            ∙ ap (λ (n : ℕ). n ∷ []) number_is;
        bytes = bytes_none;
      } where
        -- no hypercall tells bytes
        by_kind : (kind : RowKind) (row : Row) (ask : Ask) → (deed_by_kind g.part.words kind ask (g.registers run.vid).gpr row).bytes ≡ []
        by_kind Reflected row ask = refl
        by_kind Local row ask = refl
        by_kind Svm row ask = refl

        by_row : (o : Option Row) (ask : Ask) → (deed_by_row g.part.words ask (g.registers run.vid).gpr o).bytes ≡ []
        by_row None ask = refl
        by_row (Some row) ask = by_kind row.kind row ask

        by_phase : (p : Phase) (ask : Ask) → (deed_hypercall g.part.words p (g.registers run.vid).gpr ask).bytes ≡ []
        by_phase phase.Normal ask = refl
        by_phase p ask = by_row (row_of HCALLS (slice_index (g.registers run.vid).gpr 3)) ask

        by_life : (b : Bool) (ask : Ask) → (if b then deed_hypercall g.part.words g.part.phase (g.registers run.vid).gpr ask else deed_gone ask).bytes ≡ []
        by_life true ask = by_phase g.part.phase ask
        by_life false ask = refl

        bytes_none : e.bytes ≡ []
        bytes_none = ap (λ (d : Deed). d.bytes) (deed_is plan past e (ctx.Guest run) GHcall legal.0 step.before step.cmd_is) ∙ by_life (run.generation == g.part.generation) _

pub each_word_is_given_once : EachWordIsGivenOnce
each_word_is_given_once config past e run legal step = gives (plan_of config) past e run legal step ((words_are_counted run.lpid).start config)
