-- What leaves with a hypercall, entry by entry: the guest's registers, scrubbed by the call's row.
use Rattle.std.proofs.Common.{◌≡◌, ◌≢◌, ℕ, ◌+◌, ◌-◌, ◌<◌, ◌≤◌, ◌==◌, nat_le, nat_lt, Bool, true, false, List, length, take, drop, get_or, refl, ap, sym, ◌∙◌, if◌then◌else◌, Option, Some, unwrap_or, arith, length-take, length-drop, suc}
use Rattle.std.specs.Prelude.{slice_get, slice_index}
use Rattle.std.proofs.lemmas.Bool.Decides.{nat_tests}
use Rattle.std.proofs.lemmas.Grind.{common_steps}
use Rattle.std.proofs.lemmas.List.{get_or-drop, get_or-take}
use Rattle.std.proofs.lemmas.Option.{slice_get-get_or, slice_get_past}
use Rattle.pef_model.specs.declared.state.Regs.{Regs}
use Rattle.pef_model.specs.declared.state.Run.{Run}
use Rattle.pef_model.specs.declared.state.Ctx.{Ctx}
use Rattle.pef_model.specs.declared.hypercall.TheConstants.{HCALLS}
use Rattle.pef_model.specs.declared.hypercall.Row.{Row}
use Rattle.pef_model.specs.Registers.{call_registers}
use Rattle.pef_model.specs.Hypercalls.{IsRow, row_of, value_scrubbed, scrubbed, let_out_by}
use Rattle.pef_model.specs.Cpu.{CpuPart, cpu_by}
use Rattle.pef_model.specs.History.{cpu_after, guest_after}
use Rattle.pef_model.specs.StepLaw.{let_out, let_out_running, let_out_calling}
use Rattle.pef_model.specs.HypercallLaw.{EachHypercallIsScrubbed}
use Rattle.pef_model.proofs.Assigned.{full_registers}
use Rattle.pef_model.proofs.ExitAnswers.{exits_exactly_where}
use Rattle.pef_model.proofs.HypercallRows.{row_is_whole, row_of-found}
use Rattle.pef_model.proofs.LetOut.{shown_is}
use Rattle.pef_model.proofs.Scrubs.{scrubbed-from_registers}
use Rattle.pef_model.proofs.OwnRegisters.{length_called}
use Rattle.pef_model.proofs.Steps.{own_cpu, call_shows}

-- each register of those that leave has its value
each_register : (row : Row) (gpr : List ℕ) (r : ℕ) → IsRow row → row.number ≡ slice_index gpr 3 → length gpr ≡ 32 → r < 32 → get_or (call_registers (let_out_by row gpr)) r 0 ≡ value_scrubbed row gpr r
each_register row gpr r whole number full small = call_shows (let_out_by row gpr) r small ∙ by_place (nat_le 3 r) (r == 3) refl refl where
  inputs : List ℕ
  inputs = take row.inputs (drop row.first gpr)

  long : length inputs ≡ row.inputs
  long = simp (length-take, length-drop) (omega (arith, full, whole.first, whole.inputs))

  input : (k : ℕ) → k < row.inputs → get_or inputs k 0 ≡ get_or gpr (4 + k) 0
  input k less = get_or-take row.inputs (drop row.first gpr) k 0 less ∙ get_or-drop row.first gpr k 0 ∙ ap (λ (n : ℕ). get_or gpr (n + k) 0) whole.first

  behind : (k : ℕ) → 4 + k ≡ r → unwrap_or (slice_get inputs k) 0 ≡ value_scrubbed row gpr r
  behind k is = by_input (nat_lt k row.inputs) refl where
    by_input : (b : Bool) → nat_lt k row.inputs ≡ b → unwrap_or (slice_get inputs k) 0 ≡ value_scrubbed row gpr r
    by_input true t =
        let less : k < row.inputs = grind (arith, nat_tests) in
        let three : r ≢ 3 = omega (arith, is) in
        let low : row.first ≤ r = omega (arith, whole.first, is) in
        let high : r < row.first + row.inputs = omega (arith, whole.first, is, less) in
        ap (λ (o : Option ℕ). unwrap_or o 0) (slice_get-get_or inputs k 0 (omega (arith, long, less))) ∙ input k less ∙ ap (λ (n : ℕ). get_or gpr n 0) is ∙ grind (arith, common_steps)
    by_input false t =
        let more : row.inputs ≤ k = grind (arith, nat_tests) in
        let three : r ≢ 3 = omega (arith, is) in
        let high : row.first + row.inputs ≤ r = omega (arith, whole.first, is, more) in
        ap (λ (o : Option ℕ). unwrap_or o 0) (slice_get_past inputs k (omega (arith, long, more))) ∙ grind (arith, common_steps)

  by_place : (b c : Bool) → nat_le 3 r ≡ b → (r == 3) ≡ c → (if b then unwrap_or (slice_get (let_out_by row gpr) (r - 3)) 0 else 0) ≡ value_scrubbed row gpr r
  by_place false c t u =
      let high : r < 3 = grind (arith, nat_tests) in
      let three : r ≢ 3 = omega (arith, high) in
      let outside : r < row.first = omega (arith, whole.first, high) in
      grind (arith, common_steps)
  by_place true true t u =
      let is : r ≡ 3 = grind (arith, nat_tests) in
      rw is (sym number)
  by_place true false t u =
      let low : 3 ≤ r = grind (arith, nat_tests) in
      let other : r ≢ 3 = grind (arith, nat_tests) in
      let k : ℕ = r - 4 in
      let is : 4 + k ≡ r = omega (arith, low, other) in
      let place : r - 3 ≡ suc k = omega (arith, low, other) in
      ap (λ (n : ℕ). unwrap_or (slice_get (let_out_by row gpr) n) 0) place ∙ behind k is

-- so the registers that show what a call lets out are the guest's, scrubbed by the row of its number
pub shows_scrubbed : (row : Row) (regs : Regs) → row_of HCALLS (slice_index regs.gpr 3) ≡ Some row → length regs.gpr ≡ 32 → call_registers (let_out_by row regs.gpr) ≡ (scrubbed row regs).gpr
shows_scrubbed row regs is full =
    let found = row_of-found HCALLS (slice_index regs.gpr 3) row is in
    ap (λ (x : Regs). x.gpr) (scrubbed-from_registers row regs (call_registers (let_out_by row regs.gpr)) (length_called (let_out_by row regs.gpr))
    (λ r small. each_register row regs.gpr r (row_is_whole (slice_index regs.gpr 3) row is) found.1 full small))

pub each_hypercall_is_scrubbed : EachHypercallIsScrubbed
each_hypercall_is_scrubbed plan past e run n legal before cmd_is answer_is =
    let reflects = ((exits_exactly_where plan past e legal.0).call n).0 answer_is in
    let other : reflects.call.run ≡ run = (let same = sym reflects.call.before ∙ before in cc) in
    let row_is : row_of HCALLS (slice_index gpr 3) ≡ Some reflects.row = ap (λ (x : Run). row_of HCALLS (slice_index ((guest_after plan x.lpid past).registers x.vid).gpr 3)) (sym other) ∙ reflects.row_is in
    let shown : e.saw.shown ≡ let_out_by reflects.row gpr =
    shown_is plan past e legal.0
    ∙ ap (λ (c : Ctx). let_out plan (λ lpid. guest_after plan lpid past) c e.trace.cmd e.trace.answer e.saw.frame) before
    ∙ (λ i. let_out_running gpr (cmd_is i) (answer_is i) e.saw.frame)
    ∙ ap (let_out_calling gpr) row_is in
    record {
      row = reflects.row;
      row_is = row_is;
      kind_is = reflects.kind_is;
      number = reflects.number;
      own = ap (λ (x : CpuPart). x.own) (own_cpu plan past e)
          ∙ (λ i. (cpu_by (cpu_after plan e.trace.cpu past) (before i) e.saw.after (cmd_is i) (answer_is i) (shown i) e.bytes).own)
          ∙ shows_scrubbed reflects.row regs row_is (full_registers plan past run.lpid legal.1 run.vid);
    } where
      regs : Regs
      regs = (guest_after plan run.lpid past).registers run.vid

      gpr : List ℕ
      gpr = regs.gpr
