-- Laws of hypercalls: nothing of a guest's registers leaves but the inputs that the call's row names; and runs of calls, computed.
use Rattle.std.specs.Prelude.{◌≡◌, ◌≢◌, ℕ, List, [], ◌∷◌, Some}
use Rattle.pef_model.specs.declared.state.Run.{Run}
use Rattle.pef_model.specs.declared.state.Ctx.TheVariants as ctx
use Rattle.pef_model.specs.declared.hypercall.TheConstants.{HCALLS, H_PROD, H_CONFER, H_SVM_PAGE_IN, H_RANDOM}
use Rattle.pef_model.specs.declared.hypercall.Row.{Row}
use Rattle.pef_model.specs.declared.hypercall.RowKind.TheVariants.{Reflected}
use Rattle.pef_model.specs.declared.command.Code.TheVariants.{USuccess, HUnsupported, HFunction, HHardware}
use Rattle.pef_model.specs.declared.command.Cmd.TheVariants.{HEnter, UPate, GLi, GAdd, GXor, GHcall, Dump}
use Rattle.pef_model.specs.declared.entry.Exit.TheVariants.{Normal, Hcall}
use Rattle.pef_model.specs.declared.entry.Answer.TheVariants.{Done, Val, Ret, Enter, Exit}
use Rattle.pef_model.specs.Plan.{Plan, plan_of}
use Rattle.pef_model.specs.Event.{Event}
use Rattle.pef_model.specs.Hypercalls.{row_of, scrubbed}
use Rattle.pef_model.specs.Script.{Line, Script}
use Rattle.pef_model.specs.Run.{run_of}
use Rattle.pef_model.specs.History.{cpu_after, guest_after, reg, IsLegal}
use Rattle.pef_model.specs.View.{view}
use Rattle.pef_model.specs.Alike.{IsAlike}
use Rattle.pef_model.specs.SeenReport.{DifferInSecrets}
use Rattle.pef_model.specs.RunLaw.{small_config, line_at, return_with, answers_of}

-- a hypercall has left with the row that its number in R3 has, and the CPU's registers are the guest's, scrubbed by that row
pub record LeavesScrubbed (plan : Plan) (past : List Event) (e : Event) (run : Run) (n : ℕ) : Type 0 where
  pub row : Row
  pub row_is : row_of HCALLS (reg plan past run.lpid run.vid 3) ≡ Some row
  pub kind_is : row.kind ≡ Reflected
  pub number : row.number ≡ n
  pub own : (cpu_after plan e.trace.cpu (e ∷ past)).own ≡ (scrubbed row ((guest_after plan run.lpid past).registers run.vid)).gpr

abbrev pub EachHypercallIsScrubbed : Type 0
EachHypercallIsScrubbed =
    (plan : Plan) (past : List Event) (e : Event) (run : Run) (n : ℕ) → IsLegal plan (e ∷ past) → e.saw.before ≡ ctx.Guest run → e.trace.cmd ≡ GHcall → e.trace.answer ≡ Exit (Hcall n) → LeavesScrubbed plan past e run n

-- a guest adds and combines registers, makes a call that isn't there, twice, one that isn't a guest's and one for a random word; with H_CONFER it leaves, and CPU 0 shows registers before and after
abbrev pub call_lines : List Line
call_lines =
    line_at 1 0 (Dump 3) ∷ line_at 2 0 (return_with 0) ∷ line_at 3 0 (GLi 4 0xffffffffffffffff) ∷ line_at 4 0 (GLi 20 3) ∷ line_at 5 0 (GAdd 5 4 20) ∷ line_at 6 0 (Dump 5) ∷ line_at 7 0 (GXor 6 20 5) ∷ line_at 8 0 (Dump 6)
    ∷ line_at 9 0 (GLi 3 19) ∷ line_at 10 0 GHcall ∷ line_at 11 0 (Dump 3) ∷ line_at 12 0 (GLi 3 264) ∷ line_at 13 0 GHcall ∷ line_at 14 0 (GLi 3 H_SVM_PAGE_IN) ∷ line_at 15 0 GHcall
    ∷ line_at 16 0 (GLi 3 H_RANDOM) ∷ line_at 17 0 GHcall ∷ line_at 18 0 (GLi 3 H_CONFER) ∷ line_at 19 0 GHcall ∷ line_at 20 0 (Dump 3) ∷ line_at 21 0 (Dump 4) ∷ line_at 22 0 (Dump 5) ∷ line_at 23 0 (Dump 6) ∷ line_at 24 0 (Dump 20) ∷ []

abbrev pub CallsAreAnswered : Type 0
CallsAreAnswered =
    answers_of call_lines
    ≡ Val 0 ∷ Enter ∷ Done ∷ Done ∷ Done ∷ Val 2 ∷ Done ∷ Val 1
    ∷ Done ∷ Ret HFunction ∷ Val 38 ∷ Done ∷ Ret HFunction ∷ Done ∷ Ret HUnsupported
    ∷ Done ∷ Ret HHardware ∷ Done ∷ Exit (Hcall 9) ∷ Val 9 ∷ Val 0xffffffffffffffff ∷ Val 2 ∷ Val 0 ∷ Val 0 ∷ []

-- a guest in normal memory leaves with a hypercall, whatever its number, and shows all its registers; h.enter gives R3 the answer
abbrev pub normal_call_lines : List Line
normal_call_lines =
    line_at 1 0 (UPate 2 0x100 1) ∷ line_at 2 0 (HEnter 2 0 9) ∷ line_at 3 0 (Dump 3) ∷ line_at 4 0 (GLi 3 19) ∷ line_at 5 0 (GLi 20 7) ∷ line_at 6 0 GHcall ∷ line_at 7 0 (Dump 3) ∷ line_at 8 0 (Dump 20)
    ∷ line_at 9 0 (HEnter 2 0 9) ∷ line_at 10 0 (Dump 3) ∷ line_at 11 0 (Dump 20) ∷ []

abbrev pub ANormalGuestCalls : Type 0
ANormalGuestCalls = answers_of normal_call_lines ≡ Ret USuccess ∷ Enter ∷ Val 0 ∷ Done ∷ Done ∷ Exit Normal ∷ Val 19 ∷ Val 7 ∷ Enter ∷ Val 9 ∷ Val 7 ∷ []

-- a guest leaves with H_PROD, whose one input is in R4, and has another value in R20
abbrev pub prod_script : ℕ → ℕ → Script
prod_script input kept = record {
  config = small_config;
  lines = line_at 1 0 (return_with 0) ∷ line_at 2 0 (GLi 3 H_PROD) ∷ line_at 3 0 (GLi 4 input) ∷ line_at 4 0 (GLi 20 kept) ∷ line_at 5 0 GHcall ∷ line_at 6 0 (Dump 20) ∷ [];
}

-- what is no input stays in: where it alone differs the runs are alike and show the same; where the input differs they aren't alike, and the views differ
pub record InputsAloneLeave : Type 0 where
  pub kept : DifferInSecrets (prod_script 1 7) (prod_script 1 9)
  pub apart : prod_script 1 7 ≢ prod_script 1 9
  pub alike : IsAlike small_config (run_of (prod_script 1 7)) small_config (run_of (prod_script 1 9))
  pub seen : view (plan_of small_config) (run_of (prod_script 1 7)) ≡ view (plan_of small_config) (run_of (prod_script 1 9))
  pub inputs : DifferInSecrets (prod_script 1 7) (prod_script 2 7)
  pub inputs_apart : IsAlike small_config (run_of (prod_script 1 7)) small_config (run_of (prod_script 2 7)) → ⊥
  pub inputs_seen : view (plan_of small_config) (run_of (prod_script 1 7)) ≢ view (plan_of small_config) (run_of (prod_script 2 7))
