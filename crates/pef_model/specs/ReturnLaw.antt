-- Laws of what comes back with UV_RETURN: a hypercall's answer and its outputs, and nothing else.
use Rattle.std.specs.Prelude.{◌≡◌, ◌≢◌, ◌⊎◌, ℕ, ◌+◌, ◌-◌, ◌%◌, ◌^◌, ◌<◌, ◌≤◌, Bool, false, List, [], ◌∷◌, ◌++◌, length, slice_get, Some}
use Rattle.std.specs.List.{Contains, AllByRecursion}
use Rattle.pef_model.specs.declared.state.Run.{Run}
use Rattle.pef_model.specs.declared.state.Regs.{Regs}
use Rattle.pef_model.specs.declared.state.Ctx.{Ctx}
use Rattle.pef_model.specs.declared.hypercall.TheConstants.{HCALLS, H_GET_TERM_CHAR}
use Rattle.pef_model.specs.declared.hypercall.Row.{Row}
use Rattle.pef_model.specs.declared.hypercall.RowKind.TheVariants.{Reflected}
use Rattle.pef_model.specs.declared.command.Code.TheVariants.{UInvalid}
use Rattle.pef_model.specs.declared.command.Cmd.TheVariants.{UReturn, GLi, GHcall, Dump}
use Rattle.pef_model.specs.declared.entry.Exit.TheVariants.{Hcall}
use Rattle.pef_model.specs.declared.entry.Answer.{Answer}
use Rattle.pef_model.specs.declared.entry.Answer.TheVariants.{Done, Val, Ret, Enter, Exit}
use Rattle.pef_model.specs.Plan.{Plan}
use Rattle.pef_model.specs.Event.{Event}
use Rattle.pef_model.specs.Target.{vcpu_in}
use Rattle.pef_model.specs.Hypercalls.{IsTable, row_of}
use Rattle.pef_model.specs.Guest.{answered_by}
use Rattle.pef_model.specs.Script.{Line}
use Rattle.pef_model.specs.Deed.{taken_up_in}
use Rattle.pef_model.specs.History.{Extends, IsLegal, part_after}
use Rattle.pef_model.specs.RunLaw.{line_at, return_with, answers_of}
use Rattle.pef_model.specs.StepLaw.{TakesUp, IsInterrupted, registers_of}
use Rattle.pef_model.specs.SearchLaw.{IsStep}
use Rattle.pef_model.specs.TransitionLaw.{is_vcpu, state_after}

-- R3 is the answer, the outputs are the hypervisor's values in their order, and every other register of R0 to R31 is as it was
pub record TakesOutputsAlone (row : Row) (r0 : ℕ) (outs old new : List ℕ) : Type 0 where
  pub answer : slice_get new 3 ≡ Some r0
  pub outputs : (r : ℕ) → 4 ≤ r → r < 4 + row.outputs → slice_get new r ≡ slice_get outs (r - 4)
  pub others : (r : ℕ) → r ≢ 3 → (r < 4) ⊎ (4 + row.outputs ≤ r) → slice_get new r ≡ slice_get old r

-- so is it with each row of every table, whatever a guest's registers hold
abbrev pub EachRowTakesOutputsAlone : Type 0
EachRowTakesOutputsAlone =
    (rows : List Row) (row : Row) (regs : Regs) (r0 : ℕ) (outs : List ℕ) → IsTable rows → Contains rows row → length regs.gpr ≡ 32 → length outs ≡ 9 →
    TakesOutputsAlone row r0 outs regs.gpr (answered_by (Some row) regs r0 outs).gpr

-- what a vCPU has of its hypercall of this number once UV_RETURN has taken it up: the outputs of the number's row, and it goes on after the call
pub record ComesBack (n r0 r2 : ℕ) (outs : List ℕ) (old new : Regs) : Type 0 where
  pub row : Row
  pub row_is : row_of HCALLS n ≡ Some row
  pub kind_is : row.kind ≡ Reflected
  pub gpr : TakesOutputsAlone row r0 outs old.gpr new.gpr
  pub goes_on : IsInterrupted r2 ((old.nip + 4) % 2 ^ 64) old new

-- whether a step takes a vCPU up, by its answer and the context after it: the CPU runs the vCPU from then on, or goes on with its call
abbrev pub takes_up_in : ℕ → ℕ → Answer → Ctx → Bool
takes_up_in lpid vid Enter after = is_vcpu lpid vid (vcpu_in after)
takes_up_in lpid vid a after = false

-- whether an entry does
abbrev pub takes_up : ℕ → ℕ → Event → Bool
takes_up lpid vid e = takes_up_in lpid vid e.trace.answer e.saw.after

-- after an entry `call`, with which a vCPU leaves for a hypercall, and those `since`, `back` is the UV_RETURN that answers it: none before takes the vCPU up, and its guest hasn't ended
pub record Answers (plan : Plan) (past since : List Event) (call back : Event) (run : Run) (n r0 r2 : ℕ) (outs : List ℕ) : Type 0 where
  pub call_is : IsStep run GHcall (Exit (Hcall n)) call
  pub since_is : AllByRecursion (λ (e : Event). takes_up run.lpid run.vid e ≡ false) since
  pub generation : (part_after plan (since ++ call ∷ past) run.lpid).generation ≡ run.generation
  pub back_is : TakesUp run.lpid run.vid r0 r2 outs back

-- from the call to its answer, whatever happens in between, a vCPU's registers change by the answer alone
abbrev pub EachCallComesBack : Type 0
EachCallComesBack =
    (plan : Plan) (past since : List Event) (call back : Event) (run : Run) (n r0 r2 : ℕ) (outs : List ℕ) →
    IsLegal plan (back ∷ since ++ call ∷ past) → Answers plan past since call back run n r0 r2 outs →
    ComesBack n r0 r2 outs (registers_of plan past run.lpid run.vid) (registers_of plan (back ∷ since ++ call ∷ past) run.lpid run.vid)

-- a vCPU that UV_RETURN takes up goes on under its guest's generation: in the call in which it waits, and as a guest where it waits in none
abbrev pub EachReturnGoesOn : Type 0
EachReturnGoesOn =
    (plan : Plan) (past : List Event) (e : Event) (lpid vid r0 r2 : ℕ) (outs : List ℕ) → Extends plan past e → TakesUp lpid vid r0 r2 outs e →
    e.saw.after ≡ taken_up_in (state_after plan past lpid vid) (record { lpid = lpid; vid = vid; generation = (part_after plan past lpid).generation })

-- a guest reads from its console on CPU 0, and has its answer and three outputs on CPU 1, while CPU 0 returns to it too
abbrev pub return_lines : List Line
return_lines =
    line_at 1 0 (return_with 0) ∷ line_at 2 0 (GLi 3 H_GET_TERM_CHAR) ∷ line_at 3 0 (GLi 4 5) ∷ line_at 4 0 (GLi 7 70) ∷ line_at 5 0 GHcall
    ∷ line_at 6 1 (UReturn 9 0 (1 ∷ 2 ∷ 3 ∷ 4 ∷ 5 ∷ 6 ∷ 7 ∷ 8 ∷ 9 ∷ [])) ∷ line_at 7 0 (return_with 0)
    ∷ line_at 8 1 (Dump 0) ∷ line_at 9 1 (Dump 3) ∷ line_at 10 1 (Dump 4) ∷ line_at 11 1 (Dump 5) ∷ line_at 12 1 (Dump 6) ∷ line_at 13 1 (Dump 7) ∷ []

abbrev pub ACallComesBack : Type 0
ACallComesBack =
    answers_of return_lines
    ≡ Enter ∷ Done ∷ Done ∷ Done ∷ Exit (Hcall 11)
    ∷ Enter ∷ Ret UInvalid
    ∷ Val 0 ∷ Val 9 ∷ Val 1 ∷ Val 2 ∷ Val 3 ∷ Val 70 ∷ []
