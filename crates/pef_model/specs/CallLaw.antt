-- Which hypercall of a guest that isn't in normal memory is answered at once, and with which code.
use Rattle.std.specs.Prelude.{◌≡◌, ◌≢◌, ◌↔◌, ℕ, ◌<◌, List, Option, Some, None, option_map}
use Rattle.pef_model.specs.declared.state.Phase.TheVariants.{Normal}
use Rattle.pef_model.specs.declared.hypercall.TheConstants.{HCALLS}
use Rattle.pef_model.specs.declared.hypercall.Row.{Row}
use Rattle.pef_model.specs.declared.hypercall.RowKind.{RowKind}
use Rattle.pef_model.specs.declared.hypercall.RowKind.TheVariants.{Local, Svm}
use Rattle.pef_model.specs.declared.command.Code.TheVariants.{HSuccess, HUnsupported, HFunction, HHardware}
use Rattle.pef_model.specs.declared.command.Cmd.TheVariants.{GHcall}
use Rattle.pef_model.specs.declared.entry.Answer.TheVariants.{Ret}
use Rattle.pef_model.specs.Plan.{Plan}
use Rattle.pef_model.specs.Event.{Event}
use Rattle.pef_model.specs.Hypercalls.{row_of}
use Rattle.pef_model.specs.History.{reg, Extends, part_after}
use Rattle.pef_model.specs.CauseLaw.{IsBy}

-- who answers the hypercall of a number; None where no row has it
abbrev pub kind_of : ℕ → Option RowKind
kind_of number = option_map (λ (row : Row). row.kind) (row_of HCALLS number)

-- an entry is a hypercall of such a guest, with this kind for the number in R3, where so many entropy words are left
pub record Calls (Finds : Option RowKind → ℕ → Type 0) (plan : Plan) (past : List Event) (e : Event) : Type 0 where
  pub call : IsBy (λ cmd. cmd ≡ GHcall) (λ phase. phase ≢ Normal) plan past e
  pub finds : Finds (kind_of (reg plan past call.run.lpid call.run.vid 3)) (part_after plan past call.run.lpid).words

-- where each code of a hypercall comes, and nowhere else
pub record CallIsAnswered (plan : Plan) (past : List Event) (e : Event) : Type 0 where
  -- a call that isn't there
  pub function : (e.trace.answer ≡ Ret HFunction) ↔ Calls (λ kind words. kind ≡ None) plan past e
  -- one that isn't the guest's to make
  pub unsupported : (e.trace.answer ≡ Ret HUnsupported) ↔ Calls (λ kind words. kind ≡ Some Svm) plan past e
  -- the ultravisor's, with no word left, and with one
  pub hardware : (e.trace.answer ≡ Ret HHardware) ↔ Calls (λ kind words. (kind ≡ Some Local) × (words ≡ 0)) plan past e
  pub success : (e.trace.answer ≡ Ret HSuccess) ↔ Calls (λ kind words. (kind ≡ Some Local) × (0 < words)) plan past e

abbrev pub AnswersExactlyWhere : Type 0
AnswersExactlyWhere = (plan : Plan) (past : List Event) (e : Event) → Extends plan past e → CallIsAnswered plan past e
