-- No step reads the entropy words of the plan.
use Rattle.std.proofs.Common.{◌≡◌, ℕ, Bool, ◌==◌, if◌then◌else◌, List, [], ◌∷◌, slice_index, refl, ap}
use Rattle.pef_model.specs.declared.state.Phase.{Phase}
use Rattle.pef_model.specs.declared.state.Phase.TheVariants as phase
use Rattle.pef_model.specs.declared.state.Run.{Run}
use Rattle.pef_model.specs.declared.state.Work.TheVariants.{Inward}
use Rattle.pef_model.specs.declared.state.Ctx.{Ctx}
use Rattle.pef_model.specs.declared.state.Ctx.TheVariants as ctx
use Rattle.pef_model.specs.declared.command.Cmd.{Cmd}
use Rattle.pef_model.specs.declared.command.Cmd.TheVariants.{UPageout, GLd, GSt}
use Rattle.pef_model.specs.declared.entry.Answer.TheVariants as answer
use Rattle.pef_model.specs.Plan.{Plan, with_entropy}
use Rattle.pef_model.specs.Target.{Ask}
use Rattle.pef_model.specs.GuestPart.{GuestPart, meets_in, page_of}
use Rattle.pef_model.specs.Guest.{Guest}
use Rattle.pef_model.specs.Memory.{offset_of}
use Rattle.pef_model.specs.PageOut.{page_out_code, bytes_out}
use Rattle.pef_model.specs.Deed.{Deed, deed_frame_in, deed_access, deed_running, deed_gone, returning, deed_page_out_begin, deed_hypervisor, deed_guest_in, deed_guest}

-- none at a normal frame
pub unworded_frame : (plan : Plan) (words : ℕ → List ℕ) (n : ℕ) (bytes : List ℕ) (ask : Ask) (cmd : Cmd) (c : Ctx) → deed_frame_in c (with_entropy plan words) n bytes ask cmd ≡ deed_frame_in c plan n bytes ask cmd
unworded_frame plan words n bytes ask cmd ctx.Hv = refl
unworded_frame plan words n bytes ask cmd (ctx.Uv work) = refl
unworded_frame plan words n bytes ask cmd (ctx.Guest run) = refl

-- and none at a guest
unworded_meets : (plan : Plan) (words : ℕ → List ℕ) (g : GuestPart) (gpa : ℕ) (p : Phase) → meets_in p (with_entropy plan words) g gpa ≡ meets_in p plan g gpa
unworded_meets plan words g gpa phase.Normal = refl
unworded_meets plan words g gpa p = refl

unworded_bytes : (plan : Plan) (words : ℕ → List ℕ) (g : Guest) (lpid gfn : ℕ) (p : Phase) → bytes_out p (with_entropy plan words) g lpid gfn ≡ bytes_out p plan g lpid gfn
unworded_bytes plan words g lpid gfn phase.Aborting = refl
unworded_bytes plan words g lpid gfn p = refl

unworded_running : (plan : Plan) (words : ℕ → List ℕ) (run : Run) (g : Guest) (found : ℕ → ℕ → ℕ) (any : Bool) (ask : Ask) (cmd : Cmd) → deed_running (with_entropy plan words) run g found any ask cmd ≡ deed_running plan run g found any ask cmd
unworded_running plan words run g found any ask (GLd rd gpa) =
    ap (deed_access ask (answer.Val (g.content gpa)) (λ n. answer.Val (found n (offset_of plan gpa))) [] any) (unworded_meets plan words g.part gpa g.part.phase)
unworded_running plan words run g found any ask (GSt rs gpa) =
    ap (deed_access ask answer.Done (λ n. answer.Done) (slice_index (g.registers run.vid).gpr rs ∷ []) any) (unworded_meets plan words g.part gpa g.part.phase)
unworded_running plan words run g found any ask cmd = refl

unworded_hypervisor : (plan : Plan) (words : ℕ → List ℕ) (g : Guest) (any : Bool) (ask : Ask) (cmd : Cmd) → deed_hypervisor (with_entropy plan words) g any ask cmd ≡ deed_hypervisor plan g any ask cmd
unworded_hypervisor plan words g any ask (UPageout lpid dest gpa flags order) =
    ap (λ (bytes : List ℕ). returning ask (page_out_code plan g.part dest gpa flags order) (record (deed_page_out_begin plan g ask lpid dest gpa) { bytes = bytes })) (unworded_bytes plan words g lpid (page_of plan gpa) g.part.phase)
unworded_hypervisor plan words g any ask cmd = refl

pub unworded : (plan : Plan) (words : ℕ → List ℕ) (g : Guest) (found : ℕ → ℕ → ℕ) (any : Bool) (ask : Ask) (cmd : Cmd) → deed_guest (with_entropy plan words) g found any ask cmd ≡ deed_guest plan g found any ask cmd
unworded plan words g found any ask cmd = by_ctx ask.before where
  by_ctx : (c : Ctx) → deed_guest_in c (with_entropy plan words) g found any ask cmd ≡ deed_guest_in c plan g found any ask cmd
  by_ctx ctx.Hv = unworded_hypervisor plan words g any ask cmd
  by_ctx (ctx.Uv (Inward move)) = refl
  by_ctx (ctx.Uv work) = refl
  by_ctx (ctx.Guest run) = ap (λ (d : Deed). if run.generation == g.part.generation then d else deed_gone ask) (unworded_running plan words run g found any ask cmd)
