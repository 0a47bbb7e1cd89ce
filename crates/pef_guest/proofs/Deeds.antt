-- What the deeds at a guest touch beside it.
use Rattle.std.proofs.Common.{◌≡◌, ℕ, ◌==◌, ◌&&◌, Bool, true, false, if◌then◌else◌, List, [], ◌∷◌, slice_index, Option, Some, None, refl, ◌⊎◌, inl, inr}
use Rattle.pef_model.specs.declared.state.Run.{Run}
use Rattle.pef_model.specs.declared.state.Work.TheVariants.{Inward, Outward}
use Rattle.pef_model.specs.declared.state.Ctx.{Ctx}
use Rattle.pef_model.specs.declared.state.Ctx.TheVariants as ctx
use Rattle.pef_model.specs.declared.command.Code.{Code}
use Rattle.pef_model.specs.declared.command.Code.TheVariants.{USuccess, UParameter, UInvalid}
use Rattle.pef_model.specs.declared.command.Cmd.{Cmd}
use Rattle.pef_model.specs.declared.command.Cmd.TheVariants.{HEnter, UPagein, UPageout, UReturn, GLd, GSt, GHcall, GIrq}
use Rattle.pef_model.specs.declared.hypercall.TheConstants.{HCALLS}
use Rattle.pef_model.specs.declared.hypercall.Row.{Row}
use Rattle.pef_model.specs.declared.hypercall.RowKind.{RowKind}
use Rattle.pef_model.specs.declared.hypercall.RowKind.TheVariants.{Reflected, Local, Svm}
use Rattle.pef_model.specs.declared.entry.Answer.{Answer}
use Rattle.pef_model.specs.declared.entry.Answer.TheVariants as answer
use Rattle.pef_model.specs.declared.entry.PoolSaw.{PoolSaw}
use Rattle.pef_model.specs.Plan.{Plan}
use Rattle.pef_model.specs.Registers.{Call, call_of}
use Rattle.pef_model.specs.Entry.{enter_code}
use Rattle.pef_model.specs.Hypercalls.{row_of}
use Rattle.pef_model.specs.declared.state.Phase.{Phase}
use Rattle.pef_model.specs.declared.state.Phase.TheVariants as phase
use Rattle.pef_model.specs.Target.{Ask}
use Rattle.pef_model.specs.GuestPart.{Meeting, Moves, Private, Normal, Unbacked, meets}
use Rattle.pef_model.specs.Guest.{Guest as GuestWhole}
use Rattle.pef_model.specs.Memory.{offset_of}
use Rattle.pef_model.specs.PageOut.{page_out_code}
use Rattle.pef_model.specs.PageIn.{page_in_operands, is_last_sealed}
use Rattle.pef_guest.specs.Aims.{frame_met, frame_running, frame_at_guest}
use Rattle.pef_model.specs.Deed.{Deed, answering, returning, giving, coming_back, deed_guest_in, deed_hypervisor, deed_running, deed_gone, deed_access, deed_interrupt, deed_by_kind, deed_by_row, deed_hypercall, deed_refused, deed_page_out_begin, deed_page_in_with, deed_page_in_test, may_return_in, is_waiting, taken_up_in}

-- the ways in which a step at a guest touches the pool: it takes the frame that is free, finds none, or gives one back
abbrev pub IsShareOf : Bool → Option PoolSaw → Type 0
IsShareOf any None = Unit {0}
IsShareOf any (Some p) = ((p ≡ record { any = true; taken = 1; given = 0 }) × (any ≡ true)) ⊎ ((p ≡ record { any = false; taken = 0; given = 0 }) ⊎ (p ≡ record { any = false; taken = 0; given = 1 }))

-- a step at a guest touches this normal frame, and the pool in one of these ways
abbrev pub IsShare : Bool → Option ℕ → Deed → Type 0
IsShare any frame deed = (deed.frame ≡ frame) × IsShareOf any deed.pool

share_access : (ask : Ask) (success : Answer) (through : ℕ → Answer) (shown : List ℕ) (any : Bool) (r : Meeting) → IsShare any (frame_met r) (deed_access ask success through shown any r)
share_access ask success through shown any Private = (refl, tt)
share_access ask success through shown true Unbacked = (refl, inl (refl, refl))
share_access ask success through shown false Unbacked = (refl, inr (inl refl))
share_access ask success through shown any Moves = (refl, tt)
share_access ask success through shown any (Normal n) = (refl, tt)
share_access ask success through shown any met = (refl, tt)

pub share_running : (plan : Plan) (run : Run) (g : GuestWhole) (found : ℕ → ℕ → ℕ) (any : Bool) (ask : Ask) (cmd : Cmd) → IsShare any (frame_running plan g.part cmd) (deed_running plan run g found any ask cmd)
share_running plan run g found any ask (GLd rd gpa) = share_access ask (answer.Val (g.content gpa)) (λ n. answer.Val (found n (offset_of plan gpa))) [] any (meets plan g.part gpa)
share_running plan run g found any ask (GSt rs gpa) = share_access ask answer.Done (λ n. answer.Done) (slice_index (g.registers run.vid).gpr rs ∷ []) any (meets plan g.part gpa)
share_running plan run g found any ask GIrq = by_phase g.part.phase where
  by_phase : (phase : Phase) → IsShare any None (deed_interrupt phase (g.registers run.vid).gpr ask)
  by_phase phase.Normal = (refl, tt)
  by_phase other = (refl, tt)
share_running plan run g found any ask GHcall = by_phase g.part.phase where
  gpr : List ℕ
  gpr = (g.registers run.vid).gpr

  by_kind : (kind : RowKind) (row : Row) → IsShare any None (deed_by_kind g.part.words kind ask gpr row)
  by_kind Reflected row = (refl, tt)
  by_kind Local row = (refl, tt)
  by_kind Svm row = (refl, tt)

  by_row : (row : Option Row) → IsShare any None (deed_by_row g.part.words ask gpr row)
  by_row None = (refl, tt)
  by_row (Some row) = by_kind row.kind row

  by_phase : (phase : Phase) → IsShare any None (deed_hypercall g.part.words phase gpr ask)
  by_phase phase.Normal = (refl, tt)
  by_phase other = by_row (row_of HCALLS (slice_index gpr 3))
share_running plan run g found any ask cmd = by_call (call_of cmd) where
  by_call : (call : Option Call) → IsShare any None (deed_refused ask cmd call)
  by_call None = (refl, tt)
  by_call (Some call) = (refl, tt)

share_hypervisor : (plan : Plan) (g : GuestWhole) (any : Bool) (ask : Ask) (cmd : Cmd) → IsShare any None (deed_hypervisor plan g any ask cmd)
share_hypervisor plan g any ask (UPagein lpid src gpa flags order) = by_code (page_in_operands plan g.part src gpa flags order) any where
  by_code : (code : Option Code) (any : Bool) → IsShare any None (returning ask code (deed_page_in_with plan g.part ask lpid src gpa any))
  by_code None true = (refl, inl (refl, refl))
  by_code None false = (refl, inr (inl refl))
  by_code (Some code) any = (refl, tt)
share_hypervisor plan g any ask (UPageout lpid dest gpa flags order) = by_code (page_out_code plan g.part dest gpa flags order) where
  by_code : (code : Option Code) → IsShare any None (returning ask code (deed_page_out_begin plan g ask lpid dest gpa))
  by_code None = (refl, tt)
  by_code (Some code) = (refl, tt)
share_hypervisor plan g any ask (HEnter lpid vid value) = by_code (enter_code plan g.part vid) where
  by_code : (code : Option Code) → IsShare any None (returning ask code (record (answering ask answer.Enter) { after = ctx.Guest (record { lpid = lpid; vid = vid; generation = g.part.generation }) }))
  by_code None = (refl, tt)
  by_code (Some code) = (refl, tt)
share_hypervisor plan g any ask (UReturn r0 r2 outs) = by_test (may_return_in g.part.phase && is_waiting (g.part.vcpus ask.vid).state) where
  by_test : (b : Bool) → IsShare any None (if b then record (answering ask answer.Enter) { after = taken_up_in (g.part.vcpus ask.vid).state (record { lpid = ask.lpid; vid = ask.vid; generation = g.part.generation }) } else answering ask (answer.Ret UInvalid))
  by_test true = (refl, tt)
  by_test false = (refl, tt)
share_hypervisor plan g any ask cmd = (refl, tt)

pub share_guest : (plan : Plan) (g : GuestWhole) (found : ℕ → ℕ → ℕ) (any : Bool) (ask : Ask) (c : Ctx) (cmd : Cmd) → IsShare any (frame_at_guest plan g.part c cmd) (deed_guest_in c plan g found any ask cmd)
share_guest plan g found any ask ctx.Hv cmd = share_hypervisor plan g any ask cmd
share_guest plan g found any ask (ctx.Uv (Inward move)) cmd = by_test (move.generation == g.part.generation) (is_last_sealed (g.part.pages move.gfn).sealed ask.hand) where
  by_test : (b last : Bool) → IsShare any None (if b then deed_page_in_test ask last else coming_back ask UParameter)
  by_test true true = (refl, tt)
  by_test true false = (refl, inr (inr refl))
  by_test false last = (refl, tt)
share_guest plan g found any ask (ctx.Uv (Outward move)) cmd = by_test (move.generation == g.part.generation) where
  by_test : (b : Bool) → IsShare any None (if b then giving (coming_back ask USuccess) 1 else coming_back ask UParameter)
  by_test true = (refl, inr (inr refl))
  by_test false = (refl, tt)
share_guest plan g found any ask (ctx.Uv work) cmd = (refl, tt)
share_guest plan g found any ask (ctx.Guest run) cmd = by_test (run.generation == g.part.generation) where
  by_test : (b : Bool) → IsShare any (if b then frame_running plan g.part cmd else None) (if b then deed_running plan run g found any ask cmd else deed_gone ask)
  by_test true = share_running plan run g found any ask cmd
  by_test false = (refl, tt)
