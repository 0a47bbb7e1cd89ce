-- What a step does, row by row: its answer, and what it shows.
use Rattle.std.specs.Prelude.{ℕ, ◌==◌, nat_lt, nat_le, Bool, true, false, not, ◌&&◌, if◌then◌else◌, List, [], ◌∷◌, Option, Some, None, slice_index}
use Rattle.pef_model.specs.declared.state.Phase.{Phase}
use Rattle.pef_model.specs.declared.state.Phase.TheVariants as phase
use Rattle.pef_model.specs.declared.state.Pending.TheVariants as pending
use Rattle.pef_model.specs.declared.state.VState.{VState}
use Rattle.pef_model.specs.declared.state.VState.TheVariants as vstate
use Rattle.pef_model.specs.declared.state.Run.{Run}
use Rattle.pef_model.specs.declared.state.Move.{Move}
use Rattle.pef_model.specs.declared.state.Work.{Work}
use Rattle.pef_model.specs.declared.state.Work.TheVariants.{Inward, Outward}
use Rattle.pef_model.specs.declared.state.Ctx.{Ctx}
use Rattle.pef_model.specs.declared.state.Ctx.TheVariants as ctx
use Rattle.pef_model.specs.declared.command.Code.{Code}
use Rattle.pef_model.specs.declared.command.Code.TheVariants.{USuccess, UParameter, UP2, UBusy, UPermission, UInvalid, HSuccess, HUnsupported, HFunction, HHardware}
use Rattle.pef_model.specs.declared.command.Cmd.{Cmd}
use Rattle.pef_model.specs.declared.command.Cmd.TheVariants.{HLd, HSt, HSelect, HEnter, UPate, URegslot, UUnregslot, UPagein, UPageout, UInval, UReturn, GLi, GAdd, GXor, GLd, GSt, GHcall, GIrq, Dump}
use Rattle.pef_model.specs.declared.hypercall.TheConstants.{HCALLS}
use Rattle.pef_model.specs.declared.hypercall.Row.{Row}
use Rattle.pef_model.specs.declared.hypercall.RowKind.{RowKind}
use Rattle.pef_model.specs.declared.hypercall.RowKind.TheVariants.{Reflected, Local, Svm}
use Rattle.pef_model.specs.declared.entry.Exit.TheVariants as exit
use Rattle.pef_model.specs.declared.entry.Answer.{Answer}
use Rattle.pef_model.specs.declared.entry.Answer.TheVariants as answer
use Rattle.pef_model.specs.declared.entry.PoolSaw.{PoolSaw}
use Rattle.pef_model.specs.Plan.{Plan}
use Rattle.pef_model.specs.Target.{Ask, shows_register, frame_of}
use Rattle.pef_model.specs.GuestPart.{GuestPart, Meeting, Moves, Private, Normal, Unbacked, meets, page_of, call_of_state}
use Rattle.pef_model.specs.Guest.{Guest}
use Rattle.pef_model.specs.Registers.{Call, call_of, arguments}
use Rattle.pef_model.specs.Hypercalls.{row_of, let_out_by}
use Rattle.pef_model.specs.Memory.{offset_of}
use Rattle.pef_model.specs.PageOut.{page_out_code, bytes_out}
use Rattle.pef_model.specs.PageIn.{page_in_operands, is_last_sealed}
use Rattle.pef_model.specs.PageInval.{page_inval_code}
use Rattle.pef_model.specs.Entry.{write_code, enter_code}
use Rattle.pef_model.specs.SlotCalls.{register_code, unregister_code}
use Rattle.pef_model.specs.Seal.{doublewords}
use Rattle.pef_model.specs.Doubleword.{doubleword}

-- what a step does at its target: the answer, the context after it, the values that the guest lets out, the pool, the frame, the bytes
pub record Deed : Type 0 where
  pub answer : Answer
  pub after : Ctx
  pub shown : List ℕ
  pub pool : Option PoolSaw
  pub frame : Option ℕ
  pub bytes : List ℕ

-- a step that answers and leaves the CPU's context
abbrev pub answering : Ask → Answer → Deed
answering ask a = record { answer = a; after = ask.before; shown = []; pool = None; frame = None; bytes = [] }

-- a step that takes a free frame, or finds none
abbrev pub taking : Deed → Bool → Deed
taking deed true = record deed { pool = Some (record { any = true; taken = 1; given = 0 }) }
taking deed false = record deed { pool = Some (record { any = false; taken = 0; given = 0 }) }

-- a step that gives frames back
abbrev pub giving : Deed → ℕ → Deed
giving deed count = record deed { pool = Some (record { any = false; taken = 0; given = count }) }

-- a vCPU is selected where there is one of that number
abbrev pub answer_select : Plan → ℕ → ℕ → Answer
answer_select plan lpid vid =
    if not (nat_le 1 lpid && nat_le lpid plan.guests) then answer.Ret UParameter
    else if not (nat_lt vid plan.vcpus) then answer.Ret UP2
    else answer.Done

-- the hypervisor's load or store that has no frame is Hole, what it names that is no guest U_PARAMETER; every other command that aims at nothing is one of another context
abbrev pub answer_alone : Plan → Ctx → Cmd → Answer
answer_alone plan ctx.Hv (HLd ra) = answer.Hole
answer_alone plan ctx.Hv (HSt ra value) = answer.Hole
answer_alone plan ctx.Hv (HSelect lpid vid) = answer_select plan lpid vid
answer_alone plan ctx.Hv (HEnter lpid vid value) = answer.Ret UParameter
answer_alone plan ctx.Hv (UPate lpid dw0 dw1) = answer.Ret UParameter
answer_alone plan ctx.Hv (URegslot lpid start size flags id) = answer.Ret UParameter
answer_alone plan ctx.Hv (UUnregslot lpid id) = answer.Ret UParameter
answer_alone plan ctx.Hv (UPagein lpid src gpa flags order) = answer.Ret UParameter
answer_alone plan ctx.Hv (UPageout lpid dest gpa flags order) = answer.Ret UParameter
answer_alone plan ctx.Hv (UInval lpid gpa order) = answer.Ret UParameter
answer_alone plan before cmd = answer.Context

-- a command that aims at nothing: one that shows a register gives its value
abbrev pub deed_alone : Plan → Ask → Cmd → Deed
deed_alone plan ask cmd = answering ask (if shows_register ask.before cmd then answer.Val ask.register else answer_alone plan ask.before cmd)

-- the answer of the hypervisor's load or store in a normal frame with these bytes
abbrev pub answer_frame : Plan → List ℕ → Cmd → Answer
answer_frame plan bytes (HLd ra) = answer.Val (doubleword bytes (offset_of plan ra))
answer_frame plan bytes (HSt ra value) = answer.Done
answer_frame plan bytes cmd = answer.Context

-- the hypervisor's command at a normal frame
abbrev pub deed_address : Plan → ℕ → List ℕ → Ask → Cmd → Deed
deed_address plan n bytes ask cmd = record (answering ask (answer_frame plan bytes cmd)) { frame = Some n }

-- the copy of a page-out: the hand is written into the normal frame, whatever has become of the guest
abbrev pub deed_page_out_copy : Move → ℕ → Ask → Deed
deed_page_out_copy move n ask = record (answering ask answer.Step) { after = ctx.Uv (Outward (record move { copied = true })); frame = Some n; bytes = ask.hand }

-- the copy of a page-in: the normal frame is read into the hand, once
abbrev pub deed_page_in_copy : Move → ℕ → List ℕ → Ask → Deed
deed_page_in_copy move n bytes ask = record (answering ask answer.Step) { after = ctx.Uv (Inward (record move { copied = true })); frame = Some n; bytes = bytes }

-- a step of a call in progress at a normal frame with these bytes: a page's move is copied, and no guest's call aims there
abbrev pub deed_copy : Work → ℕ → List ℕ → Ask → Deed
deed_copy (Inward move) n bytes ask = deed_page_in_copy move n bytes ask
deed_copy (Outward move) n bytes ask = deed_page_out_copy move n ask
deed_copy work n bytes ask = answering ask answer.Context

-- a command at a normal frame with these bytes, by the CPU's context
abbrev pub deed_frame_in : Ctx → Plan → ℕ → List ℕ → Ask → Cmd → Deed
deed_frame_in ctx.Hv plan n bytes ask cmd = deed_address plan n bytes ask cmd
deed_frame_in (ctx.Uv work) plan n bytes ask cmd = deed_copy work n bytes ask
deed_frame_in (ctx.Guest run) plan n bytes ask cmd = answering ask answer.Context

-- a command at a normal frame with these bytes
abbrev pub deed_frame : Plan → ℕ → List ℕ → Ask → Cmd → Deed
deed_frame plan n bytes ask cmd = deed_frame_in ask.before plan n bytes ask cmd

-- a page-out begins: the page is in the hand, sealed, and its CPU has the call in progress
abbrev pub deed_page_out_begin : Plan → Guest → Ask → ℕ → ℕ → ℕ → Deed
deed_page_out_begin plan g ask lpid dest gpa = record (answering ask answer.Step) {
  after = ctx.Uv (Outward (record { lpid = lpid; generation = g.part.generation; gfn = page_of plan gpa; frame = frame_of plan dest; copied = false }));
  bytes = bytes_out g.part.phase plan g lpid (page_of plan gpa);
}

-- a call that comes back at once with a code, or else does this
abbrev pub returning : Ask → Option Code → Deed → Deed
returning ask None deed = deed
returning ask (Some code) deed = answering ask (answer.Ret code)

-- UV_PAGE_OUT of the hypervisor
abbrev pub deed_page_out : Plan → Guest → Ask → ℕ → ℕ → ℕ → ℕ → ℕ → Deed
deed_page_out plan g ask lpid dest gpa flags order = returning ask (page_out_code plan g.part dest gpa flags order) (deed_page_out_begin plan g ask lpid dest gpa)

-- a page-in begins: it takes a free frame, and its CPU has the call in progress
abbrev pub deed_page_in_begin : Plan → GuestPart → Ask → ℕ → ℕ → ℕ → Deed
deed_page_in_begin plan g ask lpid src gpa = taking (record (answering ask answer.Step) {
  after = ctx.Uv (Inward (record { lpid = lpid; generation = g.generation; gfn = page_of plan gpa; frame = frame_of plan src; copied = false }));
}) true

-- a page-in whose operands are right begins where a frame is free; any: one is
abbrev pub deed_page_in_with : Plan → GuestPart → Ask → ℕ → ℕ → ℕ → Bool → Deed
deed_page_in_with plan g ask lpid src gpa true = deed_page_in_begin plan g ask lpid src gpa
deed_page_in_with plan g ask lpid src gpa false = taking (answering ask (answer.Ret UBusy)) false

-- UV_PAGE_IN of the hypervisor
abbrev pub deed_page_in : Plan → GuestPart → Bool → Ask → ℕ → ℕ → ℕ → ℕ → ℕ → Deed
deed_page_in plan g any ask lpid src gpa flags order = returning ask (page_in_operands plan g src gpa flags order) (deed_page_in_with plan g ask lpid src gpa any)

-- a call in progress comes back to the hypervisor with a code; its bytes are the hand
abbrev pub coming_back : Ask → Code → Deed
coming_back ask code = record (answering ask (answer.Ret code)) { after = ctx.Hv; bytes = ask.hand }

-- the end of a page-out: the secure frame goes back, unless the guest has ended
abbrev pub deed_page_out_end : GuestPart → Ask → Move → Deed
deed_page_out_end g ask move = if move.generation == g.generation then giving (coming_back ask USuccess) 1 else coming_back ask UParameter

-- the end of a page-in under the guest's generation: the page is Secure where the hand has what was last sealed of it, and else the frame goes back
abbrev pub deed_page_in_test : Ask → Bool → Deed
deed_page_in_test ask true = coming_back ask USuccess
deed_page_in_test ask false = giving (coming_back ask UP2) 1

-- the end of a page-in
abbrev pub deed_page_in_end : GuestPart → Ask → Move → Deed
deed_page_in_end g ask move = if move.generation == g.generation then deed_page_in_test ask (is_last_sealed (g.pages move.gfn).sealed ask.hand) else coming_back ask UParameter

-- a guest whose generation is another by now lets nothing out, and the hypervisor runs
abbrev pub deed_gone : Ask → Deed
deed_gone ask = record (answering ask answer.Gone) { after = ctx.Hv }

-- a step of a call in progress at a guest: a page's move ends, and no step of a guest's call is here yet; found: the doubleword at an offset of a normal frame
abbrev pub deed_work : Plan → Work → Guest → (ℕ → ℕ → ℕ) → Ask → Deed
deed_work plan (Inward move) g found ask = deed_page_in_end g.part ask move
deed_work plan (Outward move) g found ask = deed_page_out_end g.part ask move
deed_work plan work g found ask = answering ask answer.Context

-- whether UV_RETURN may take up a vCPU in this phase
abbrev pub may_return_in : Phase → Bool
may_return_in phase.Absent = false
may_return_in phase.Normal = false
may_return_in phase.Starting = true
may_return_in phase.Secure = true
may_return_in phase.Aborting = false

-- whether UV_RETURN takes up a vCPU in this state: one that hasn't run, or has left a secure guest
abbrev pub is_waiting : VState → Bool
is_waiting vstate.Idle = false
is_waiting vstate.Fresh = true
is_waiting (vstate.Running cpu) = false
is_waiting (vstate.Parked pending.Exit) = false
is_waiting (vstate.Parked waits) = true

-- the context in which a vCPU goes on that UV_RETURN takes up: in the call in which it waits, and as a guest where it waits in none
abbrev pub returned_in : Option (Run → Work) → Run → Ctx
returned_in None run = ctx.Guest run
returned_in (Some call) run = ctx.Uv (call run)

-- the same, of a vCPU in this state
abbrev pub taken_up_in : VState → Run → Ctx
taken_up_in state run = returned_in (call_of_state state) run

-- UV_RETURN of the hypervisor: the selected vCPU goes on, if it waits in a Secure or Starting guest
abbrev pub deed_return : GuestPart → Ask → Deed
deed_return g ask =
    if may_return_in g.phase && is_waiting (g.vcpus ask.vid).state
    then record (answering ask answer.Enter) { after = taken_up_in (g.vcpus ask.vid).state (record { lpid = ask.lpid; vid = ask.vid; generation = g.generation }) }
    else answering ask (answer.Ret UInvalid)

-- UV_WRITE_PATE of the hypervisor
abbrev pub deed_write : Plan → GuestPart → Ask → ℕ → ℕ → Deed
deed_write plan g ask dw0 dw1 = answering ask (answer.Ret (write_code plan g dw0 dw1))

-- h.enter: the vCPU runs, if it is one of a guest in normal memory that hasn't run or waits
abbrev pub deed_enter : Plan → GuestPart → Ask → ℕ → ℕ → Deed
deed_enter plan g ask lpid vid =
    returning ask (enter_code plan g vid) (record (answering ask answer.Enter) { after = ctx.Guest (record { lpid = lpid; vid = vid; generation = g.generation }) })

-- an access in a normal frame: it lets out what it stores, which is its bytes
abbrev pub deed_through : Ask → Answer → List ℕ → ℕ → Deed
deed_through ask a shown n = record (answering ask a) { shown = shown; frame = Some n; bytes = doublewords shown }

-- an access that backs its page where a frame is free
abbrev pub deed_backing : Ask → Answer → Bool → Deed
deed_backing ask success true = taking (answering ask success) true
deed_backing ask success false = taking (answering ask answer.Hole) false

-- an access by what it meets, with its answers where it is done in a page of the guest's own and in a normal frame, and what it lets out there; any: a secure frame is free
abbrev pub deed_access : Ask → Answer → (ℕ → Answer) → List ℕ → Bool → Meeting → Deed
deed_access ask success through shown any Private = answering ask success
deed_access ask success through shown any Unbacked = deed_backing ask success any
deed_access ask success through shown any Moves = answering ask answer.Again
deed_access ask success through shown any (Normal n) = deed_through ask (through n) shown n
deed_access ask success through shown any met = answering ask answer.Hole

-- an interrupt takes the guest from the CPU: one in normal memory lets all its registers out, and every other nothing
abbrev pub deed_interrupt : Phase → List ℕ → Ask → Deed
deed_interrupt phase.Normal gpr ask = record (answering ask (answer.Exit exit.Normal)) { after = ctx.Hv; shown = gpr }
deed_interrupt other gpr ask = record (answering ask (answer.Exit exit.Irq)) { after = ctx.Hv }

-- a hypercall that is answered at once lets its number out
abbrev pub deed_answered : Ask → List ℕ → Code → Deed
deed_answered ask gpr code = record (answering ask (answer.Ret code)) { shown = slice_index gpr 3 ∷ [] }

-- the code with which H_RANDOM comes back, by the number of entropy words that the guest has left
abbrev pub random_code : ℕ → Code
random_code words = if words == 0 then HHardware else HSuccess

-- a hypercall of a row, by who answers it: one that the hypervisor answers leaves with its number and its inputs, and H_RANDOM lets no word out
abbrev pub deed_by_kind : ℕ → RowKind → Ask → List ℕ → Row → Deed
deed_by_kind words Reflected ask gpr row = record (answering ask (answer.Exit (exit.Hcall row.number))) { after = ctx.Hv; shown = let_out_by row gpr }
deed_by_kind words Local ask gpr row = deed_answered ask gpr (random_code words)
deed_by_kind words Svm ask gpr row = deed_answered ask gpr HUnsupported

-- a hypercall of a number that has a row, or none
abbrev pub deed_by_row : ℕ → Ask → List ℕ → Option Row → Deed
deed_by_row words ask gpr (Some row) = deed_by_kind words row.kind ask gpr row
deed_by_row words ask gpr None = deed_answered ask gpr HFunction

-- a hypercall by the guest's phase: of one in normal memory all registers leave, and of every other what the row of the number in R3 says
abbrev pub deed_hypercall : ℕ → Phase → List ℕ → Ask → Deed
deed_hypercall words phase.Normal gpr ask = record (answering ask (answer.Exit exit.Normal)) { after = ctx.Hv; shown = gpr }
deed_hypercall words other gpr ask = deed_by_row words ask gpr (row_of HCALLS (slice_index gpr 3))

-- the code with which a call of a guest is refused that is the hypervisor's: UV_RETURN takes up no vCPU there, and a guest has no right to the others
abbrev pub refused_with : Cmd → Code
refused_with (UReturn r0 r2 outs) = UInvalid
refused_with cmd = UPermission

-- a call of a guest that is the hypervisor's is refused, and lets its arguments out; every other command is one of another context
abbrev pub deed_refused : Ask → Cmd → Option Call → Deed
deed_refused ask cmd None = answering ask answer.Context
deed_refused ask cmd (Some call) = record (answering ask (answer.Ret (refused_with cmd))) { shown = arguments cmd }

-- a command of the vCPU that runs; found: the doubleword at an offset of a normal frame; any: a secure frame is free
abbrev pub deed_running : Plan → Run → Guest → (ℕ → ℕ → ℕ) → Bool → Ask → Cmd → Deed
deed_running plan run g found any ask (GLi rd value) = answering ask answer.Done
deed_running plan run g found any ask (GAdd rd ra rb) = answering ask answer.Done
deed_running plan run g found any ask (GXor rd ra rb) = answering ask answer.Done
deed_running plan run g found any ask (GLd rd gpa) = deed_access ask (answer.Val (g.content gpa)) (λ n. answer.Val (found n (offset_of plan gpa))) [] any (meets plan g.part gpa)
deed_running plan run g found any ask (GSt rs gpa) = deed_access ask answer.Done (λ n. answer.Done) (slice_index (g.registers run.vid).gpr rs ∷ []) any (meets plan g.part gpa)
deed_running plan run g found any ask GHcall = deed_hypercall g.part.words g.part.phase (g.registers run.vid).gpr ask
deed_running plan run g found any ask GIrq = deed_interrupt g.part.phase (g.registers run.vid).gpr ask
deed_running plan run g found any ask (Dump reg) = answering ask (answer.Val (slice_index (g.registers run.vid).gpr reg))
deed_running plan run g found any ask cmd = deed_refused ask cmd (call_of cmd)

-- a command of the hypervisor at a guest
abbrev pub deed_hypervisor : Plan → Guest → Bool → Ask → Cmd → Deed
deed_hypervisor plan g any ask (HEnter lpid vid value) = deed_enter plan g.part ask lpid vid
deed_hypervisor plan g any ask (UPate lpid dw0 dw1) = deed_write plan g.part ask dw0 dw1
deed_hypervisor plan g any ask (URegslot lpid start size flags id) = answering ask (answer.Ret (register_code plan g.part start size flags id))
deed_hypervisor plan g any ask (UUnregslot lpid id) = answering ask (answer.Ret (unregister_code g.part id))
deed_hypervisor plan g any ask (UPagein lpid src gpa flags order) = deed_page_in plan g.part any ask lpid src gpa flags order
deed_hypervisor plan g any ask (UPageout lpid dest gpa flags order) = deed_page_out plan g ask lpid dest gpa flags order
deed_hypervisor plan g any ask (UInval lpid gpa order) = answering ask (answer.Ret (page_inval_code plan g.part gpa order))
deed_hypervisor plan g any ask (UReturn r0 r2 outs) = deed_return g.part ask
deed_hypervisor plan g any ask cmd = answering ask answer.Context

-- a command at a guest, by the CPU's context
abbrev pub deed_guest_in : Ctx → Plan → Guest → (ℕ → ℕ → ℕ) → Bool → Ask → Cmd → Deed
deed_guest_in ctx.Hv plan g found any ask cmd = deed_hypervisor plan g any ask cmd
deed_guest_in (ctx.Uv work) plan g found any ask cmd = deed_work plan work g found ask
deed_guest_in (ctx.Guest run) plan g found any ask cmd = if run.generation == g.part.generation then deed_running plan run g found any ask cmd else deed_gone ask

-- a command at a guest; found: the doubleword at an offset of a normal frame; any: a secure frame is free
abbrev pub deed_guest : Plan → Guest → (ℕ → ℕ → ℕ) → Bool → Ask → Cmd → Deed
deed_guest plan g found any ask cmd = deed_guest_in ask.before plan g found any ask cmd
