-- Law of answers: which answers each command can have in each context.
use Rattle.std.specs.Prelude.{◌≡◌, Bool, true, false, not, ◌&&◌, List}
use Rattle.pef_model.specs.declared.state.Move.{Move}
use Rattle.pef_model.specs.declared.state.Work.TheVariants.{Inward, Outward}
use Rattle.pef_model.specs.declared.state.Ctx.{Ctx}
use Rattle.pef_model.specs.declared.state.Ctx.TheVariants as ctx
use Rattle.pef_model.specs.declared.command.Code.{Code}
use Rattle.pef_model.specs.declared.command.Code.TheVariants.{USuccess, UParameter, UP2, UP3, UP4, UP5, UFunction, UBusy, UPermission, UInvalid, HSuccess, HUnsupported, HFunction, HHardware}
use Rattle.pef_model.specs.declared.command.Cmd.{Cmd}
use Rattle.pef_model.specs.declared.command.Cmd.TheVariants.{HLd, HSt, HSelect, HEnter, UPate, URegslot, UUnregslot, UPagein, UPageout, UInval, UReturn, GLi, GAdd, GXor, GLd, GSt, GHcall, GIrq, Dump}
use Rattle.pef_model.specs.declared.entry.Exit.TheVariants.{Normal, Irq, Hcall}
use Rattle.pef_model.specs.declared.entry.Answer.{Answer}
use Rattle.pef_model.specs.declared.entry.Answer.TheVariants.{Done, Val, Ret, Step, Enter, Exit, Again, Gone, Hole, Context}
use Rattle.pef_model.specs.Plan.{Plan}
use Rattle.pef_model.specs.Event.{Event}
use Rattle.pef_model.specs.History.{Extends}
use Rattle.pef_model.specs.Target.{is_command_in}

-- whether UV_REGISTER_MEM_SLOT can come back with a code
abbrev pub is_of_register : Code → Bool
is_of_register UParameter = true
is_of_register UP2 = true
is_of_register UP3 = true
is_of_register UP4 = true
is_of_register UP5 = true
is_of_register USuccess = true
is_of_register code = false

-- whether UV_PAGE_IN can come back at once with a code
abbrev pub is_of_page_in : Code → Bool
is_of_page_in UParameter = true
is_of_page_in UP2 = true
is_of_page_in UP3 = true
is_of_page_in UP4 = true
is_of_page_in UP5 = true
is_of_page_in UBusy = true
is_of_page_in code = false

-- whether UV_PAGE_OUT can come back at once with a code
abbrev pub is_of_page_out : Code → Bool
is_of_page_out UParameter = true
is_of_page_out UP2 = true
is_of_page_out UP3 = true
is_of_page_out UFunction = true
is_of_page_out UP4 = true
is_of_page_out UP5 = true
is_of_page_out USuccess = true
is_of_page_out UBusy = true
is_of_page_out code = false

-- whether a command of the hypervisor can have an answer
abbrev pub can_answer_hypervisor : Cmd → Answer → Bool
can_answer_hypervisor (HLd ra) (Val value) = true
can_answer_hypervisor (HLd ra) Hole = true
can_answer_hypervisor (HSt ra value) Done = true
can_answer_hypervisor (HSt ra value) Hole = true
can_answer_hypervisor (HSelect lpid vid) Done = true
can_answer_hypervisor (HSelect lpid vid) (Ret UParameter) = true
can_answer_hypervisor (HSelect lpid vid) (Ret UP2) = true
can_answer_hypervisor (HEnter lpid vid value) Enter = true
can_answer_hypervisor (HEnter lpid vid value) (Ret UParameter) = true
can_answer_hypervisor (HEnter lpid vid value) (Ret UP2) = true
can_answer_hypervisor (UPate lpid dw0 dw1) (Ret UParameter) = true
can_answer_hypervisor (UPate lpid dw0 dw1) (Ret UPermission) = true
can_answer_hypervisor (UPate lpid dw0 dw1) (Ret UP2) = true
can_answer_hypervisor (UPate lpid dw0 dw1) (Ret UP3) = true
can_answer_hypervisor (UPate lpid dw0 dw1) (Ret USuccess) = true
can_answer_hypervisor (URegslot lpid start size flags id) (Ret code) = is_of_register code
can_answer_hypervisor (UUnregslot lpid id) (Ret UParameter) = true
can_answer_hypervisor (UUnregslot lpid id) (Ret UP2) = true
can_answer_hypervisor (UUnregslot lpid id) (Ret USuccess) = true
can_answer_hypervisor (UPagein lpid src gpa flags order) Step = true
can_answer_hypervisor (UPagein lpid src gpa flags order) (Ret code) = is_of_page_in code
can_answer_hypervisor (UPageout lpid dest gpa flags order) Step = true
can_answer_hypervisor (UPageout lpid dest gpa flags order) (Ret code) = is_of_page_out code
can_answer_hypervisor (UInval lpid gpa order) (Ret UParameter) = true
can_answer_hypervisor (UInval lpid gpa order) (Ret UP2) = true
can_answer_hypervisor (UInval lpid gpa order) (Ret UP3) = true
can_answer_hypervisor (UInval lpid gpa order) (Ret USuccess) = true
can_answer_hypervisor (UReturn r0 r2 outs) Enter = true
can_answer_hypervisor (UReturn r0 r2 outs) (Ret UInvalid) = true
can_answer_hypervisor (Dump reg) (Val value) = true
can_answer_hypervisor cmd a = false

-- whether the next step of a page's move inward can have an answer: the copy goes on, and the end comes back
abbrev pub can_answer_inward : Move → Answer → Bool
can_answer_inward move Step = not move.copied
can_answer_inward move (Ret USuccess) = move.copied
can_answer_inward move (Ret UParameter) = move.copied
can_answer_inward move (Ret UP2) = move.copied
can_answer_inward move a = false

-- and of one outward
abbrev pub can_answer_outward : Move → Answer → Bool
can_answer_outward move Step = not move.copied
can_answer_outward move (Ret USuccess) = move.copied
can_answer_outward move (Ret UParameter) = move.copied
can_answer_outward move a = false

-- whether a command of a vCPU can have an answer: each answers Gone where its guest has ended
abbrev pub can_answer_vcpu : Cmd → Answer → Bool
can_answer_vcpu cmd Gone = true
can_answer_vcpu (UPate lpid dw0 dw1) (Ret UPermission) = true
can_answer_vcpu (URegslot lpid start size flags id) (Ret UPermission) = true
can_answer_vcpu (UUnregslot lpid id) (Ret UPermission) = true
can_answer_vcpu (UPagein lpid src gpa flags order) (Ret UPermission) = true
can_answer_vcpu (UPageout lpid dest gpa flags order) (Ret UPermission) = true
can_answer_vcpu (UInval lpid gpa order) (Ret UPermission) = true
can_answer_vcpu (UReturn r0 r2 outs) (Ret UInvalid) = true
can_answer_vcpu (GLi rd value) Done = true
can_answer_vcpu (GAdd rd ra rb) Done = true
can_answer_vcpu (GXor rd ra rb) Done = true
can_answer_vcpu (GLd rd gpa) (Val value) = true
can_answer_vcpu (GLd rd gpa) Hole = true
can_answer_vcpu (GLd rd gpa) Again = true
can_answer_vcpu (GSt rs gpa) Done = true
can_answer_vcpu (GSt rs gpa) Hole = true
can_answer_vcpu (GSt rs gpa) Again = true
can_answer_vcpu GHcall (Ret HSuccess) = true
can_answer_vcpu GHcall (Ret HUnsupported) = true
can_answer_vcpu GHcall (Ret HFunction) = true
can_answer_vcpu GHcall (Ret HHardware) = true
can_answer_vcpu GHcall (Exit Normal) = true
can_answer_vcpu GHcall (Exit (Hcall n)) = true
can_answer_vcpu GIrq (Exit Irq) = true
can_answer_vcpu GIrq (Exit Normal) = true
can_answer_vcpu (Dump reg) (Val value) = true
can_answer_vcpu cmd a = false

-- whether a command of its CPU's context can have an answer; no step of a guest's call is here yet
abbrev pub can_answer_in : Ctx → Cmd → Answer → Bool
can_answer_in ctx.Hv cmd a = can_answer_hypervisor cmd a
can_answer_in (ctx.Uv (Inward move)) cmd a = can_answer_inward move a
can_answer_in (ctx.Uv (Outward move)) cmd a = can_answer_outward move a
can_answer_in (ctx.Uv work) cmd a = false
can_answer_in (ctx.Guest run) cmd a = can_answer_vcpu cmd a

-- whether a command in a context can have an answer: one of another context Context alone
abbrev pub can_answer : Ctx → Cmd → Answer → Bool
can_answer before cmd Context = not (is_command_in before cmd)
can_answer before cmd a = is_command_in before cmd && can_answer_in before cmd a

-- each entry of a history has an answer of its command in its context
abbrev pub EachAnswerIsOfItsRow : Type 0
EachAnswerIsOfItsRow = (plan : Plan) (past : List Event) (e : Event) → Extends plan past e → can_answer e.saw.before e.trace.cmd e.trace.answer ≡ true
