-- What each step's answer tells of the rest of its entry.
use Rattle.std.proofs.Common.{◌≡◌, ℕ, List, [], ◌∷◌, Bool, true, false, refl, sym, subst, ◌==◌, ◌&&◌, if◌then◌else◌, nat_le, nat_lt, Option, Some, None, slice_index, arith}
use Rattle.std.proofs.lemmas.Grind.{common_steps}
use Rattle.pef_model.specs.declared.state.Phase.{Phase}
use Rattle.pef_model.specs.declared.state.Phase.TheVariants as phase
use Rattle.pef_model.specs.declared.state.Run.{Run}
use Rattle.pef_model.specs.declared.state.Move.{Move}
use Rattle.pef_model.specs.declared.state.Work.{Work}
use Rattle.pef_model.specs.declared.state.Work.TheVariants.{Inward, Outward}
use Rattle.pef_model.specs.declared.state.Ctx.{Ctx}
use Rattle.pef_model.specs.declared.state.Ctx.TheVariants as ctx
use Rattle.pef_model.specs.declared.command.Code.{Code}
use Rattle.pef_model.specs.declared.command.Code.TheVariants.{USuccess, UParameter, UInvalid}
use Rattle.pef_model.specs.declared.command.Cmd.{Cmd}
use Rattle.pef_model.specs.declared.command.Cmd.TheVariants.{HLd, HSt, HSelect, HEnter, UPate, URegslot, UUnregslot, UPagein, UPageout, UInval, UReturn, GLi, GAdd, GXor, GLd, GSt, GHcall, GIrq, Go, Dump}
use Rattle.pef_model.specs.declared.entry.Exit.TheVariants as exit
use Rattle.pef_model.specs.declared.entry.Answer.{Answer}
use Rattle.pef_model.specs.declared.entry.Answer.TheVariants.{Done, Val, Ret, Step, Enter, Exit, Again, Gone, Hole, Context}
use Rattle.pef_model.specs.Memory.{offset_of}
use Rattle.pef_model.specs.Plan.{Plan}
use Rattle.pef_model.specs.Event.{Event, Mark, mark_of}
use Rattle.pef_model.specs.Target.{Ask, Alone, AtGuest, AtFrame, frame_of, has_real_place, target_in}
use Rattle.pef_model.specs.GuestPart.{GuestPart, Meeting, Moves, Private, Normal, Unbacked, meets}
use Rattle.pef_model.specs.Guest.{Guest}
use Rattle.pef_model.specs.PageOut.{page_out_code}
use Rattle.pef_model.specs.PageIn.{page_in_operands, is_last_sealed}
use Rattle.pef_model.specs.Entry.{enter_code}
use Rattle.pef_model.specs.Deed.{Deed, answering, deed_alone, giving, coming_back, returning, may_return_in, is_waiting, deed_page_out_begin, deed_page_in_with, deed_page_in_test, deed_return, deed_access, deed_through, deed_interrupt, deed_running, deed_gone, deed_hypercall, deed_by_row, deed_by_kind, taken_up_in}
use Rattle.pef_model.specs.History.{cpu_after, guest_after, pool_after, deed_after, ask_of, next_entry, Extends, found_after}
use Rattle.pef_model.specs.declared.hypercall.Row.{Row}
use Rattle.pef_model.specs.declared.hypercall.RowKind.{RowKind}
use Rattle.pef_model.specs.declared.hypercall.RowKind.TheVariants.{Reflected}
use Rattle.pef_model.specs.declared.hypercall.TheConstants.{HCALLS}
use Rattle.pef_model.specs.Hypercalls.{row_of}

-- a context in which a page of this guest has begun to move outward
abbrev pub Begins : ℕ → Ctx → Type 0
Begins lpid (ctx.Uv (Outward move)) = (move.lpid ≡ lpid) × (move.copied ≡ false)
Begins lpid other = ⊥

-- a context in which a page of this guest has begun to move inward
abbrev pub BeginsIn : ℕ → Ctx → Type 0
BeginsIn lpid (ctx.Uv (Inward move)) = (move.lpid ≡ lpid) × (move.copied ≡ false)
BeginsIn lpid other = ⊥

-- the answers that a step can give, each with the context after it, and where no vCPU runs that it lets nothing out
abbrev pub Outcome : Ctx → Cmd → Answer → Ctx → List ℕ → Type 0
Outcome ctx.Hv (HLd ra) (Val value) after shown = (after ≡ ctx.Hv) × (shown ≡ [])
Outcome ctx.Hv (HLd ra) Hole after shown = (after ≡ ctx.Hv) × (shown ≡ [])
Outcome ctx.Hv (HLd ra) a after shown = ⊥
Outcome ctx.Hv (HSt ra value) Done after shown = (after ≡ ctx.Hv) × (shown ≡ [])
Outcome ctx.Hv (HSt ra value) Hole after shown = (after ≡ ctx.Hv) × (shown ≡ [])
Outcome ctx.Hv (HSt ra value) a after shown = ⊥
Outcome ctx.Hv (HSelect lpid vid) Done after shown = (after ≡ ctx.Hv) × (shown ≡ [])
Outcome ctx.Hv (HSelect lpid vid) (Ret code) after shown = (after ≡ ctx.Hv) × (shown ≡ [])
Outcome ctx.Hv (HSelect lpid vid) a after shown = ⊥
Outcome ctx.Hv (HEnter lpid vid value) Enter after shown = shown ≡ []
Outcome ctx.Hv (HEnter lpid vid value) (Ret code) after shown = (after ≡ ctx.Hv) × (shown ≡ [])
Outcome ctx.Hv (HEnter lpid vid value) a after shown = ⊥
Outcome ctx.Hv (UPate lpid dw0 dw1) (Ret code) after shown = (after ≡ ctx.Hv) × (shown ≡ [])
Outcome ctx.Hv (UPate lpid dw0 dw1) a after shown = ⊥
Outcome ctx.Hv (URegslot lpid start size flags id) (Ret code) after shown = (after ≡ ctx.Hv) × (shown ≡ [])
Outcome ctx.Hv (URegslot lpid start size flags id) a after shown = ⊥
Outcome ctx.Hv (UUnregslot lpid id) (Ret code) after shown = (after ≡ ctx.Hv) × (shown ≡ [])
Outcome ctx.Hv (UUnregslot lpid id) a after shown = ⊥
Outcome ctx.Hv (UPagein lpid src gpa flags order) Step after shown = BeginsIn lpid after × (shown ≡ [])
Outcome ctx.Hv (UPagein lpid src gpa flags order) (Ret code) after shown = (after ≡ ctx.Hv) × (shown ≡ [])
Outcome ctx.Hv (UPagein lpid src gpa flags order) a after shown = ⊥
Outcome ctx.Hv (UPageout lpid dest gpa flags order) Step after shown = Begins lpid after × (shown ≡ [])
Outcome ctx.Hv (UPageout lpid dest gpa flags order) (Ret code) after shown = (after ≡ ctx.Hv) × (shown ≡ [])
Outcome ctx.Hv (UPageout lpid dest gpa flags order) a after shown = ⊥
Outcome ctx.Hv (UInval lpid gpa order) (Ret code) after shown = (after ≡ ctx.Hv) × (shown ≡ [])
Outcome ctx.Hv (UInval lpid gpa order) a after shown = ⊥
Outcome ctx.Hv (UReturn r0 r2 outs) Enter after shown = shown ≡ []
Outcome ctx.Hv (UReturn r0 r2 outs) (Ret code) after shown = (after ≡ ctx.Hv) × (shown ≡ [])
Outcome ctx.Hv (UReturn r0 r2 outs) a after shown = ⊥
Outcome ctx.Hv (Dump reg) (Val value) after shown = (after ≡ ctx.Hv) × (shown ≡ [])
Outcome ctx.Hv (Dump reg) a after shown = ⊥
Outcome ctx.Hv cmd Context after shown = (after ≡ ctx.Hv) × (shown ≡ [])
Outcome ctx.Hv cmd a after shown = ⊥
Outcome (ctx.Uv (Inward move)) Go Step after shown = (after ≡ ctx.Uv (Inward (record move { copied = true }))) × (shown ≡ [])
Outcome (ctx.Uv (Inward move)) Go (Ret code) after shown = (after ≡ ctx.Hv) × (shown ≡ [])
Outcome (ctx.Uv (Inward move)) Go a after shown = ⊥
Outcome (ctx.Uv (Outward move)) Go Step after shown = (after ≡ ctx.Uv (Outward (record move { copied = true }))) × (shown ≡ [])
Outcome (ctx.Uv (Outward move)) Go (Ret code) after shown = (after ≡ ctx.Hv) × (shown ≡ [])
Outcome (ctx.Uv (Outward move)) Go a after shown = ⊥
Outcome (ctx.Uv work) cmd Context after shown = (after ≡ ctx.Uv work) × (shown ≡ [])
Outcome (ctx.Uv work) cmd a after shown = ⊥
Outcome (ctx.Guest run) (HLd ra) Context after shown = after ≡ ctx.Guest run
Outcome (ctx.Guest run) (HLd ra) a after shown = ⊥
Outcome (ctx.Guest run) (HSt ra value) Context after shown = after ≡ ctx.Guest run
Outcome (ctx.Guest run) (HSt ra value) a after shown = ⊥
Outcome (ctx.Guest run) (HSelect lpid vid) Context after shown = after ≡ ctx.Guest run
Outcome (ctx.Guest run) (HSelect lpid vid) a after shown = ⊥
Outcome (ctx.Guest run) (HEnter lpid vid value) Context after shown = after ≡ ctx.Guest run
Outcome (ctx.Guest run) (HEnter lpid vid value) a after shown = ⊥
Outcome (ctx.Guest run) Go Context after shown = after ≡ ctx.Guest run
Outcome (ctx.Guest run) Go a after shown = ⊥
Outcome (ctx.Guest run) cmd Gone after shown = after ≡ ctx.Hv
Outcome (ctx.Guest run) (UPate lpid dw0 dw1) (Ret code) after shown = after ≡ ctx.Guest run
Outcome (ctx.Guest run) (URegslot lpid start size flags id) (Ret code) after shown = after ≡ ctx.Guest run
Outcome (ctx.Guest run) (UUnregslot lpid id) (Ret code) after shown = after ≡ ctx.Guest run
Outcome (ctx.Guest run) (UPagein lpid src gpa flags order) (Ret code) after shown = after ≡ ctx.Guest run
Outcome (ctx.Guest run) (UPageout lpid dest gpa flags order) (Ret code) after shown = after ≡ ctx.Guest run
Outcome (ctx.Guest run) (UInval lpid gpa order) (Ret code) after shown = after ≡ ctx.Guest run
Outcome (ctx.Guest run) (UReturn r0 r2 outs) (Ret code) after shown = after ≡ ctx.Guest run
Outcome (ctx.Guest run) (GLi rd value) Done after shown = after ≡ ctx.Guest run
Outcome (ctx.Guest run) (GAdd rd ra rb) Done after shown = after ≡ ctx.Guest run
Outcome (ctx.Guest run) (GXor rd ra rb) Done after shown = after ≡ ctx.Guest run
Outcome (ctx.Guest run) (GLd rd gpa) (Val value) after shown = after ≡ ctx.Guest run
Outcome (ctx.Guest run) (GLd rd gpa) Hole after shown = after ≡ ctx.Guest run
Outcome (ctx.Guest run) (GLd rd gpa) Again after shown = after ≡ ctx.Guest run
Outcome (ctx.Guest run) (GSt rs gpa) Done after shown = after ≡ ctx.Guest run
Outcome (ctx.Guest run) (GSt rs gpa) Hole after shown = after ≡ ctx.Guest run
Outcome (ctx.Guest run) (GSt rs gpa) Again after shown = after ≡ ctx.Guest run
Outcome (ctx.Guest run) GHcall (Ret code) after shown = after ≡ ctx.Guest run
Outcome (ctx.Guest run) GHcall (Exit why) after shown = after ≡ ctx.Hv
Outcome (ctx.Guest run) GIrq (Exit exit.Normal) after shown = after ≡ ctx.Hv
Outcome (ctx.Guest run) GIrq (Exit exit.Irq) after shown = after ≡ ctx.Hv
Outcome (ctx.Guest run) (Dump reg) (Val value) after shown = after ≡ ctx.Guest run
Outcome (ctx.Guest run) cmd a after shown = ⊥

-- the deed of a step has such an outcome
abbrev Comes : Ctx → Cmd → Deed → Type 0
Comes c cmd deed = Outcome c cmd deed.answer deed.after deed.shown

access_comes : (run : Run) (ask : Ask) (cmd : Cmd) (success : Answer) (through : ℕ → Answer) (out : List ℕ) (any : Bool) (m : Meeting) → Comes (ctx.Guest run) cmd (answering ask success) →
    ((n : ℕ) → Comes (ctx.Guest run) cmd (deed_through ask (through n) out n)) → Comes (ctx.Guest run) cmd (answering ask Hole) → Comes (ctx.Guest run) cmd (answering ask Again) →
    Comes (ctx.Guest run) cmd (deed_access ask success through out any m)
access_comes run ask cmd success through out true Unbacked done written hole again = done
access_comes run ask cmd success through out false Unbacked done written hole again = hole
access_comes run ask cmd success through out any Private done written hole again = done
access_comes run ask cmd success through out any Moves done written hole again = again
access_comes run ask cmd success through out any (Normal n) done written hole again = written n
access_comes run ask cmd success through out any m done written hole again = hole

interrupt_comes : (run : Run) (ask : Ask) (p : Phase) (gpr : List ℕ) → Comes (ctx.Guest run) GIrq (deed_interrupt p gpr ask)
interrupt_comes run ask p gpr = grind (arith, common_steps)

-- a hypercall leaves, or is answered
call_comes : (words : ℕ) (run : Run) (ask : Ask) (p : Phase) (gpr : List ℕ) → ask.before ≡ ctx.Guest run → Comes (ctx.Guest run) GHcall (deed_hypercall words p gpr ask)
call_comes words run ask phase.Normal gpr h = refl
call_comes words run ask p gpr h = by_row (row_of HCALLS (slice_index gpr 3)) where
  by_kind : (kind : RowKind) (row : Row) → Comes (ctx.Guest run) GHcall (deed_by_kind words kind ask gpr row)
  by_kind Reflected row = refl
  by_kind kind row = h

  by_row : (row : Option Row) → Comes (ctx.Guest run) GHcall (deed_by_row words ask gpr row)
  by_row (Some row) = by_kind row.kind row
  by_row None = h

running_comes : (plan : Plan) (g : Guest) (found : ℕ → ℕ → ℕ) (any : Bool) (run : Run) (ask : Ask) (cmd : Cmd) → ask.before ≡ ctx.Guest run →
    Comes (ctx.Guest run) cmd (deed_running plan run g found any ask cmd)
running_comes plan g found any run ask (GLd rd gpa) h = access_comes run ask (GLd rd gpa) (Val (g.content gpa)) (λ n. Val (found n (offset_of plan gpa))) [] any (meets plan g.part gpa) h (λ n. h) h h
running_comes plan g found any run ask (GSt rs gpa) h = access_comes run ask (GSt rs gpa) Done (λ n. Done) (slice_index (g.registers run.vid).gpr rs ∷ []) any (meets plan g.part gpa) h (λ n. h) h h
running_comes plan g found any run ask GIrq h = interrupt_comes run ask g.part.phase (g.registers run.vid).gpr
running_comes plan g found any run ask GHcall h = call_comes g.part.words run ask g.part.phase (g.registers run.vid).gpr h
running_comes plan g found any run ask cmd h = h

return_comes : (g : GuestPart) (asked : Ask) (r0 r2 : ℕ) (outs : List ℕ) → Comes ctx.Hv (UReturn r0 r2 outs) (deed_return g (record asked { before = ctx.Hv }))
return_comes g asked r0 r2 outs = by_test (may_return_in g.phase && is_waiting (g.vcpus asked.vid).state) where
  ask : Ask
  ask = record asked { before = ctx.Hv }

  by_test : (b : Bool) → Comes ctx.Hv (UReturn r0 r2 outs)
      (if b then (record (answering ask Enter) { after = taken_up_in (g.vcpus ask.vid).state (record { lpid = ask.lpid; vid = ask.vid; generation = g.generation }) }) else answering ask (Ret UInvalid))
  by_test true = refl
  by_test false = (refl, refl)

-- a page-out, whether it names a guest or not
page_out_comes : (plan : Plan) (past : List Event) (asked : Ask) (lpid dest gpa flags order : ℕ) (b : Bool) →
    Comes ctx.Hv (UPageout lpid dest gpa flags order)
    (deed_after plan past (record asked { before = ctx.Hv }) (UPageout lpid dest gpa flags order) (if b then AtGuest lpid else Alone))
page_out_comes plan past asked lpid dest gpa flags order false = (refl, refl)
page_out_comes plan past asked lpid dest gpa flags order true = by_code (page_out_code plan g.part dest gpa flags order) where
  ask : Ask
  ask = record asked { before = ctx.Hv }

  g : Guest
  g = guest_after plan lpid past

  by_code : (code : Option Code) → Comes ctx.Hv (UPageout lpid dest gpa flags order) (returning ask code (deed_page_out_begin plan g ask lpid dest gpa))
  by_code None = ((refl, refl), refl)
  by_code (Some code) = (refl, refl)

-- a page-in likewise
page_in_comes : (plan : Plan) (past : List Event) (asked : Ask) (lpid src gpa flags order : ℕ) (b : Bool) →
    Comes ctx.Hv (UPagein lpid src gpa flags order)
    (deed_after plan past (record asked { before = ctx.Hv }) (UPagein lpid src gpa flags order) (if b then AtGuest lpid else Alone))
page_in_comes plan past asked lpid src gpa flags order false = (refl, refl)
page_in_comes plan past asked lpid src gpa flags order true = by_code (page_in_operands plan g src gpa flags order) (nat_lt 0 (pool_after plan past)) where
  ask : Ask
  ask = record asked { before = ctx.Hv }

  g : GuestPart
  g = (guest_after plan lpid past).part

  by_code : (code : Option Code) (any : Bool) → Comes ctx.Hv (UPagein lpid src gpa flags order) (returning ask code (deed_page_in_with plan g ask lpid src gpa any))
  by_code None true = ((refl, refl), refl)
  by_code None false = (refl, refl)
  by_code (Some code) any = (refl, refl)

-- a step of a page-in in progress, whether its page is copied or not, and whether the page is accepted or not
inward_comes : (plan : Plan) (past : List Event) (asked : Ask) (move : Move) (b : Bool) →
    Comes (ctx.Uv (Inward move)) Go
    (deed_after plan past (record asked { before = ctx.Uv (Inward move) }) Go (if b then AtGuest move.lpid else AtFrame move.frame))
inward_comes plan past asked move false = (refl, refl)
inward_comes plan past asked move true = by_life (move.generation == g.generation) (is_last_sealed (g.pages move.gfn).sealed ask.hand) where
  ask : Ask
  ask = record asked { before = ctx.Uv (Inward move) }

  g : GuestPart
  g = (guest_after plan move.lpid past).part

  by_life : (b last : Bool) → Comes (ctx.Uv (Inward move)) Go (if b then deed_page_in_test ask last else coming_back ask UParameter)
  by_life true true = (refl, refl)
  by_life true false = (refl, refl)
  by_life false last = (refl, refl)

-- a step of a page-out in progress, whether its page is copied or not
outward_comes : (plan : Plan) (past : List Event) (asked : Ask) (move : Move) (b : Bool) →
    Comes (ctx.Uv (Outward move)) Go
    (deed_after plan past (record asked { before = ctx.Uv (Outward move) }) Go (if b then AtGuest move.lpid else AtFrame move.frame))
outward_comes plan past asked move false = (refl, refl)
outward_comes plan past asked move true = by_life (move.generation == (guest_after plan move.lpid past).part.generation) where
  ask : Ask
  ask = record asked { before = ctx.Uv (Outward move) }

  by_life : (b : Bool) → Comes (ctx.Uv (Outward move)) Go (if b then giving (coming_back ask USuccess) 1 else coming_back ask UParameter)
  by_life true = (refl, refl)
  by_life false = (refl, refl)

-- a command of a guest, which answers Gone where the guest has ended
guest_comes : (plan : Plan) (past : List Event) (run : Run) (asked : Ask) (cmd : Cmd) → ((ask : Ask) → Comes (ctx.Guest run) cmd (deed_gone ask)) →
    Comes (ctx.Guest run) cmd (deed_after plan past (record asked { before = ctx.Guest run }) cmd (AtGuest run.lpid))
guest_comes plan past run asked cmd gone = by_test (run.generation == (guest_after plan run.lpid past).part.generation) where
  ask : Ask
  ask = record asked { before = ctx.Guest run }

  g : Guest
  g = guest_after plan run.lpid past

  any : Bool
  any = nat_lt 0 (pool_after plan past)

  by_test : (b : Bool) → Comes (ctx.Guest run) cmd (if b then deed_running plan run g (found_after plan past) any ask cmd else deed_gone ask)
  by_test true = running_comes plan g (found_after plan past) any run ask cmd refl
  by_test false = gone ask

-- a load of the hypervisor, whether its address has a place in a normal frame or not
normal_load_comes : (plan : Plan) (past : List Event) (asked : Ask) (ra : ℕ) (b : Bool) →
    Comes ctx.Hv (HLd ra) (deed_after plan past (record asked { before = ctx.Hv }) (HLd ra) (if b then AtFrame (frame_of plan ra) else Alone))
normal_load_comes plan past asked ra true = (refl, refl)
normal_load_comes plan past asked ra false = (refl, refl)

-- a store of the hypervisor likewise
normal_store_comes : (plan : Plan) (past : List Event) (asked : Ask) (ra value : ℕ) (b : Bool) →
    Comes ctx.Hv (HSt ra value) (deed_after plan past (record asked { before = ctx.Hv }) (HSt ra value) (if b then AtFrame (frame_of plan ra) else Alone))
normal_store_comes plan past asked ra value true = (refl, refl)
normal_store_comes plan past asked ra value false = (refl, refl)

-- a selection, whatever it names
select_comes : (plan : Plan) (asked : Ask) (lpid vid : ℕ) → Comes ctx.Hv (HSelect lpid vid) (deed_alone plan (record asked { before = ctx.Hv }) (HSelect lpid vid))
select_comes plan asked lpid vid = grind (arith, common_steps)

-- the entry of a vCPU in normal memory, whether it names a guest or not
enter_comes : (plan : Plan) (past : List Event) (asked : Ask) (lpid vid value : ℕ) (b : Bool) →
    Comes ctx.Hv (HEnter lpid vid value) (deed_after plan past (record asked { before = ctx.Hv }) (HEnter lpid vid value) (if b then AtGuest lpid else Alone))
enter_comes plan past asked lpid vid value false = (refl, refl)
enter_comes plan past asked lpid vid value true = by_code (enter_code plan (guest_after plan lpid past).part vid) where
  ask : Ask
  ask = record asked { before = ctx.Hv }

  g : GuestPart
  g = (guest_after plan lpid past).part

  by_code : (code : Option Code) → Comes ctx.Hv (HEnter lpid vid value)
      (returning ask code (record (answering ask Enter) { after = ctx.Guest (record { lpid = lpid; vid = vid; generation = g.generation }) }))
  by_code None = refl
  by_code (Some code) = (refl, refl)

-- a partition entry that is written likewise, and calls for memory slots
write_comes : (plan : Plan) (past : List Event) (asked : Ask) (lpid dw0 dw1 : ℕ) (b : Bool) →
    Comes ctx.Hv (UPate lpid dw0 dw1) (deed_after plan past (record asked { before = ctx.Hv }) (UPate lpid dw0 dw1) (if b then AtGuest lpid else Alone))
write_comes plan past asked lpid dw0 dw1 false = (refl, refl)
write_comes plan past asked lpid dw0 dw1 true = (refl, refl)

register_comes : (plan : Plan) (past : List Event) (asked : Ask) (lpid start size flags id : ℕ) (b : Bool) →
    Comes ctx.Hv (URegslot lpid start size flags id) (deed_after plan past (record asked { before = ctx.Hv }) (URegslot lpid start size flags id) (if b then AtGuest lpid else Alone))
register_comes plan past asked lpid start size flags id false = (refl, refl)
register_comes plan past asked lpid start size flags id true = (refl, refl)

unregister_comes : (plan : Plan) (past : List Event) (asked : Ask) (lpid id : ℕ) (b : Bool) →
    Comes ctx.Hv (UUnregslot lpid id) (deed_after plan past (record asked { before = ctx.Hv }) (UUnregslot lpid id) (if b then AtGuest lpid else Alone))
unregister_comes plan past asked lpid id false = (refl, refl)
unregister_comes plan past asked lpid id true = (refl, refl)

-- and UV_PAGE_INVAL
inval_comes : (plan : Plan) (past : List Event) (asked : Ask) (lpid gpa order : ℕ) (b : Bool) →
    Comes ctx.Hv (UInval lpid gpa order) (deed_after plan past (record asked { before = ctx.Hv }) (UInval lpid gpa order) (if b then AtGuest lpid else Alone))
inval_comes plan past asked lpid gpa order false = (refl, refl)
inval_comes plan past asked lpid gpa order true = (refl, refl)

-- a step's deed has such an outcome
pub deed_comes : (plan : Plan) (past : List Event) (c : Ctx) (asked : Ask) (cmd : Cmd) →
    Comes c cmd (deed_after plan past (record asked { before = c }) cmd (target_in plan c asked.lpid cmd))
deed_comes plan past ctx.Hv asked (HLd ra) = normal_load_comes plan past asked ra (has_real_place plan ra)
deed_comes plan past ctx.Hv asked (HSt ra value) = normal_store_comes plan past asked ra value (has_real_place plan ra)
deed_comes plan past ctx.Hv asked (HSelect lpid vid) = select_comes plan asked lpid vid
deed_comes plan past ctx.Hv asked (HEnter lpid vid value) = enter_comes plan past asked lpid vid value (nat_le 1 lpid && nat_le lpid plan.guests)
deed_comes plan past ctx.Hv asked (UPate lpid dw0 dw1) = write_comes plan past asked lpid dw0 dw1 (nat_le 1 lpid && nat_le lpid plan.guests)
deed_comes plan past ctx.Hv asked (URegslot lpid start size flags id) = register_comes plan past asked lpid start size flags id (nat_le 1 lpid && nat_le lpid plan.guests)
deed_comes plan past ctx.Hv asked (UUnregslot lpid id) = unregister_comes plan past asked lpid id (nat_le 1 lpid && nat_le lpid plan.guests)
deed_comes plan past ctx.Hv asked (UPagein lpid src gpa flags order) = page_in_comes plan past asked lpid src gpa flags order (nat_le 1 lpid && nat_le lpid plan.guests)
deed_comes plan past ctx.Hv asked (UPageout lpid dest gpa flags order) = page_out_comes plan past asked lpid dest gpa flags order (nat_le 1 lpid && nat_le lpid plan.guests)
deed_comes plan past ctx.Hv asked (UInval lpid gpa order) = inval_comes plan past asked lpid gpa order (nat_le 1 lpid && nat_le lpid plan.guests)
deed_comes plan past ctx.Hv asked (UReturn r0 r2 outs) = return_comes (guest_after plan asked.lpid past).part asked r0 r2 outs
deed_comes plan past ctx.Hv asked cmd = (refl, refl)
deed_comes plan past (ctx.Uv (Inward move)) asked Go = inward_comes plan past asked move move.copied
deed_comes plan past (ctx.Uv (Inward move)) asked cmd = (refl, refl)
deed_comes plan past (ctx.Uv (Outward move)) asked Go = outward_comes plan past asked move move.copied
deed_comes plan past (ctx.Uv (Outward move)) asked cmd = (refl, refl)
deed_comes plan past (ctx.Uv work) asked cmd = (refl, refl)
deed_comes plan past (ctx.Guest run) asked (HLd ra) = refl
deed_comes plan past (ctx.Guest run) asked (HSt ra value) = refl
deed_comes plan past (ctx.Guest run) asked (HSelect lpid vid) = refl
deed_comes plan past (ctx.Guest run) asked (HEnter lpid vid value) = refl
deed_comes plan past (ctx.Guest run) asked Go = refl
deed_comes plan past (ctx.Guest run) asked cmd = guest_comes plan past run asked cmd (λ ask. refl)

-- the entry that a step adds to a history has such an outcome
pub next_outcome : (plan : Plan) (past : List Event) (mark : Mark) (cmd : Cmd) →
    let e : Event = next_entry plan past mark cmd in
    Outcome e.saw.before cmd e.trace.answer e.saw.after e.saw.shown
next_outcome plan past mark cmd =
    let cpu = cpu_after plan mark.cpu past in
    deed_comes plan past cpu.ctx (ask_of cpu cmd) cmd

-- so has an entry that extends a history
pub outcome : (plan : Plan) (past : List Event) (e : Event) → Extends plan past e → Outcome e.saw.before e.trace.cmd e.trace.answer e.saw.after e.saw.shown
outcome plan past e extends =
    subst (λ (x : Event). Outcome x.saw.before x.trace.cmd x.trace.answer x.saw.after x.saw.shown) (sym extends.is) (next_outcome plan past (mark_of e) e.trace.cmd)

-- the context once a page's move is copied, and once it has come back; no step of a guest's call is here yet
abbrev pub Copies : Work → Ctx → Type 0
Copies (Inward move) after = after ≡ ctx.Uv (Inward (record move { copied = true }))
Copies (Outward move) after = after ≡ ctx.Uv (Outward (record move { copied = true }))
Copies work after = ⊥

abbrev pub ComesBack : Work → Ctx → Type 0
ComesBack (Inward move) after = after ≡ ctx.Hv
ComesBack (Outward move) after = after ≡ ctx.Hv
ComesBack work after = ⊥

-- what the answer of a step tells while a call is in progress, whatever its command is
abbrev pub Moving : Work → Answer → Ctx → List ℕ → Type 0
Moving work Step after shown = Copies work after × (shown ≡ [])
Moving work (Ret code) after shown = ComesBack work after × (shown ≡ [])
Moving work Context after shown = (after ≡ ctx.Uv work) × (shown ≡ [])
Moving work a after shown = ⊥

-- only go does anything then
pub moving : (work : Work) (cmd : Cmd) (a : Answer) (after : Ctx) (shown : List ℕ) → Outcome (ctx.Uv work) cmd a after shown → Moving work a after shown
moving (Inward move) Go Step after shown h = h
moving (Inward move) Go (Ret code) after shown h = h
moving (Inward move) Go a after shown h = absurd h
moving (Outward move) Go Step after shown h = h
moving (Outward move) Go (Ret code) after shown h = h
moving (Outward move) Go a after shown h = absurd h
moving work cmd Context after shown h = h
moving work cmd a after shown h = absurd h
