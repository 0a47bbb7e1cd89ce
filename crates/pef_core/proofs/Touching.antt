-- What steps at a guest touch beside it, in the model and by what the guest has.
use Rattle.std.proofs.Common.{◌≡◌, ℕ, ◌&&◌, Bool, true, false, if◌then◌else◌, List, [], ◌∷◌, slice_index, Option, Some, None, is_some, refl, sym, ◌∙◌, ◌==◌}
use Rattle.pef_model.specs.declared.state.Move.{Move}
use Rattle.pef_model.specs.declared.state.Run.{Run}
use Rattle.pef_model.specs.Memory.{offset_of}
use Rattle.pef_model.specs.declared.state.Work.{Work}
use Rattle.pef_model.specs.declared.state.Work.TheVariants.{Inward, Outward}
use Rattle.pef_model.specs.declared.state.Ctx.{Ctx}
use Rattle.pef_model.specs.declared.state.Ctx.TheVariants as ctx
use Rattle.pef_model.specs.declared.command.Code.{Code}
use Rattle.pef_model.specs.declared.command.Code.TheVariants.{UInvalid}
use Rattle.pef_model.specs.declared.command.Cmd.{Cmd}
use Rattle.pef_model.specs.declared.command.Cmd.TheVariants.{UPagein, GLd, GSt, Go}
use Rattle.pef_model.specs.declared.entry.Answer.{Answer}
use Rattle.pef_model.specs.declared.entry.Answer.TheVariants as answer
use Rattle.pef_model.specs.Plan.{Plan}
use Rattle.pef_model.specs.Target.{Ask}
use Rattle.pef_model.specs.GuestPart.{GuestPart, Meeting, Moves, Private, Unbacked, meets}
use Rattle.pef_model.specs.Guest.{Guest as GuestWhole}
use Rattle.pef_model.specs.PageOut.{page_out_code}
use Rattle.pef_model.specs.Entry.{enter_code}
use Rattle.pef_model.specs.declared.state.Phase.{Phase}
use Rattle.pef_model.specs.declared.state.Phase.TheVariants as phase
use Rattle.pef_guest.proofs.Deeds.{share_running, share_guest}
use Rattle.pef_model.specs.Deed.{deed_interrupt, deed_guest_in, deed_gone, answering, returning, deed_running, deed_access, deed_return, deed_page_out, deed_page_out_begin, deed_enter, may_return_in, is_waiting, taken_up_in}
use Rattle.pef_guest.specs.declared.cpu.Cpu.{Cpu}
use Rattle.pef_guest.specs.declared.guest.Guest.{Guest}
use Rattle.pef_guest.specs.Aims.{guest_aimed, uses_pool, frame_met, frame_running}
use Rattle.pef_access.specs.Access.{is_unbacked, meets_guest}
use Rattle.pef_core.specs.Lent.{command_asks, command_goes, frame_needed, WantsPool}

-- an access asks for a frame where it meets an Invalid page
access_asks : (ask : Ask) (success : Answer) (through : ℕ → Answer) (shown : List ℕ) (any : Bool) (r : Meeting) → is_some (deed_access ask success through shown any r).pool ≡ is_unbacked r
access_asks ask success through shown any Private = refl
access_asks ask success through shown true Unbacked = refl
access_asks ask success through shown false Unbacked = refl
access_asks ask success through shown any Moves = refl
access_asks ask success through shown any met = refl

pub load_asks : (plan : Plan) (run : Run) (g : GuestWhole) (found : ℕ → ℕ → ℕ) (any : Bool) (ask : Ask) (rd gpa : ℕ) → is_some (deed_running plan run g found any ask (GLd rd gpa)).pool ≡ is_unbacked (meets plan g.part gpa)
load_asks plan run g found any ask rd gpa = access_asks ask (answer.Val (g.content gpa)) (λ n. answer.Val (found n (offset_of plan gpa))) [] any (meets plan g.part gpa)

pub store_asks : (plan : Plan) (run : Run) (g : GuestWhole) (found : ℕ → ℕ → ℕ) (any : Bool) (ask : Ask) (rs gpa : ℕ) → is_some (deed_running plan run g found any ask (GSt rs gpa)).pool ≡ is_unbacked (meets plan g.part gpa)
store_asks plan run g found any ask rs gpa = access_asks ask answer.Done (λ n. answer.Done) (slice_index (g.registers run.vid).gpr rs ∷ []) any (meets plan g.part gpa)

-- UV_RETURN asks for none
pub return_asks_none : (g : GuestPart) (ask : Ask) → is_some (deed_return g ask).pool ≡ false
return_asks_none g ask = by_test (may_return_in g.phase && is_waiting (g.vcpus ask.vid).state) where
  by_test : (b : Bool) → is_some (if b then record (answering ask answer.Enter) { after = taken_up_in (g.vcpus ask.vid).state (record { lpid = ask.lpid; vid = ask.vid; generation = g.generation }) } else answering ask (answer.Ret UInvalid)).pool ≡ false
  by_test true = refl
  by_test false = refl

-- nor does h.enter
pub enter_asks_none : (plan : Plan) (g : GuestPart) (ask : Ask) (lpid vid : ℕ) → is_some (deed_enter plan g ask lpid vid).pool ≡ false
enter_asks_none plan g ask lpid vid = by_code (enter_code plan g vid) where
  by_code : (code : Option Code) → is_some (returning ask code (record (answering ask answer.Enter) { after = ctx.Guest (record { lpid = lpid; vid = vid; generation = g.generation }) })).pool ≡ false
  by_code None = refl
  by_code (Some code) = refl

-- an interrupt asks for none
pub interrupt_asks_none : (phase : Phase) (gpr : List ℕ) (ask : Ask) → is_some (deed_interrupt phase gpr ask).pool ≡ false
interrupt_asks_none phase.Normal gpr ask = refl
interrupt_asks_none other gpr ask = refl

-- what goes into a normal frame asks for none
pub met_asks_none : (met : Meeting) → is_unbacked met ≡ true → frame_met met ≡ None
met_asks_none Unbacked is = refl
met_asks_none met is = cc

-- nor does UV_PAGE_OUT
pub page_out_asks_none : (plan : Plan) (g : GuestWhole) (ask : Ask) (lpid dest gpa flags order : ℕ) → is_some (deed_page_out plan g ask lpid dest gpa flags order).pool ≡ false
page_out_asks_none plan g ask lpid dest gpa flags order = by_code (page_out_code plan g.part dest gpa flags order) where
  by_code : (code : Option Code) → is_some (returning ask code (deed_page_out_begin plan g ask lpid dest gpa)).pool ≡ false
  by_code None = refl
  by_code (Some code) = refl

-- what asks for a frame goes into no normal one
running_frameless : (plan : Plan) (run : Run) (g : GuestWhole) (found : ℕ → ℕ → ℕ) (any : Bool) (ask : Ask) (cmd : Cmd) → is_some (deed_running plan run g found any ask cmd).pool ≡ true → frame_running plan g.part cmd ≡ None
running_frameless plan run g found any ask (GLd rd gpa) asks = met_asks_none (meets plan g.part gpa) (sym (load_asks plan run g found any ask rd gpa) ∙ asks)
running_frameless plan run g found any ask (GSt rs gpa) asks = met_asks_none (meets plan g.part gpa) (sym (store_asks plan run g found any ask rs gpa) ∙ asks)
running_frameless plan run g found any ask cmd asks = refl

pub asking_frameless : (plan : Plan) (g : GuestWhole) (found : ℕ → ℕ → ℕ) (any : Bool) (ask : Ask) (c : Ctx) (cmd : Cmd) → is_some (deed_guest_in c plan g found any ask cmd).pool ≡ true → (deed_guest_in c plan g found any ask cmd).frame ≡ None
asking_frameless plan g found any ask ctx.Hv cmd asks = (share_guest plan g found any ask ctx.Hv cmd).0
asking_frameless plan g found any ask (ctx.Uv work) cmd asks = (share_guest plan g found any ask (ctx.Uv work) cmd).0
asking_frameless plan g found any ask (ctx.Guest run) cmd asks = by_test (run.generation == g.part.generation) asks where
  by_test : (b : Bool) → is_some (if b then deed_running plan run g found any ask cmd else deed_gone ask).pool ≡ true → (if b then deed_running plan run g found any ask cmd else deed_gone ask).frame ≡ None
  by_test true asked = (share_running plan run g found any ask cmd).0 ∙ running_frameless plan run g found any ask cmd asked
  by_test false asked = refl

pub wants_frameless : {S : Type 0} (guest : Guest S) (cpu : Cpu) (c : Ctx) (cmd : Cmd) → WantsPool guest cpu c cmd → frame_needed guest c cmd ≡ None
wants_frameless guest cpu ctx.Hv cmd wants = refl
wants_frameless guest cpu (ctx.Uv work) cmd wants = refl
wants_frameless guest cpu (ctx.Guest run) cmd wants = by_test (run.generation == guest.generation) where
  by_command : (cmd : Cmd) → command_asks guest cmd ≡ true → command_goes guest cmd ≡ None
  by_command (GLd rd gpa) asks = met_asks_none (meets_guest guest gpa) asks
  by_command (GSt rs gpa) asks = met_asks_none (meets_guest guest gpa) asks
  by_command cmd asks = refl

  by_test : (b : Bool) → (if b then command_goes guest cmd else None) ≡ None
  by_test true = by_command cmd wants.1
  by_test false = refl

-- what aims at a guest with a move in progress is the end of the move
pub record IsEnd (move : Move) (cmd : Cmd) : Type 0 where
  pub is : cmd ≡ Go
  pub copied : move.copied ≡ true

copied_is : (b : Bool) (lpid k : ℕ) → (if b then Some lpid else None) ≡ Some k → b ≡ true
copied_is true lpid k is = refl
copied_is false lpid k is = cc

pub ends_in : (move : Move) (l k : ℕ) (cmd : Cmd) → guest_aimed (ctx.Uv (Inward move)) l cmd ≡ Some k → IsEnd move cmd
ends_in move l k Go is = record { is = refl; copied = copied_is move.copied move.lpid k is }
ends_in move l k cmd is = absurd cc

pub ends_out : (move : Move) (l k : ℕ) (cmd : Cmd) → guest_aimed (ctx.Uv (Outward move)) l cmd ≡ Some k → IsEnd move cmd
ends_out move l k Go is = record { is = refl; copied = copied_is move.copied move.lpid k is }
ends_out move l k cmd is = absurd cc

-- what needs the pool may use it
pub wants_uses : {S : Type 0} (guest : Guest S) (cpu : Cpu) (c : Ctx) (l k : ℕ) (cmd : Cmd) → guest_aimed c l cmd ≡ Some k → WantsPool guest cpu c cmd → uses_pool c cmd ≡ true
wants_uses guest cpu ctx.Hv l k (UPagein lpid src gpa flags order) at wants = refl
wants_uses guest cpu ctx.Hv l k cmd at wants = cc
wants_uses guest cpu (ctx.Uv (Inward move)) l k cmd at wants = let ends = ends_in move l k cmd at in rw ends.is ends.copied
wants_uses guest cpu (ctx.Uv (Outward move)) l k cmd at wants = let ends = ends_out move l k cmd at in rw ends.is ends.copied
wants_uses guest cpu (ctx.Uv work) l k cmd at wants = absurd wants
wants_uses guest cpu (ctx.Guest run) l k (GLd rd gpa) at wants = refl
wants_uses guest cpu (ctx.Guest run) l k (GSt rs gpa) at wants = refl
wants_uses guest cpu (ctx.Guest run) l k cmd at wants = (let none = wants.1 in cc)

-- a test that does not hold
pub not_true : (b : Bool) → (b ≡ true → ⊥) → b ≡ false
not_true true none = absurd (none refl)
not_true false none = refl

pub goes_on : (work : Work) (l k : ℕ) (cmd : Cmd) → guest_aimed (ctx.Uv work) l cmd ≡ Some k → cmd ≡ Go
goes_on (Inward move) l k cmd is = (ends_in move l k cmd is).is
goes_on (Outward move) l k cmd is = (ends_out move l k cmd is).is
goes_on work l k cmd is = absurd cc
