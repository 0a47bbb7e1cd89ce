-- What a step lets out.
use Rattle.std.proofs.Common.{◌≡◌, ℕ, List, [], ◌∷◌, Bool, true, false, refl, sym, subst, ◌==◌, if◌then◌else◌, nat_lt, slice_index, arith, Option, Some, None, ap}
use Rattle.std.proofs.lemmas.Grind.{common_steps}
use Rattle.pef_model.specs.declared.state.Phase.{Phase}
use Rattle.pef_model.specs.declared.state.Phase.TheVariants as phase
use Rattle.pef_model.specs.declared.state.Run.{Run}
use Rattle.pef_model.specs.declared.state.Work.{Work}
use Rattle.pef_model.specs.declared.state.Ctx.{Ctx}
use Rattle.pef_model.specs.declared.state.Ctx.TheVariants as ctx
use Rattle.pef_model.specs.declared.command.Cmd.{Cmd}
use Rattle.pef_model.specs.declared.command.Cmd.TheVariants.{HLd, HSt, HSelect, HEnter, GLd, GSt, GIrq, Go, GHcall}
use Rattle.pef_model.specs.declared.entry.Answer.{Answer}
use Rattle.pef_model.specs.declared.entry.Answer.TheVariants.{Done, Val, Ret, Step, Context}
use Rattle.pef_model.specs.Memory.{offset_of}
use Rattle.pef_model.specs.Plan.{Plan}
use Rattle.pef_model.specs.Event.{Event, Mark, mark_of}
use Rattle.pef_model.specs.StepLaw.{let_out_running, let_out, let_out_calling}
use Rattle.pef_model.specs.Target.{Ask, target_in}
use Rattle.pef_model.specs.GuestPart.{Meeting, Unbacked, meets}
use Rattle.pef_model.specs.Guest.{Guest}
use Rattle.pef_model.specs.Deed.{Deed, deed_access, deed_interrupt, deed_running, deed_gone, deed_hypercall, deed_by_row, deed_by_kind}
use Rattle.pef_model.specs.History.{cpu_after, guest_after, pool_after, deed_after, ask_of, next_entry, Extends, found_after}
use Rattle.pef_model.proofs.Outcomes.{Outcome, deed_comes, Moving, moving}
use Rattle.pef_model.specs.declared.hypercall.Row.{Row}
use Rattle.pef_model.specs.declared.hypercall.RowKind.{RowKind}
use Rattle.pef_model.specs.declared.hypercall.RowKind.TheVariants.{Reflected, Local, Svm}
use Rattle.pef_model.specs.declared.hypercall.TheConstants.{HCALLS}
use Rattle.pef_model.specs.Hypercalls.{row_of}

-- a call in progress lets nothing out
shown_by_work : (work : Work) (a : Answer) (after : Ctx) (shown : List ℕ) → Moving work a after shown → shown ≡ []
shown_by_work work Step after shown h = h.1
shown_by_work work (Ret code) after shown h = h.1
shown_by_work work Context after shown h = h.1
shown_by_work work a after shown h = absurd h

-- nor does a command of the hypervisor
pub hypervisor_shows : (cmd : Cmd) (a : Answer) (after : Ctx) (shown : List ℕ) → Outcome ctx.Hv cmd a after shown → shown ≡ []
hypervisor_shows cmd a after shown h = grind (arith, common_steps)

-- what a deed of a vCPU with these registers lets out
abbrev LetsOut : List ℕ → Cmd → Deed → Type 0
LetsOut gpr cmd deed = deed.shown ≡ let_out_running gpr cmd deed.answer deed.frame

load_lets_out : (gpr : List ℕ) (rd gpa : ℕ) (ask : Ask) (value : ℕ) (through : ℕ → ℕ) (any : Bool) (m : Meeting) → LetsOut gpr (GLd rd gpa) (deed_access ask (Val value) (λ n. Val (through n)) [] any m)
load_lets_out gpr rd gpa ask value through true Unbacked = refl
load_lets_out gpr rd gpa ask value through false Unbacked = refl
load_lets_out gpr rd gpa ask value through any m = refl

store_lets_out : (gpr : List ℕ) (rs gpa : ℕ) (ask : Ask) (any : Bool) (m : Meeting) → LetsOut gpr (GSt rs gpa) (deed_access ask Done (λ n. Done) (slice_index gpr rs ∷ []) any m)
store_lets_out gpr rs gpa ask true Unbacked = refl
store_lets_out gpr rs gpa ask false Unbacked = refl
store_lets_out gpr rs gpa ask any m = refl

interrupt_lets_out : (gpr : List ℕ) (ask : Ask) (p : Phase) → LetsOut gpr GIrq (deed_interrupt p gpr ask)
interrupt_lets_out gpr ask phase.Normal = refl
interrupt_lets_out gpr ask p = refl

call_lets_out : (words : ℕ) (gpr : List ℕ) (ask : Ask) (p : Phase) → LetsOut gpr GHcall (deed_hypercall words p gpr ask)
call_lets_out words gpr ask phase.Normal = refl
call_lets_out words gpr ask p = by_row (row_of HCALLS (slice_index gpr 3)) refl where
  by_kind : (kind : RowKind) (row : Row) → row_of HCALLS (slice_index gpr 3) ≡ Some row → LetsOut gpr GHcall (deed_by_kind words kind ask gpr row)
  by_kind Reflected row is = ap (let_out_calling gpr) (sym is)
  by_kind Local row is = refl
  by_kind Svm row is = refl

  by_row : (row : Option Row) → row_of HCALLS (slice_index gpr 3) ≡ row → LetsOut gpr GHcall (deed_by_row words ask gpr row)
  by_row (Some row) is = by_kind row.kind row is
  by_row None is = refl

running_lets_out : (plan : Plan) (g : Guest) (found : ℕ → ℕ → ℕ) (any : Bool) (run : Run) (ask : Ask) (cmd : Cmd) → LetsOut (g.registers run.vid).gpr cmd (deed_running plan run g found any ask cmd)
running_lets_out plan g found any run ask (GLd rd gpa) = load_lets_out (g.registers run.vid).gpr rd gpa ask (g.content gpa) (λ n. found n (offset_of plan gpa)) any (meets plan g.part gpa)
running_lets_out plan g found any run ask (GSt rs gpa) = store_lets_out (g.registers run.vid).gpr rs gpa ask any (meets plan g.part gpa)
running_lets_out plan g found any run ask GIrq = interrupt_lets_out (g.registers run.vid).gpr ask g.part.phase
running_lets_out plan g found any run ask GHcall = call_lets_out g.part.words (g.registers run.vid).gpr ask g.part.phase
running_lets_out plan g found any run ask cmd = refl

deed_lets_out : (plan : Plan) (past : List Event) (run : Run) (asked : Ask) (cmd : Cmd) →
    LetsOut ((guest_after plan run.lpid past).registers run.vid).gpr cmd (deed_after plan past (record asked { before = ctx.Guest run }) cmd (target_in plan (ctx.Guest run) asked.lpid cmd))
deed_lets_out plan past run asked (HLd ra) = refl
deed_lets_out plan past run asked (HSt ra value) = refl
deed_lets_out plan past run asked (HSelect lpid vid) = refl
deed_lets_out plan past run asked (HEnter lpid vid value) = refl
deed_lets_out plan past run asked Go = refl
deed_lets_out plan past run asked cmd = by_test (run.generation == g.part.generation) where
  ask : Ask
  ask = record asked { before = ctx.Guest run }

  g : Guest
  g = guest_after plan run.lpid past

  any : Bool
  any = nat_lt 0 (pool_after plan past)

  by_test : (b : Bool) → LetsOut (g.registers run.vid).gpr cmd (if b then deed_running plan run g (found_after plan past) any ask cmd else deed_gone ask)
  by_test true = running_lets_out plan g (found_after plan past) any run ask cmd
  by_test false = refl

-- a deed lets out what its answer says
deed_shows : (plan : Plan) (past : List Event) (c : Ctx) (asked : Ask) (cmd : Cmd) →
    let d : Deed = deed_after plan past (record asked { before = c }) cmd (target_in plan c asked.lpid cmd) in
    d.shown ≡ let_out plan (λ lpid. guest_after plan lpid past) c cmd d.answer d.frame
deed_shows plan past ctx.Hv asked cmd = hypervisor_shows cmd _ _ _ (deed_comes plan past ctx.Hv asked cmd)
deed_shows plan past (ctx.Uv work) asked cmd = shown_by_work work _ _ _ (moving work cmd _ _ _ (deed_comes plan past (ctx.Uv work) asked cmd))
deed_shows plan past (ctx.Guest run) asked cmd = deed_lets_out plan past run asked cmd

-- the entry that a step adds to a history lets out what its answer says
pub next_shown : (plan : Plan) (past : List Event) (mark : Mark) (cmd : Cmd) →
    let e : Event = next_entry plan past mark cmd in
    e.saw.shown ≡ let_out plan (λ lpid. guest_after plan lpid past) e.saw.before cmd e.trace.answer e.saw.frame
next_shown plan past mark cmd =
    let cpu = cpu_after plan mark.cpu past in
    deed_shows plan past cpu.ctx (ask_of cpu cmd) cmd

-- so does an entry that extends a history
pub shown_is : (plan : Plan) (past : List Event) (e : Event) → Extends plan past e → e.saw.shown ≡ let_out plan (λ lpid. guest_after plan lpid past) e.saw.before e.trace.cmd e.trace.answer e.saw.frame
shown_is plan past e extends =
    subst (λ (x : Event). x.saw.shown ≡ let_out plan (λ lpid. guest_after plan lpid past) x.saw.before x.trace.cmd x.trace.answer x.saw.frame) (sym extends.is) (next_shown plan past (mark_of e) e.trace.cmd)
