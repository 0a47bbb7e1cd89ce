-- The deed that an entry tells, in the context and with the command that it tells.
use Rattle.std.proofs.Common.{◌≡◌, ℕ, List, [], ◌==◌, nat_lt, if◌then◌else◌, refl, ap, sym, ◌∙◌, Some, ◌∷◌, slice_index}
use Rattle.std.proofs.lemmas.Option.{same_Some}
use Rattle.pef_model.specs.declared.state.Run.{Run}
use Rattle.pef_model.specs.declared.state.Ctx.{Ctx}
use Rattle.pef_model.specs.declared.state.Ctx.TheVariants as ctx
use Rattle.pef_model.specs.declared.command.Cmd.{Cmd}
use Rattle.pef_model.specs.declared.command.Cmd.TheVariants.{GLd, GSt}
use Rattle.pef_model.specs.declared.entry.Answer.{Answer}
use Rattle.pef_model.specs.declared.entry.Answer.TheVariants.{Done, Val}
use Rattle.pef_model.specs.Plan.{Plan}
use Rattle.pef_model.specs.Event.{Event}
use Rattle.pef_model.specs.Target.{Ask, uses_hand, target_in, guest_address_in}
use Rattle.pef_model.specs.Cpu.{CpuPart}
use Rattle.pef_model.specs.Memory.{offset_of}
use Rattle.pef_model.specs.GuestPart.{meets}
use Rattle.pef_model.specs.Guest.{Guest}
use Rattle.pef_model.specs.Deed.{Deed, deed_access, deed_gone}
use Rattle.pef_model.specs.History.{cpu_after, guest_after, pool_after, found_after, deed_after, Extends, register_shown}

-- what an entry tells of its deed
abbrev pub deed_of : Event → Deed
deed_of e = record { answer = e.trace.answer; after = e.saw.after; shown = e.saw.shown; pool = e.saw.pool; frame = e.saw.frame; bytes = e.bytes }

-- what a step learns of its CPU in this context
abbrev pub ask_in : CpuPart → Ctx → Cmd → Ask
ask_in cpu c cmd = record { before = c; lpid = cpu.lpid; vid = cpu.vid; last = cpu.last; hand = if uses_hand c cmd then cpu.hand else []; register = register_shown c cmd cpu.own }

-- what it does
abbrev pub deed_in : Plan → List Event → CpuPart → Ctx → Cmd → Deed
deed_in plan past cpu c cmd = deed_after plan past (ask_in cpu c cmd) cmd (target_in plan c cpu.lpid cmd)

-- an entry that extends a history tells the context of its CPU
pub context_is : (plan : Plan) (past : List Event) (e : Event) → Extends plan past e → e.saw.before ≡ (cpu_after plan e.trace.cpu past).ctx
context_is plan past e extends = ap (λ (x : Event). x.saw.before) extends.is

-- and the guest that is selected on it
pub selected_is : (plan : Plan) (past : List Event) (e : Event) → Extends plan past e → e.saw.lpid ≡ (cpu_after plan e.trace.cpu past).lpid
selected_is plan past e extends = ap (λ (x : Event). x.saw.lpid) extends.is

-- and the deed of its step
pub deed_is : (plan : Plan) (past : List Event) (e : Event) (c : Ctx) (cmd : Cmd) → Extends plan past e → e.saw.before ≡ c → e.trace.cmd ≡ cmd →
    deed_of e ≡ deed_in plan past (cpu_after plan e.trace.cpu past) c cmd
deed_is plan past e c cmd extends before cmd_is =
    let cpu : CpuPart = cpu_after plan e.trace.cpu past in
    ap deed_of extends.is ∙ ap (deed_in plan past cpu cpu.ctx) cmd_is ∙ ap (λ (x : Ctx). deed_in plan past cpu x cmd) (sym (context_is plan past e extends) ∙ before)

-- the answer of an access that is done in a page of the guest's own
abbrev pub success_of : Guest → Cmd → Answer
success_of g (GLd rd gpa) = Val (g.content gpa)
success_of g cmd = Done

-- in a normal frame
abbrev pub through_of : Plan → (ℕ → ℕ → ℕ) → Cmd → ℕ → Answer
through_of plan found (GLd rd gpa) n = Val (found n (offset_of plan gpa))
through_of plan found cmd n = Done

-- and what it lets out there
abbrev pub shown_of : Run → Guest → Cmd → List ℕ
shown_of run g (GSt rs gpa) = slice_index (g.registers run.vid).gpr rs ∷ []
shown_of run g cmd = []

-- an access to a guest address, by what it meets
abbrev pub reach : Plan → List Event → Run → Ask → Cmd → ℕ → Deed
reach plan past run ask cmd gpa =
    let g : Guest = guest_after plan run.lpid past in
    deed_access ask (success_of g cmd) (through_of plan (found_after plan past) cmd) (shown_of run g cmd) (nat_lt 0 (pool_after plan past)) (meets plan g.part gpa)

-- what a guest's load or store does
access_in : (plan : Plan) (past : List Event) (cpu : CpuPart) (run : Run) (cmd : Cmd) (gpa : ℕ) → guest_address_in cmd ≡ Some gpa →
    deed_in plan past cpu (ctx.Guest run) cmd
    ≡ (if run.generation == (guest_after plan run.lpid past).part.generation then reach plan past run (ask_in cpu (ctx.Guest run) cmd) cmd gpa else deed_gone (ask_in cpu (ctx.Guest run) cmd))
access_in plan past cpu run (GLd rd at) gpa h =
    ap (λ (x : ℕ). if run.generation == (guest_after plan run.lpid past).part.generation then reach plan past run (ask_in cpu (ctx.Guest run) (GLd rd at)) (GLd rd at) x else deed_gone (ask_in cpu (ctx.Guest run) (GLd rd at))) (same_Some at gpa h)
access_in plan past cpu run (GSt rs at) gpa h =
    ap (λ (x : ℕ). if run.generation == (guest_after plan run.lpid past).part.generation then reach plan past run (ask_in cpu (ctx.Guest run) (GSt rs at)) (GSt rs at) x else deed_gone (ask_in cpu (ctx.Guest run) (GSt rs at))) (same_Some at gpa h)
access_in plan past cpu run cmd gpa h = cc

-- so the entry of one tells
pub access_is : (plan : Plan) (past : List Event) (e : Event) (run : Run) (gpa : ℕ) → Extends plan past e → e.saw.before ≡ ctx.Guest run → guest_address_in e.trace.cmd ≡ Some gpa →
    deed_of e
    ≡ (if run.generation == (guest_after plan run.lpid past).part.generation then reach plan past run (ask_in (cpu_after plan e.trace.cpu past) (ctx.Guest run) e.trace.cmd) e.trace.cmd gpa
    else deed_gone (ask_in (cpu_after plan e.trace.cpu past) (ctx.Guest run) e.trace.cmd))
access_is plan past e run gpa extends before address =
    deed_is plan past e (ctx.Guest run) e.trace.cmd extends before refl ∙ access_in plan past (cpu_after plan e.trace.cpu past) run e.trace.cmd gpa address
