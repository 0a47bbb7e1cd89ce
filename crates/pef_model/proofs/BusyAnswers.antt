-- Where U_BUSY comes.
use Rattle.std.proofs.Common.{◌≡◌, ℕ, List, Bool, true, false, ◌||◌, refl, ap, sym, ◌∙◌, ◌⊎◌, inl, inr, arith}
use Rattle.std.specs.Prelude.{is_some, IsSome}
use Rattle.std.proofs.lemmas.Grind.{common_steps}
use Rattle.pef_model.specs.declared.state.Phase.{Phase}
use Rattle.pef_model.specs.declared.state.Phase.TheVariants as phase
use Rattle.pef_model.specs.declared.state.Run.{Run}
use Rattle.pef_model.specs.declared.state.Work.{Work}
use Rattle.pef_model.specs.declared.state.Ctx.{Ctx}
use Rattle.pef_model.specs.declared.state.Ctx.TheVariants as ctx
use Rattle.pef_model.specs.declared.command.Code.TheVariants.{UBusy}
use Rattle.pef_model.specs.declared.command.Cmd.{Cmd}
use Rattle.pef_model.specs.declared.command.Cmd.TheVariants.{UPagein, UPageout}
use Rattle.pef_model.specs.declared.entry.Answer.TheVariants.{Ret}
use Rattle.pef_model.specs.Plan.{Plan}
use Rattle.pef_model.specs.Event.{Event}
use Rattle.pef_model.specs.Cpu.{CpuPart}
use Rattle.pef_model.specs.GuestPart.{Page, page_of, is_shared}
use Rattle.pef_model.specs.PageOut.{is_starting}
use Rattle.pef_model.specs.Deed.{Deed}
use Rattle.pef_model.specs.History.{cpu_after, pool_after, Extends, part_after, page_after}
use Rattle.pef_model.specs.CauseLaw.{IsBusyIn, IsBusyOut, BusyCause, BusyPageIn, BusyPageOut, BusyExactlyWhere}
use Rattle.pef_model.specs.AnswerLaw.{can_answer}
use Rattle.pef_model.proofs.AnswerRows.{deed_can}
use Rattle.pef_model.proofs.PageCalls.{in_answer, out_answer, in_answers, out_answers, page_in_finds, page_out_finds, none_free}
use Rattle.pef_model.proofs.DeedOf.{ask_in, deed_in, deed_is}

-- what a page-in that is busy finds
busy_in : (page : Page) (free : ℕ) → is_shared page.kind ≡ false → in_answer page free ≡ Ret UBusy → IsBusyIn page free
busy_in page free other h = by_mover (is_some page.mover) refl where
  by_mover : (b : Bool) → is_some page.mover ≡ b → IsBusyIn page free
  by_mover true k = inl k
  by_mover false k = inr (other, none_free free (grind (arith, common_steps)))

in_busy : (page : Page) (free : ℕ) → IsBusyIn page free → in_answer page free ≡ Ret UBusy
in_busy page free (inl moves) = rw moves refl
in_busy page free (inr (other, none)) = rw none (grind (arith, common_steps))

-- and a page-out
busy_out : (p : Phase) (page : Page) → out_answer p page ≡ Ret UBusy → IsBusyOut p page
busy_out p page h = (grind (arith, common_steps), by_mover (is_some page.mover) refl) where
  by_mover : (b : Bool) → is_some page.mover ≡ b → (p ≡ phase.Starting) ⊎ IsSome page.mover
  by_mover true k = inr k
  by_mover false k = inl (grind (arith, common_steps))

out_busy : (p : Phase) (page : Page) → is_shared page.kind ≡ false → (p ≡ phase.Starting) ⊎ IsSome page.mover → out_answer p page ≡ Ret UBusy
out_busy p page other (inl starts) = rw (other, starts) refl
out_busy p page other (inr moves) =
    let stuck : (is_starting p || is_some page.mover) ≡ true = grind (arith, common_steps) in
    rw (other, stuck) refl

-- no step of a call in progress is busy
call_not_busy : (work : Work) (cmd : Cmd) → can_answer (ctx.Uv work) cmd (Ret UBusy) ≡ true → ⊥
call_not_busy work cmd h = grind (arith, common_steps)

-- nor is one of a vCPU
vcpu_not_busy : (run : Run) (cmd : Cmd) → can_answer (ctx.Guest run) cmd (Ret UBusy) ≡ true → ⊥
vcpu_not_busy run cmd h = grind (arith, common_steps)

module _ (plan : Plan) (past : List Event) (e : Event) (extends : Extends plan past e) where
  abbrev cpu : CpuPart
  cpu = cpu_after plan e.trace.cpu past

  busy_from : (c : Ctx) (cmd : Cmd) → e.saw.before ≡ c → e.trace.cmd ≡ cmd → (deed_in plan past cpu c cmd).answer ≡ Ret UBusy → BusyCause plan past e
  busy_from ctx.Hv (UPagein lpid src gpa flags order) before cmd_is h = BusyPageIn (page_in_finds plan past (ask_in cpu ctx.Hv (UPagein lpid src gpa flags order)) lpid src gpa flags order IsBusyIn e (Ret UBusy) before cmd_is refl h (busy_in (page_after plan past lpid (page_of plan gpa)) (pool_after plan past)))
  busy_from ctx.Hv (UPageout lpid dest gpa flags order) before cmd_is h = BusyPageOut (page_out_finds plan past (ask_in cpu ctx.Hv (UPageout lpid dest gpa flags order)) lpid dest gpa flags order IsBusyOut e (Ret UBusy) before cmd_is refl h (busy_out (part_after plan past lpid).phase (page_after plan past lpid (page_of plan gpa))))
  busy_from ctx.Hv cmd before cmd_is h =
      let can : can_answer ctx.Hv cmd (Ret UBusy) ≡ true = ap (can_answer ctx.Hv cmd) (sym h) ∙ deed_can plan past ctx.Hv (ask_in cpu ctx.Hv cmd) cmd in
      absurd (cc)
  busy_from (ctx.Uv work) cmd before cmd_is h = absurd (call_not_busy work cmd (ap (can_answer (ctx.Uv work) cmd) (sym h) ∙ deed_can plan past (ctx.Uv work) (ask_in cpu (ctx.Uv work) cmd) cmd))
  busy_from (ctx.Guest run) cmd before cmd_is h = absurd (vcpu_not_busy run cmd (ap (can_answer (ctx.Guest run) cmd) (sym h) ∙ deed_can plan past (ctx.Guest run) (ask_in cpu (ctx.Guest run) cmd) cmd))

  busy_to : BusyCause plan past e → e.trace.answer ≡ Ret UBusy
  busy_to (BusyPageIn asks) =
      let cmd : Cmd = UPagein asks.lpid asks.src asks.gpa asks.flags asks.order in
      ap (λ (d : Deed). d.answer) (deed_is plan past e ctx.Hv cmd extends asks.before asks.cmd_is) ∙ in_answers plan past (ask_in cpu ctx.Hv cmd) asks.lpid asks.src asks.gpa asks.flags asks.order asks.right ∙ in_busy (page_after plan past asks.lpid (page_of plan asks.gpa)) (pool_after plan past) asks.found
  busy_to (BusyPageOut asks) =
      let cmd : Cmd = UPageout asks.lpid asks.dest asks.gpa asks.flags asks.order in
      ap (λ (d : Deed). d.answer) (deed_is plan past e ctx.Hv cmd extends asks.before asks.cmd_is) ∙ out_answers plan past (ask_in cpu ctx.Hv cmd) asks.lpid asks.dest asks.gpa asks.flags asks.order asks.right
      ∙ out_busy (part_after plan past asks.lpid).phase (page_after plan past asks.lpid (page_of plan asks.gpa)) asks.found.0 asks.found.1

pub busy_exactly_where : BusyExactlyWhere
busy_exactly_where plan past e extends = (
  λ is. busy_from plan past e extends e.saw.before e.trace.cmd refl refl (sym (ap (λ (d : Deed). d.answer) (deed_is plan past e e.saw.before e.trace.cmd extends refl refl)) ∙ is),
  busy_to plan past e extends,
)
