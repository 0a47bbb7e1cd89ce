-- Where a page begins to move, and where a vCPU is taken up.
use Rattle.std.proofs.Common.{◌≡◌, ◌≢◌, ℕ, ◌<◌, List, true, false, nat_lt, Option, Some, None, refl, ap, sym, subst, ◌∙◌, arith}
use Rattle.std.specs.Prelude.{is_some, ◌↔◌}
use Rattle.std.proofs.lemmas.Grind.{common_steps}
use Rattle.std.proofs.lemmas.Bool.Decides.{nat_tests}
use Rattle.pef_model.specs.declared.state.Phase.{Phase}
use Rattle.pef_model.specs.declared.state.Phase.TheVariants as phase
use Rattle.pef_model.specs.declared.state.Mover.{Mover}
use Rattle.pef_model.specs.declared.state.Ctx.TheVariants as ctx
use Rattle.pef_model.specs.declared.command.Cmd.{Cmd}
use Rattle.pef_model.specs.declared.command.Cmd.TheVariants.{UPagein, UPageout, UReturn}
use Rattle.pef_model.specs.declared.entry.Answer.{Answer}
use Rattle.pef_model.specs.declared.entry.Answer.TheVariants.{Step, Enter}
use Rattle.pef_model.specs.Plan.{Plan}
use Rattle.pef_model.specs.Event.{Event}
use Rattle.pef_model.specs.Target.{Ask}
use Rattle.pef_model.specs.Cpu.{CpuPart}
use Rattle.pef_model.specs.GuestPart.{Page, GuestPart, page_of, is_shared}
use Rattle.pef_model.specs.PageOut.{is_starting}
use Rattle.pef_model.specs.Deed.{Deed, may_return_in, is_waiting, deed_return}
use Rattle.pef_model.specs.History.{cpu_after, pool_after, Extends, part_after, page_after}
use Rattle.pef_model.specs.CauseLaw.{IsReadyIn, IsReadyOut, BeginCause, BeginsPageIn, BeginsPageOut, BeginsExactlyWhere, EntersExactlyWhere}
use Rattle.pef_model.specs.AnswerLaw.{can_answer}
use Rattle.pef_model.proofs.AnswerRows.{deed_can}
use Rattle.pef_model.proofs.PageCalls.{in_answer, out_answer, in_answers, out_answers, page_in_finds, page_out_finds, comes_unshared}
use Rattle.pef_model.proofs.DeedOf.{ask_in, deed_in, deed_is}

some_free : (n : ℕ) → nat_lt 0 n ≡ true → 0 < n
some_free n h = grind (arith, nat_tests)

free_test : (n : ℕ) → 0 < n → nat_lt 0 n ≡ true
free_test n h = grind (arith, nat_tests)

-- no mover, as a test
at_rest : (mover : Option Mover) → is_some mover ≡ false → mover ≡ None
at_rest None h = refl
at_rest (Some mover) h = cc

not_starting : (p : Phase) → is_starting p ≡ false → p ≢ phase.Starting
not_starting p h is = cc

starting_not : (p : Phase) → p ≢ phase.Starting → is_starting p ≡ false
starting_not phase.Absent other = refl
starting_not phase.Normal other = refl
starting_not phase.Starting other = absurd (other refl)
starting_not phase.Secure other = refl
starting_not phase.Aborting other = refl

-- what a page-in that begins finds
ready_in : (page : Page) (free : ℕ) → in_answer page free ≡ Step → IsReadyIn page free
ready_in page free h = (at_rest page.mover (grind (arith, common_steps)), λ other. some_free free (grind (arith, common_steps)))

in_ready : (page : Page) (free : ℕ) → is_shared page.kind ≡ false → IsReadyIn page free → in_answer page free ≡ Step
in_ready page free other ready = rw (ready.0, free_test free (ready.1 other)) refl

-- and a page-out
ready_out : (p : Phase) (page : Page) → out_answer p page ≡ Step → IsReadyOut p page
ready_out p page h = (grind (arith, common_steps), not_starting p (grind (arith, common_steps)), at_rest page.mover (grind (arith, common_steps)))

out_ready : (p : Phase) (page : Page) → IsReadyOut p page → out_answer p page ≡ Step
out_ready p page ready = rw (ready.0, starting_not p ready.1, ready.2) refl

module _ (plan : Plan) (past : List Event) (e : Event) (extends : Extends plan past e) (before : e.saw.before ≡ ctx.Hv) where
  abbrev cpu : CpuPart
  cpu = cpu_after plan e.trace.cpu past

  begins_from : (cmd : Cmd) → e.trace.cmd ≡ cmd → (deed_in plan past cpu ctx.Hv cmd).answer ≡ Step → BeginCause plan past e
  begins_from (UPagein lpid src gpa flags order) cmd_is h = BeginsPageIn (page_in_finds plan past (ask_in cpu ctx.Hv (UPagein lpid src gpa flags order)) lpid src gpa flags order IsReadyIn e Step before cmd_is refl h (λ other. ready_in (page_after plan past lpid (page_of plan gpa)) (pool_after plan past)))
  begins_from (UPageout lpid dest gpa flags order) cmd_is h = BeginsPageOut (page_out_finds plan past (ask_in cpu ctx.Hv (UPageout lpid dest gpa flags order)) lpid dest gpa flags order IsReadyOut e Step before cmd_is refl h (ready_out (part_after plan past lpid).phase (page_after plan past lpid (page_of plan gpa))))
  begins_from cmd cmd_is h =
      let can : can_answer ctx.Hv cmd Step ≡ true = ap (can_answer ctx.Hv cmd) (sym h) ∙ deed_can plan past ctx.Hv (ask_in cpu ctx.Hv cmd) cmd in
      absurd (cc)

  answer_is : (cmd : Cmd) → e.trace.cmd ≡ cmd → e.trace.answer ≡ (deed_in plan past cpu ctx.Hv cmd).answer
  answer_is cmd cmd_is = ap (λ (d : Deed). d.answer) (deed_is plan past e ctx.Hv cmd extends before cmd_is)

  begins_to : BeginCause plan past e → e.trace.answer ≡ Step
  begins_to (BeginsPageIn asks) =
      let cmd : Cmd = UPagein asks.lpid asks.src asks.gpa asks.flags asks.order in
      answer_is cmd asks.cmd_is ∙ in_answers plan past (ask_in cpu ctx.Hv cmd) asks.lpid asks.src asks.gpa asks.flags asks.order asks.right
      ∙ in_ready (page_after plan past asks.lpid (page_of plan asks.gpa)) (pool_after plan past) (comes_unshared plan past (ask_in cpu ctx.Hv cmd) asks.lpid asks.src asks.gpa asks.flags asks.order asks.right) asks.found
  begins_to (BeginsPageOut asks) =
      let cmd : Cmd = UPageout asks.lpid asks.dest asks.gpa asks.flags asks.order in
      answer_is cmd asks.cmd_is ∙ out_answers plan past (ask_in cpu ctx.Hv cmd) asks.lpid asks.dest asks.gpa asks.flags asks.order asks.right
      ∙ out_ready (part_after plan past asks.lpid).phase (page_after plan past asks.lpid (page_of plan asks.gpa)) asks.found

pub begins_exactly_where : BeginsExactlyWhere
begins_exactly_where plan past e extends before = (
  λ is. begins_from plan past e extends before e.trace.cmd refl (sym (answer_is plan past e extends before e.trace.cmd refl) ∙ is),
  begins_to plan past e extends before,
)

-- UV_RETURN at a guest
returns_where : (g : GuestPart) (ask : Ask) → ((deed_return g ask).answer ≡ Enter) ↔ ((may_return_in g.phase ≡ true) × (is_waiting (g.vcpus ask.vid).state ≡ true))
returns_where g ask = (λ h. (grind (arith, common_steps), grind (arith, common_steps)), λ (may, waits). grind (arith, common_steps))

-- what it tells of its selection is its CPU's
pub enters_exactly_where : EntersExactlyWhere
enters_exactly_where plan past e r0 r2 outs extends before cmd_is =
    subst (λ (a : Answer). (a ≡ Enter) ↔ (May e.saw.lpid e.saw.vid)) (sym answer_is)
    (subst (λ (lpid : ℕ). ((deed_return (part_after plan past lpid) ask).answer ≡ Enter) ↔ May lpid e.saw.vid) lpid_is
    (subst (λ (vid : ℕ). ((deed_return (part_after plan past cpu.lpid) ask).answer ≡ Enter) ↔ May cpu.lpid vid) vid_is
    (returns_where (part_after plan past cpu.lpid) ask))) where
      cpu : CpuPart
      cpu = cpu_after plan e.trace.cpu past

      ask : Ask
      ask = ask_in cpu ctx.Hv (UReturn r0 r2 outs)

      May : ℕ → ℕ → Type 0
      May lpid vid = (may_return_in (part_after plan past lpid).phase ≡ true) × (is_waiting ((part_after plan past lpid).vcpus vid).state ≡ true)

      lpid_is : cpu.lpid ≡ e.saw.lpid
      lpid_is = sym (ap (λ (x : Event). x.saw.lpid) extends.is)

      vid_is : cpu.vid ≡ e.saw.vid
      vid_is = sym (ap (λ (x : Event). x.saw.vid) extends.is)

      answer_is : e.trace.answer ≡ (deed_return (part_after plan past e.saw.lpid) ask).answer
      answer_is = ap (λ (d : Deed). d.answer) (deed_is plan past e ctx.Hv (UReturn r0 r2 outs) extends before cmd_is) ∙ ap (λ (lpid : ℕ). (deed_return (part_after plan past lpid) ask).answer) lpid_is
