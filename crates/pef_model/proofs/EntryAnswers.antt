-- Where a vCPU of a guest in normal memory is entered, a partition entry written, and a vCPU selected.
use Rattle.std.proofs.Common.{◌≡◌, ℕ, ◌≤◌, ◌<◌, ◌+◌, Bool, true, false, ◌&&◌, nat_le, if◌then◌else◌, refl, ap, sym, subst, ◌∙◌, ◌⊎◌, inl, inr, arith}
use Rattle.std.specs.Prelude.{◌↔◌}
use Rattle.std.proofs.lemmas.Grind.{common_steps}
use Rattle.std.proofs.lemmas.Bool.Decides.{nat_tests}
use Rattle.pef_model.specs.declared.state.Phase.{Phase}
use Rattle.pef_model.specs.declared.state.Phase.TheVariants as phase
use Rattle.pef_model.specs.declared.state.Ctx.TheVariants as ctx
use Rattle.pef_model.specs.declared.command.Code.TheVariants.{USuccess}
use Rattle.pef_model.specs.declared.command.Cmd.{Cmd}
use Rattle.pef_model.specs.declared.command.Cmd.TheVariants.{HSelect, HEnter, UPate}
use Rattle.pef_model.specs.declared.entry.Answer.{Answer}
use Rattle.pef_model.specs.declared.entry.Answer.TheVariants.{Done, Ret, Enter}
use Rattle.pef_model.specs.Plan.{Plan, IsWithin}
use Rattle.pef_model.specs.Target.{Ask, Alone, AtGuest, frame_of}
use Rattle.pef_model.specs.GuestPart.{GuestPart}
use Rattle.pef_model.specs.PageOut.{has_frame}
use Rattle.pef_model.specs.Entry.{may_write_in, can_be_entered}
use Rattle.pef_model.specs.Deed.{Deed, answer_select, deed_enter, deed_write}
use Rattle.pef_model.specs.History.{cpu_after, deed_after, part_after}
use Rattle.pef_model.specs.CauseLaw.{MayBeWritten, EntersNormalExactlyWhere, WritesExactlyWhere, SelectsExactlyWhere}
use Rattle.pef_model.proofs.PageCalls.{within_test, test_within}
use Rattle.pef_model.proofs.DeedOf.{ask_in, deed_is}

true_not_false : true ≡ false → ⊥
true_not_false h = cc

-- h.enter at a guest
guest_enters : (plan : Plan) (g : GuestPart) (ask : Ask) (lpid vid : ℕ) → ((deed_enter plan g ask lpid vid).answer ≡ Enter) ↔ ((g.phase ≡ phase.Normal) × (vid < plan.vcpus) × (can_be_entered (g.vcpus vid).state ≡ true))
guest_enters plan g ask lpid vid = (λ h. (grind (arith, nat_tests, common_steps), grind (arith, nat_tests, common_steps), grind (arith, nat_tests, common_steps)), λ (normal, small, can). grind (arith, nat_tests, common_steps))

pub enters_normal_exactly_where : EntersNormalExactlyWhere
enters_normal_exactly_where plan past e lpid vid value extends before cmd_is =
    subst (λ (a : Answer). (a ≡ Enter) ↔ Where) (sym (ap (λ (d : Deed). d.answer) (deed_is plan past e ctx.Hv cmd extends before cmd_is))) (by_test (nat_le 1 lpid && nat_le lpid plan.guests) refl) where
      cmd : Cmd
      cmd = HEnter lpid vid value

      ask : Ask
      ask = ask_in (cpu_after plan e.trace.cpu past) ctx.Hv cmd

      Where : Type 0
      Where = IsWithin 1 plan.guests lpid × ((part_after plan past lpid).phase ≡ phase.Normal) × (vid < plan.vcpus) × (can_be_entered ((part_after plan past lpid).vcpus vid).state ≡ true)

      by_test : (b : Bool) → (nat_le 1 lpid && nat_le lpid plan.guests) ≡ b → ((deed_after plan past ask cmd (if b then AtGuest lpid else Alone)).answer ≡ Enter) ↔ Where
      by_test false t = (λ h. cc, λ (guest, normal, small, can). absurd (true_not_false (sym (test_within lpid plan.guests guest) ∙ t)))
      by_test true t = let at = guest_enters plan (part_after plan past lpid) ask lpid vid in (λ h. (let (normal, small, can) = at.0 h in (within_test lpid plan.guests t, normal, small, can)), λ (guest, normal, small, can). at.1 (normal, small, can))

-- a partition entry may be written in these phases
written_phase : (p : Phase) → may_write_in p ≡ true → (p ≡ phase.Absent) ⊎ (p ≡ phase.Normal)
written_phase phase.Absent h = inl refl
written_phase phase.Normal h = inr refl
written_phase p h = cc

phase_written : (p : Phase) → (p ≡ phase.Absent) ⊎ (p ≡ phase.Normal) → may_write_in p ≡ true
phase_written p (inl is) = ap may_write_in is
phase_written p (inr is) = ap may_write_in is

-- UV_WRITE_PATE at a guest
guest_written : (plan : Plan) (g : GuestPart) (ask : Ask) (dw0 dw1 : ℕ) →
    ((deed_write plan g ask dw0 dw1).answer ≡ Ret USuccess) ↔ ((may_write_in g.phase ≡ true) × (has_frame plan dw0 ≡ true) × (dw1 ≤ plan.pages) × (frame_of plan dw0 + dw1 ≤ plan.normal))
guest_written plan g ask dw0 dw1 = (
  λ h. (grind (arith, nat_tests, common_steps), grind (arith, nat_tests, common_steps), grind (arith, nat_tests, common_steps), grind (arith, nat_tests, common_steps)),
  λ (may, frame, pages, frames). grind (arith, nat_tests, common_steps),
)

pub writes_exactly_where : WritesExactlyWhere
writes_exactly_where plan past e lpid dw0 dw1 extends before cmd_is =
    subst (λ (a : Answer). (a ≡ Ret USuccess) ↔ MayBeWritten plan past lpid dw0 dw1) (sym (ap (λ (d : Deed). d.answer) (deed_is plan past e ctx.Hv cmd extends before cmd_is))) (by_test (nat_le 1 lpid && nat_le lpid plan.guests) refl) where
      cmd : Cmd
      cmd = UPate lpid dw0 dw1

      ask : Ask
      ask = ask_in (cpu_after plan e.trace.cpu past) ctx.Hv cmd

      by_test : (b : Bool) → (nat_le 1 lpid && nat_le lpid plan.guests) ≡ b → ((deed_after plan past ask cmd (if b then AtGuest lpid else Alone)).answer ≡ Ret USuccess) ↔ MayBeWritten plan past lpid dw0 dw1
      by_test false t = (λ h. cc, λ may. absurd (true_not_false (sym (test_within lpid plan.guests may.guest) ∙ t)))
      by_test true t =
          let at = guest_written plan (part_after plan past lpid) ask dw0 dw1 in (
            λ h. (let (may, frame, pages, frames) = at.0 h in record { guest = within_test lpid plan.guests t; phase = written_phase (part_after plan past lpid).phase may; frame = frame; pages = pages; frames = frames }),
            λ may. at.1 (phase_written (part_after plan past lpid).phase may.phase, may.frame, may.pages, may.frames),
          )

-- h.select, whatever it names
selects_where : (plan : Plan) (lpid vid : ℕ) → (answer_select plan lpid vid ≡ Done) ↔ (IsWithin 1 plan.guests lpid × (vid < plan.vcpus))
selects_where plan lpid vid = (λ h. ((grind (arith, nat_tests, common_steps), grind (arith, nat_tests, common_steps)), grind (arith, nat_tests, common_steps)), λ (guest, small). grind (arith, nat_tests, common_steps))

pub selects_exactly_where : SelectsExactlyWhere
selects_exactly_where plan past e lpid vid extends before cmd_is =
    subst (λ (a : Answer). (a ≡ Done) ↔ (IsWithin 1 plan.guests lpid × (vid < plan.vcpus))) (sym (ap (λ (d : Deed). d.answer) (deed_is plan past e ctx.Hv (HSelect lpid vid) extends before cmd_is))) (selects_where plan lpid vid)
