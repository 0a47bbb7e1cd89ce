-- Where the calls for memory slots are accepted.
use Rattle.std.proofs.Common.{◌≡◌, ℕ, ◌/◌, ◌^◌, ◌<◌, ◌==◌, ◌&&◌, nat_le, Bool, true, false, not, if◌then◌else◌, length, refl, ap, sym, subst, ◌∙◌, arith}
use Rattle.std.specs.Prelude.{◌↔◌}
use Rattle.std.proofs.lemmas.Grind.{common_steps}
use Rattle.std.proofs.lemmas.Bool.{not-false}
use Rattle.std.proofs.lemmas.Bool.Decides.{nat_tests}
use Rattle.pef_model.specs.declared.state.Ctx.TheVariants as ctx
use Rattle.pef_model.specs.declared.command.Code.{Code}
use Rattle.pef_model.specs.declared.command.Code.TheVariants.{USuccess, UParameter, UP2, UP3, UP4, UP5}
use Rattle.pef_model.specs.declared.command.Cmd.{Cmd}
use Rattle.pef_model.specs.declared.command.Cmd.TheVariants.{URegslot, UUnregslot}
use Rattle.pef_model.specs.declared.entry.Answer.{Answer}
use Rattle.pef_model.specs.declared.entry.Answer.TheVariants.{Ret}
use Rattle.pef_model.specs.Plan.{Plan, IsWithin}
use Rattle.pef_model.specs.Target.{Ask, Alone, AtGuest}
use Rattle.pef_model.specs.Slots.{has_id, meets_slots}
use Rattle.pef_model.specs.GuestPart.{GuestPart, page_of}
use Rattle.pef_model.specs.PageOut.{has_page}
use Rattle.pef_model.specs.SlotCalls.{may_change_slots_in, has_pages, register_code, unregister_code}
use Rattle.pef_model.specs.Deed.{Deed}
use Rattle.pef_model.specs.History.{cpu_after, deed_after, part_after}
use Rattle.pef_model.specs.CauseLaw.{MayBeRegistered, RegistersExactlyWhere, UnregistersExactlyWhere}
use Rattle.pef_model.proofs.Folds.{test_same}
use Rattle.pef_model.proofs.Unmapped.{passed}
use Rattle.pef_model.proofs.PageCalls.{within_test, test_within}
use Rattle.pef_model.proofs.DeedOf.{ask_in, deed_is}

true_not_false : true ≡ false → ⊥
true_not_false h = cc

code_in : {a b : Code} → Ret a ≡ Ret b → a ≡ b
code_in h = cc

-- the tests of UV_REGISTER_MEM_SLOT
abbrev Accepted : Plan → GuestPart → ℕ → ℕ → ℕ → ℕ → Type 0
Accepted plan g start size flags id =
    (may_change_slots_in g.phase ≡ true) × (has_page plan start ≡ true) × (has_pages plan (page_of plan start) size ≡ true) × (meets_slots g.slots (page_of plan start) (size / 2 ^ plan.shift) ≡ false) × (flags ≡ 0) × (id < 2 ^ 16)
    × (has_id g.slots id ≡ false) × (length g.slots < 32)

all_passed : (plan : Plan) (g : GuestPart) (start size flags id : ℕ) → register_code plan g start size flags id ≡ USuccess → Accepted plan g start size flags id
all_passed plan g start size flags id h =
    let phases = passed (not (may_change_slots_in g.phase)) UParameter _ (λ k. cc) h in
    let starts = passed (not (has_page plan start)) UP2 _ (λ k. cc) phases.1 in
    let sizes = passed (not (has_pages plan (page_of plan start) size)) UP3 _ (λ k. cc) starts.1 in
    let overlaps = passed (meets_slots g.slots (page_of plan start) (size / 2 ^ plan.shift)) UP3 _ (λ k. cc) sizes.1 in
    let flagged = passed (not (flags == 0)) UP4 _ (λ k. cc) overlaps.1 in
    let great = passed (nat_le (2 ^ 16) id) UP5 _ (λ k. cc) flagged.1 in
    let taken = passed (has_id g.slots id) UP5 _ (λ k. cc) great.1 in
    let full = passed (nat_le 32 (length g.slots)) UP5 USuccess (λ k. cc) taken.1 in (
      not-false (may_change_slots_in g.phase) phases.0,
      not-false (has_page plan start) starts.0,
      not-false (has_pages plan (page_of plan start) size) sizes.0,
      overlaps.0,
      test_same flags 0 (not-false (flags == 0) flagged.0),
      (let above = great.0 in grind (arith, nat_tests)),
      taken.0,
      (let few = full.0 in grind (arith, nat_tests)),
    )

all_pass : (plan : Plan) (g : GuestPart) (start size flags id : ℕ) → Accepted plan g start size flags id → register_code plan g start size flags id ≡ USuccess
all_pass plan g start size flags id (may, page, pages, apart, none, small, free, room) =
    let flagged : (flags == 0) ≡ true = ap (λ (n : ℕ). n == 0) none in
    let id_is : nat_le (2 ^ 16) id ≡ false = grind (arith, nat_tests) in
    let few : nat_le 32 (length g.slots) ≡ false = grind (arith, nat_tests) in
    rw (may, page, pages, apart, flagged, id_is, free, few) refl

pub registers_exactly_where : RegistersExactlyWhere
registers_exactly_where plan past e lpid start size flags id extends before cmd_is =
    subst (λ (a : Answer). (a ≡ Ret USuccess) ↔ MayBeRegistered plan past lpid start size flags id) (sym (ap (λ (d : Deed). d.answer) (deed_is plan past e ctx.Hv cmd extends before cmd_is))) (by_test (nat_le 1 lpid && nat_le lpid plan.guests) refl) where
      cmd : Cmd
      cmd = URegslot lpid start size flags id

      ask : Ask
      ask = ask_in (cpu_after plan e.trace.cpu past) ctx.Hv cmd

      by_test : (b : Bool) → (nat_le 1 lpid && nat_le lpid plan.guests) ≡ b → ((deed_after plan past ask cmd (if b then AtGuest lpid else Alone)).answer ≡ Ret USuccess) ↔ MayBeRegistered plan past lpid start size flags id
      by_test false t = (λ h. cc, λ may. absurd (true_not_false (sym (test_within lpid plan.guests may.guest) ∙ t)))
      by_test true t = (
        λ h. (let (may, page, pages, apart, none, small, free, room) = all_passed plan (part_after plan past lpid) start size flags id (code_in h) in
            record { guest = within_test lpid plan.guests t; phase = may; page = page; pages = pages; apart = apart; flags_are = none; id_is = small; free = free; room = room }),
        λ may. ap Ret (all_pass plan (part_after plan past lpid) start size flags id (may.phase, may.page, may.pages, may.apart, may.flags_are, may.id_is, may.free, may.room)),
      )

guest_unregisters : (g : GuestPart) (id : ℕ) → (unregister_code g id ≡ USuccess) ↔ ((may_change_slots_in g.phase ≡ true) × (has_id g.slots id ≡ true))
guest_unregisters g id = (λ h. (grind (arith, common_steps), grind (arith, common_steps)), λ (may, there). grind (arith, common_steps))

pub unregisters_exactly_where : UnregistersExactlyWhere
unregisters_exactly_where plan past e lpid id extends before cmd_is =
    subst (λ (a : Answer). (a ≡ Ret USuccess) ↔ Where) (sym (ap (λ (d : Deed). d.answer) (deed_is plan past e ctx.Hv cmd extends before cmd_is))) (by_test (nat_le 1 lpid && nat_le lpid plan.guests) refl) where
      cmd : Cmd
      cmd = UUnregslot lpid id

      ask : Ask
      ask = ask_in (cpu_after plan e.trace.cpu past) ctx.Hv cmd

      g : GuestPart
      g = part_after plan past lpid

      Where : Type 0
      Where = IsWithin 1 plan.guests lpid × (may_change_slots_in g.phase ≡ true) × (has_id g.slots id ≡ true)

      by_test : (b : Bool) → (nat_le 1 lpid && nat_le lpid plan.guests) ≡ b → ((deed_after plan past ask cmd (if b then AtGuest lpid else Alone)).answer ≡ Ret USuccess) ↔ Where
      by_test false t = (λ h. cc, λ (guest, may, there). absurd (true_not_false (sym (test_within lpid plan.guests guest) ∙ t)))
      by_test true t =
          let at = guest_unregisters g id in
          (λ h. (let (may, there) = at.0 (code_in h) in (within_test lpid plan.guests t, may, there)), λ (guest, may, there). ap Ret (at.1 (may, there)))
