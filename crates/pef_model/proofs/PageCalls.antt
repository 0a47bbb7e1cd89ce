-- What the calls that move a page answer where their operands are right, and that these are right where a call answers for the page's sake.
use Rattle.std.proofs.Common.{◌≡◌, ℕ, ◌≤◌, List, Bool, true, false, ◌&&◌, ◌||◌, nat_le, nat_lt, if◌then◌else◌, Some, None, refl, sym, subst, ◌∙◌, arith}
use Rattle.std.specs.Prelude.{is_some}
use Rattle.std.proofs.lemmas.Grind.{common_steps}
use Rattle.std.proofs.lemmas.Bool.Decides.{nat_tests}
use Rattle.pef_model.specs.declared.state.Phase.{Phase}
use Rattle.pef_model.specs.declared.state.Ctx.TheVariants as ctx
use Rattle.pef_model.specs.declared.command.Code.TheVariants.{USuccess, UBusy}
use Rattle.pef_model.specs.declared.command.Cmd.TheVariants.{UPagein, UPageout}
use Rattle.pef_model.specs.declared.command.TheConstants.{PAGE_IN_FLAGS}
use Rattle.pef_model.specs.declared.entry.Answer.{Answer}
use Rattle.pef_model.specs.declared.entry.Answer.TheVariants.{Step, Ret}
use Rattle.pef_model.specs.Plan.{Plan, IsWithin}
use Rattle.pef_model.specs.Event.{Event}
use Rattle.pef_model.specs.Target.{Ask, Alone, AtGuest}
use Rattle.pef_model.specs.GuestPart.{Page, GuestPart, page_of, is_shared}
use Rattle.pef_model.specs.Guest.{Guest}
use Rattle.pef_model.specs.PageOut.{is_starting}
use Rattle.pef_model.specs.Deed.{Deed, returning, deed_page_in_with, deed_page_out_begin}
use Rattle.pef_model.specs.History.{guest_after, pool_after, deed_after, part_after, page_after}
use Rattle.pef_model.specs.CauseLaw.{IsRightIn, IsRightOut, PageInFinds, PageOutFinds}
use Rattle.pef_model.proofs.Folds.{same_test, test_same}

-- a number is within limits where the tests of it hold
pub within_test : (n m : ℕ) → (nat_le 1 n && nat_le n m) ≡ true → IsWithin 1 m n
within_test n m h = (grind (arith, nat_tests, common_steps), grind (arith, nat_tests, common_steps))

pub test_within : (n m : ℕ) → IsWithin 1 m n → (nat_le 1 n && nat_le n m) ≡ true
test_within n m h = let low : 1 ≤ n = h.0 in let high : n ≤ m = h.1 in grind (arith, nat_tests, common_steps)

not_below : (m n : ℕ) → nat_lt m n ≡ false → n ≤ m
not_below m n h = grind (arith, nat_tests)

below_not : (m n : ℕ) → n ≤ m → nat_lt m n ≡ false
below_not m n h = grind (arith, nat_tests)

pub none_free : (n : ℕ) → nat_lt 0 n ≡ false → n ≡ 0
none_free n h = grind (arith, nat_tests)

-- UV_PAGE_IN of the hypervisor, by whether it names a guest
abbrev pub in_deed : Plan → List Event → Ask → ℕ → ℕ → ℕ → ℕ → ℕ → Bool → Deed
in_deed plan past ask lpid src gpa flags order b = deed_after plan past (record ask { before = ctx.Hv }) (UPagein lpid src gpa flags order) (if b then AtGuest lpid else Alone)

-- and UV_PAGE_OUT
abbrev pub out_deed : Plan → List Event → Ask → ℕ → ℕ → ℕ → ℕ → ℕ → Bool → Deed
out_deed plan past ask lpid dest gpa flags order b = deed_after plan past (record ask { before = ctx.Hv }) (UPageout lpid dest gpa flags order) (if b then AtGuest lpid else Alone)

-- what a page-in answers where its operands are right, by the page and the number of free frames
abbrev pub in_answer : Page → ℕ → Answer
in_answer page free = if is_some page.mover then Ret UBusy else if nat_lt 0 free then Step else Ret UBusy

-- and a page-out, by its guest's phase and the page
abbrev pub out_answer : Phase → Page → Answer
out_answer phase page = if is_shared page.kind then Ret USuccess else if is_starting phase || is_some page.mover then Ret UBusy else Step

-- an answer for the page's sake: right operands and these alone have it
abbrev pub is_of_page : Answer → Bool
is_of_page Step = true
is_of_page (Ret UBusy) = true
is_of_page a = false

in_rest : (plan : Plan) (g : GuestPart) (ask : Ask) (lpid src gpa : ℕ) (moves free : Bool) →
    (returning (record ask { before = ctx.Hv }) (if moves then Some UBusy else None) (deed_page_in_with plan g (record ask { before = ctx.Hv }) lpid src gpa free)).answer ≡ (if moves then Ret UBusy else if free then Step else Ret UBusy)
in_rest plan g ask lpid src gpa true free = refl
in_rest plan g ask lpid src gpa false true = refl
in_rest plan g ask lpid src gpa false false = refl

out_rest : (plan : Plan) (g : Guest) (ask : Ask) (lpid dest gpa : ℕ) (shared stuck : Bool) →
    (returning (record ask { before = ctx.Hv }) (if shared then Some USuccess else if stuck then Some UBusy else None) (deed_page_out_begin plan g (record ask { before = ctx.Hv }) lpid dest gpa)).answer ≡ (if shared then Ret USuccess else if stuck then Ret UBusy else Step)
out_rest plan g ask lpid dest gpa true stuck = refl
out_rest plan g ask lpid dest gpa false true = refl
out_rest plan g ask lpid dest gpa false false = refl

module _ (plan : Plan) (past : List Event) (ask : Ask) (lpid ra gpa flags order : ℕ) where
  abbrev page : Page
  page = page_after plan past lpid (page_of plan gpa)

  abbrev phase : Phase
  phase = (part_after plan past lpid).phase

  abbrev free : ℕ
  free = pool_after plan past

  abbrev named : Bool
  named = nat_le 1 lpid && nat_le lpid plan.guests

  -- with right operands the page decides
  pub in_answers : IsRightIn plan past lpid ra gpa flags order → (in_deed plan past ask lpid ra gpa flags order named).answer ≡ in_answer page free
  in_answers right =
      rw (test_within lpid plan.guests right.guest, right.phase, right.frame, right.page, below_not PAGE_IN_FLAGS flags right.flags_are, right.order_is, same_test plan.shift)
      (in_rest plan (part_after plan past lpid) ask lpid ra gpa (is_some page.mover) (nat_lt 0 free))

  pub out_answers : IsRightOut plan past lpid ra gpa flags order → (out_deed plan past ask lpid ra gpa flags order named).answer ≡ out_answer phase page
  out_answers right =
      rw (test_within lpid plan.guests right.guest, right.phase, right.frame, right.page, right.kind, right.flags_are, right.order_is, same_test plan.shift)
      (out_rest plan (guest_after plan lpid past) ask lpid ra gpa (is_shared page.kind) (is_starting phase || is_some page.mover))

  -- and where a call answers for the page's sake its operands are right
  in_right : (b : Bool) → named ≡ b → is_of_page (in_deed plan past ask lpid ra gpa flags order b).answer ≡ true → IsRightIn plan past lpid ra gpa flags order
  in_right false t h = cc
  in_right true t h = record {
    guest = within_test lpid plan.guests t;
    phase = grind (arith, common_steps);
    frame = grind (arith, common_steps);
    page = grind (arith, common_steps);
    flags_are = not_below PAGE_IN_FLAGS flags (grind (arith, common_steps));
    order_is = test_same order plan.shift (grind (arith, common_steps));
  }

  out_right : (b : Bool) → named ≡ b → is_of_page (out_deed plan past ask lpid ra gpa flags order b).answer ≡ true → IsRightOut plan past lpid ra gpa flags order
  out_right false t h = cc
  out_right true t h = record {
    guest = within_test lpid plan.guests t;
    phase = grind (arith, common_steps);
    frame = grind (arith, common_steps);
    page = grind (arith, common_steps);
    kind = grind (arith, common_steps);
    flags_are = none_free flags (grind (arith, common_steps));
    order_is = test_same order plan.shift (grind (arith, common_steps));
  }

  -- a page that may come in isn't Shared
  pub comes_unshared : IsRightIn plan past lpid ra gpa flags order → is_shared page.kind ≡ false
  comes_unshared right = let may = right.page in grind (arith, common_steps)

  -- so an entry that answers for the page's sake has found what that answer says of the page
  pub page_in_finds : (IsFound : Page → ℕ → Type 0) (e : Event) (a : Answer) → e.saw.before ≡ ctx.Hv → e.trace.cmd ≡ UPagein lpid ra gpa flags order → is_of_page a ≡ true →
      (in_deed plan past ask lpid ra gpa flags order named).answer ≡ a → (is_shared page.kind ≡ false → in_answer page free ≡ a → IsFound page free) → PageInFinds IsFound plan past e
  page_in_finds IsFound e a before cmd_is of_page h found =
      let right : IsRightIn plan past lpid ra gpa flags order = in_right named refl (subst (λ (x : Answer). is_of_page x ≡ true) (sym h) of_page) in
      record { lpid = lpid; src = ra; gpa = gpa; flags = flags; order = order; before = before; cmd_is = cmd_is; right = right; found = found (comes_unshared right) (sym (in_answers right) ∙ h) }

  pub page_out_finds : (IsFound : Phase → Page → Type 0) (e : Event) (a : Answer) → e.saw.before ≡ ctx.Hv → e.trace.cmd ≡ UPageout lpid ra gpa flags order → is_of_page a ≡ true →
      (out_deed plan past ask lpid ra gpa flags order named).answer ≡ a → (out_answer phase page ≡ a → IsFound phase page) → PageOutFinds IsFound plan past e
  page_out_finds IsFound e a before cmd_is of_page h found =
      let right : IsRightOut plan past lpid ra gpa flags order = out_right named refl (subst (λ (x : Answer). is_of_page x ≡ true) (sym h) of_page) in
      record { lpid = lpid; dest = ra; gpa = gpa; flags = flags; order = order; before = before; cmd_is = cmd_is; right = right; found = found (sym (out_answers right) ∙ h) }
