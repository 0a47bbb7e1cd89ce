-- Where UV_PAGE_INVAL is accepted, and which change it makes then.
use Rattle.std.proofs.Common.{◌≡◌, ℕ, ◌<◌, ◌==◌, ◌&&◌, nat_le, nat_lt, List, Bool, true, false, not, if◌then◌else◌, refl, sym, arith}
use Rattle.std.proofs.lemmas.Bool.{and_parts, not-false}
use Rattle.std.proofs.lemmas.Bool.Decides.{nat_tests}
use Rattle.pef_model.specs.declared.state.Ctx.TheVariants as ctx
use Rattle.pef_model.specs.declared.command.Code.{Code}
use Rattle.pef_model.specs.declared.command.Code.TheVariants.{USuccess, UParameter, UP2, UP3}
use Rattle.pef_model.specs.declared.command.Cmd.TheVariants.{UInval}
use Rattle.pef_model.specs.declared.entry.Answer.TheVariants as answer
use Rattle.pef_model.specs.Plan.{Plan}
use Rattle.pef_model.specs.Event.{Event, Mark}
use Rattle.pef_model.specs.Target.{AtGuest, target_in}
use Rattle.pef_model.specs.Cpu.{CpuPart}
use Rattle.pef_model.specs.GuestPart.{GuestPart, page_of, with_page_unmapped}
use Rattle.pef_model.specs.PageOut.{has_page}
use Rattle.pef_model.specs.PageIn.{may_page_in_in}
use Rattle.pef_model.specs.PageInval.{may_be_dropped, page_inval_code}
use Rattle.pef_model.specs.Deed.{answering}
use Rattle.pef_model.specs.History.{deed_after, part_after}
use Rattle.pef_model.proofs.Folds.{test_same}
use Rattle.pef_model.proofs.Changes.{Change, Unmaps, asked, entry, at_one, at_guest}
use Rattle.pef_model.proofs.PageInChanges.{numbered}

-- where a test holds that answers a refusal, the call isn't accepted
pub passed : (b : Bool) (code rest : Code) → (code ≡ USuccess → ⊥) → (if b then code else rest) ≡ USuccess → (b ≡ false) × (rest ≡ USuccess)
passed true code rest refuses h = absurd (refuses h)
passed false code rest refuses h = (refl, h)

-- what UV_PAGE_INVAL is accepted for: a page of the guest that is Invalid or Shared, and the order of a page's size
pub record IsAccepted (plan : Plan) (g : GuestPart) (gpa order : ℕ) : Type 0 where
  pub allowed : may_page_in_in g.phase ≡ true
  pub page : has_page plan gpa ≡ true
  pub drops : may_be_dropped (g.pages (page_of plan gpa)).kind ≡ true
  pub order_is : order ≡ plan.shift

-- by its operands
pub accepted : (plan : Plan) (g : GuestPart) (gpa order : ℕ) → page_inval_code plan g gpa order ≡ USuccess → IsAccepted plan g gpa order
accepted plan g gpa order h =
    let phases = passed (not (may_page_in_in g.phase)) UParameter _ (λ k. cc) h in
    let pages = passed (not (has_page plan gpa && may_be_dropped (g.pages (page_of plan gpa)).kind)) UP2 _ (λ k. cc) phases.1 in
    let orders = passed (not (order == plan.shift)) UP3 USuccess (λ k. cc) pages.1 in
    let both = and_parts (has_page plan gpa) (may_be_dropped (g.pages (page_of plan gpa)).kind) (not-false (has_page plan gpa && may_be_dropped (g.pages (page_of plan gpa)).kind) pages.0) in
    record { allowed = not-false (may_page_in_in g.phase) phases.0; page = both.0; drops = both.1; order_is = test_same order plan.shift (not-false (order == plan.shift) orders.0) }

-- a page's address is below the end of the pages
page_below : (plan : Plan) (gpa : ℕ) → has_page plan gpa ≡ true → page_of plan gpa < plan.pages
page_below plan gpa page =
    let place = and_parts _ (nat_lt (page_of plan gpa) plan.pages) page in
    let below : nat_lt (page_of plan gpa) plan.pages ≡ true = place.1 in
    grind (arith, nat_tests)

module _ (plan : Plan) (past : List Event) (cpu : CpuPart) (mark : Mark) (h : cpu.ctx ≡ ctx.Hv) where
  -- it takes the page's normal frame, if it is accepted
  pub inval : (lpid gpa order : ℕ) → target_in plan ctx.Hv cpu.lpid (UInval lpid gpa order) ≡ AtGuest lpid →
      Change plan past cpu (entry cpu ctx.Hv mark (UInval lpid gpa order) (deed_after plan past (asked cpu ctx.Hv (UInval lpid gpa order)) (UInval lpid gpa order) (AtGuest lpid)))
  inval lpid gpa order target = by_code (page_inval_code plan g gpa order) refl where
    g : GuestPart
    g = part_after plan past lpid

    event : Code → Event
    event code = entry cpu ctx.Hv mark (UInval lpid gpa order) (answering (asked cpu ctx.Hv (UInval lpid gpa order)) (answer.Ret code))

    by_code : (code : Code) → page_inval_code plan g gpa order ≡ code → Change plan past cpu (event code)
    by_code USuccess t =
        let is = accepted plan g gpa order t in
        Unmaps (record {
          lpid = lpid;
          gfn = page_of plan gpa;
          drops = is.drops;
          placed = page_below plan gpa is.page;
          number = numbered plan lpid (nat_le 1 lpid && nat_le lpid plan.guests) refl target;
          allowed = is.allowed;
          cpu_is = record { ctx_is = sym h; hand_is = refl; lpid_is = refl };
          parts = at_guest plan past (event USuccess) lpid (with_page_unmapped g (page_of plan gpa)) target refl;
          pool = refl;
        })
    by_code code t = at_one plan past cpu (event code) lpid (record { ctx_is = sym h; hand_is = refl; lpid_is = refl }) target refl refl
