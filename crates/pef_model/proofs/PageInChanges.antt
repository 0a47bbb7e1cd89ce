-- Which change a page-in makes: its begin, its copy and its end.
use Rattle.std.proofs.Common.{◌≡◌, ℕ, ◌<◌, nat_lt, List, Bool, true, false, not, refl, sym, ◌==◌, ◌&&◌, if◌then◌else◌, Option, Some, None, is_some, arith, nat_le}
use Rattle.std.proofs.lemmas.Bool.{and_parts, not-false}
use Rattle.std.proofs.lemmas.Bool.Decides.{nat_tests}
use Rattle.pef_model.specs.declared.state.Phase.{Phase}
use Rattle.pef_model.specs.declared.state.Kind.{Kind}
use Rattle.pef_model.specs.declared.state.Kind.TheVariants as kind
use Rattle.pef_model.specs.declared.state.Move.{Move}
use Rattle.pef_model.specs.declared.state.Work.TheVariants.{Inward}
use Rattle.pef_model.specs.declared.state.Ctx.TheVariants as ctx
use Rattle.pef_model.specs.declared.command.TheConstants.{PAGE_IN_FLAGS}
use Rattle.pef_model.specs.declared.command.Code.{Code}
use Rattle.pef_model.specs.declared.command.Code.TheVariants.{UParameter, UP2, UP3, UP4, UP5, UBusy}
use Rattle.pef_model.specs.declared.command.Cmd.TheVariants.{UPagein, Go}
use Rattle.pef_model.specs.Plan.{Plan, IsWithin}
use Rattle.pef_model.specs.Event.{Event, Mark}
use Rattle.pef_model.specs.Target.{Ask, AtGuest, AtFrame, frame_of, target_in, Alone}
use Rattle.pef_model.specs.Cpu.{CpuPart}
use Rattle.pef_model.specs.GuestPart.{Page, GuestPart, page_of, with_secure_page, with_page_coming, with_page_refused}
use Rattle.pef_model.specs.PageOut.{has_frame, has_page}
use Rattle.pef_model.specs.PageIn.{may_page_in_in, can_come_in, page_in_operands, is_last_sealed}
use Rattle.pef_model.specs.Deed.{Deed, coming_back, returning, deed_page_in_with, deed_page_in_test}
use Rattle.pef_model.specs.History.{pool_after, deed_after, part_after}
use Rattle.pef_model.proofs.Folds.{test_same}
use Rattle.pef_model.proofs.Changes.{Change, Comes, Reads, Accepts, Refuses, asked, entry, at_one, at_guest}
use Rattle.pef_model.proofs.Works.{inward}
use Rattle.pef_model.proofs.HypervisorChanges.{passes, no_mover, work_aims, copy_keeps, gone}

-- a page that can come in is Out
out_kind : (p : Phase) (k : Kind) → can_come_in p k ≡ true → k ≡ kind.Out
out_kind p kind.Out comes = refl
out_kind p kind.Invalid comes = cc
out_kind p kind.Secure comes = cc
out_kind p (kind.Shared frame fresh) comes = cc

-- what UV_PAGE_IN begins to move: a page of the guest that is Out at rest
record MayComeIn (plan : Plan) (g : GuestPart) (gfn : ℕ) : Type 0 where
  placed : gfn < plan.pages
  allowed : may_page_in_in g.phase ≡ true
  kind_is : (g.pages gfn).kind ≡ kind.Out
  at_rest : (g.pages gfn).mover ≡ None

-- by its operands
page_comes : (plan : Plan) (g : GuestPart) (src gpa flags order : ℕ) → page_in_operands plan g src gpa flags order ≡ None → MayComeIn plan g (page_of plan gpa)
page_comes plan g src gpa flags order h =
    let page : Page = g.pages (page_of plan gpa) in
    let phases = passes (not (may_page_in_in g.phase)) UParameter _ h in
    let frames = passes (not (has_frame plan src)) UP2 _ phases.1 in
    let pages = passes (not (has_page plan gpa && can_come_in g.phase page.kind)) UP3 _ frames.1 in
    let flagged = passes (nat_lt PAGE_IN_FLAGS flags) UP4 _ pages.1 in
    let orders = passes (not (order == plan.shift)) UP5 _ flagged.1 in
    let busy = passes (is_some page.mover) UBusy _ orders.1 in
    let comes = and_parts (has_page plan gpa) (can_come_in g.phase page.kind) (not-false (has_page plan gpa && can_come_in g.phase page.kind) pages.0) in
    let place = and_parts _ (nat_lt (page_of plan gpa) plan.pages) comes.0 in
    let below : nat_lt (page_of plan gpa) plan.pages ≡ true = place.1 in
    record { placed = grind (arith, nat_tests); allowed = not-false (may_page_in_in g.phase) phases.0; kind_is = out_kind g.phase page.kind comes.1; at_rest = no_mover page.mover busy.0 }

-- a call that aims at the guest that it names names one of the machine
pub numbered : (plan : Plan) (lpid : ℕ) (b : Bool) → (nat_le 1 lpid && nat_le lpid plan.guests) ≡ b → (if b then AtGuest lpid else Alone) ≡ AtGuest lpid → IsWithin 1 plan.guests lpid
numbered plan lpid true t aims = let parts = and_parts (nat_le 1 lpid) (nat_le lpid plan.guests) t in (grind (arith, nat_tests), grind (arith, nat_tests))
numbered plan lpid false t aims = cc

module _ (plan : Plan) (past : List Event) (cpu : CpuPart) (mark : Mark) where
  -- UV_PAGE_IN of a guest begins to move a page that is Out at rest, where a frame is free
  pub page_in : cpu.ctx ≡ ctx.Hv → (lpid src gpa flags order : ℕ) → target_in plan ctx.Hv cpu.lpid (UPagein lpid src gpa flags order) ≡ AtGuest lpid →
      Change plan past cpu (entry cpu ctx.Hv mark (UPagein lpid src gpa flags order) (deed_after plan past (asked cpu ctx.Hv (UPagein lpid src gpa flags order)) (UPagein lpid src gpa flags order) (AtGuest lpid)))
  page_in h lpid src gpa flags order target = by_code (page_in_operands plan g src gpa flags order) refl where
    ask : Ask
    ask = asked cpu ctx.Hv (UPagein lpid src gpa flags order)

    g : GuestPart
    g = part_after plan past lpid

    deed : Option Code → Bool → Deed
    deed code any = returning ask code (deed_page_in_with plan g ask lpid src gpa any)

    by_pool : MayComeIn plan g (page_of plan gpa) → (any : Bool) → nat_lt 0 (pool_after plan past) ≡ any → Change plan past cpu (entry cpu ctx.Hv mark (UPagein lpid src gpa flags order) (deed None any))
    by_pool comes true t =
        let some : 0 < pool_after plan past = grind (arith, nat_tests) in
        Comes (record {
          move = record { lpid = lpid; generation = g.generation; gfn = page_of plan gpa; frame = frame_of plan src; copied = false };
          before = h;
          generation = refl;
          kind_is = comes.kind_is;
          at_rest = comes.at_rest;
          placed = comes.placed;
          allowed = comes.allowed;
          number = numbered plan lpid (nat_le 1 lpid && nat_le lpid plan.guests) refl target;
          cpu_is = record { ctx_is = refl; hand_is = refl; lpid_is = refl };
          parts = at_guest plan past (entry cpu ctx.Hv mark (UPagein lpid src gpa flags order) (deed None true)) lpid (with_page_coming g (page_of plan gpa) mark.cpu) target refl;
          pool = omega arith;
        })
    by_pool comes false t = at_one plan past cpu _ lpid (record { ctx_is = sym h; hand_is = refl; lpid_is = refl }) target refl (omega arith)

    by_code : (code : Option Code) → page_in_operands plan g src gpa flags order ≡ code →
        Change plan past cpu (entry cpu ctx.Hv mark (UPagein lpid src gpa flags order) (deed code (nat_lt 0 (pool_after plan past))))
    by_code None t = by_pool (page_comes plan g src gpa flags order t) (nat_lt 0 (pool_after plan past)) refl
    by_code (Some code) t = at_one plan past cpu _ lpid (record { ctx_is = sym h; hand_is = refl; lpid_is = refl }) target refl refl

  -- the next step of a page-in in progress
  pub go_in : (move : Move) → cpu.ctx ≡ ctx.Uv (Inward move) → (b : Bool) → move.copied ≡ b →
      Change plan past cpu (entry cpu (ctx.Uv (Inward move)) mark Go (deed_after plan past (asked cpu (ctx.Uv (Inward move)) Go) Go (if b then AtGuest move.lpid else AtFrame move.frame)))
  go_in move h false t = Reads (record {
    move = move;
    before = h;
    read = refl;
    cpu_is = record { ctx_is = refl; hand_is = refl; lpid_is = refl };
    parts = copy_keeps plan past cpu mark (inward move) t;
    pool = refl;
  })
  go_in move h true t = by_life (move.generation == g.generation) refl where
    ask : Ask
    ask = asked cpu (ctx.Uv (Inward move)) Go

    g : GuestPart
    g = part_after plan past move.lpid

    deed : Bool → Bool → Deed
    deed same fresh = if same then deed_page_in_test ask fresh else coming_back ask UParameter

    fresh : Bool
    fresh = is_last_sealed (g.pages move.gfn).sealed ask.hand

    target : target_in plan (ctx.Uv (Inward move)) cpu.lpid Go ≡ AtGuest move.lpid
    target = work_aims plan (inward move) true t

    by_test : move.generation ≡ g.generation → (b : Bool) → Change plan past cpu (entry cpu (ctx.Uv (Inward move)) mark Go (deed true b))
    by_test same true = Accepts (record {
      move = move;
      before = h;
      generation = same;
      cpu_is = record { ctx_is = refl; hand_is = refl; lpid_is = refl };
      parts = at_guest plan past (entry cpu (ctx.Uv (Inward move)) mark Go (deed true true)) move.lpid (with_secure_page g move.gfn) target refl;
      pool = refl;
    })
    by_test same false = Refuses (record {
      move = move;
      before = h;
      generation = same;
      cpu_is = record { ctx_is = refl; hand_is = refl; lpid_is = refl };
      parts = at_guest plan past (entry cpu (ctx.Uv (Inward move)) mark Go (deed true false)) move.lpid (with_page_refused g move.gfn) target refl;
      pool = omega arith;
    })

    by_life : (b : Bool) → (move.generation == g.generation) ≡ b → Change plan past cpu (entry cpu (ctx.Uv (Inward move)) mark Go (deed b fresh))
    by_life true same = by_test (test_same move.generation g.generation same) fresh
    by_life false other = gone plan past cpu mark (inward move) h t other
