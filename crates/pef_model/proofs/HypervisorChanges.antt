-- Which change a step of the hypervisor makes, and one of its call in progress.
use Rattle.std.proofs.Common.{◌≡◌, ℕ, nat_lt, List, Bool, true, false, not, refl, ap, sym, ◌∙◌, ◌==◌, ◌&&◌, ◌||◌, if◌then◌else◌, Option, Some, None, is_some, inl, arith}
use Rattle.std.proofs.lemmas.Bool.{and_parts, not-false, or_parts}
use Rattle.std.proofs.lemmas.Bool.Decides.{nat_tests}
use Rattle.pef_model.specs.declared.state.Phase.{Phase}
use Rattle.pef_model.specs.declared.state.Phase.TheVariants as phase
use Rattle.pef_model.specs.declared.state.VState.{VState}
use Rattle.pef_model.specs.declared.state.VState.TheVariants as vstate
use Rattle.pef_model.specs.declared.state.Kind.{Kind}
use Rattle.pef_model.specs.declared.state.Kind.TheVariants as kind
use Rattle.pef_model.specs.declared.state.Move.{Move}
use Rattle.pef_model.specs.declared.state.Mover.{Mover}
use Rattle.pef_model.specs.declared.state.Run.{Run}
use Rattle.pef_model.specs.declared.state.Way.{Way}
use Rattle.pef_model.specs.declared.state.Way.TheVariants as way
use Rattle.pef_model.specs.declared.state.Work.TheVariants.{Outward}
use Rattle.pef_model.specs.declared.state.Ctx.TheVariants as ctx
use Rattle.pef_model.specs.declared.command.TheConstants.{UV_SNAPSHOT}
use Rattle.pef_model.specs.declared.command.Code.{Code}
use Rattle.pef_model.specs.declared.command.Code.TheVariants.{USuccess, UParameter, UP2, UP3, UP4, UP5, UFunction, UBusy, UInvalid}
use Rattle.pef_model.specs.declared.command.Cmd.{Cmd}
use Rattle.pef_model.specs.declared.command.Cmd.TheVariants.{HLd, HSt, UPageout, UReturn, Go}
use Rattle.pef_model.specs.declared.entry.Answer.TheVariants as answer
use Rattle.pef_model.specs.Plan.{Plan}
use Rattle.pef_model.specs.Event.{Event, Mark}
use Rattle.pef_model.specs.Target.{Ask, Alone, AtGuest, AtFrame, frame_of, work_by, aim_of_work, target_of_aim, target_in, is_guest}
use Rattle.pef_model.specs.Cpu.{CpuPart}
use Rattle.pef_model.specs.GuestPart.{Page, GuestPart, page_of, next_part, with_running_vcpu, with_page_leaving, with_page_out, is_shared}
use Rattle.pef_model.specs.Guest.{Guest}
use Rattle.pef_model.specs.PageOut.{may_page_out_in, has_frame, has_page, can_go_out, is_starting, page_out_code, bytes_out}
use Rattle.pef_model.specs.Entry.{may_enter_in}
use Rattle.pef_model.specs.Deed.{Deed, answering, giving, coming_back, returning, may_return_in, is_waiting, taken_up_in, deed_page_out_begin, deed_return}
use Rattle.pef_model.specs.History.{guest_after, deed_after, part_after}
use Rattle.pef_model.proofs.Folds.{test_same}
use Rattle.pef_model.proofs.Aims.{address_is_no_guest}
use Rattle.pef_model.proofs.Works.{PageMove, work_of, outward, vcpu_returned}
use Rattle.pef_model.proofs.Changes.{Change, LeavesCpu, KeepsParts, Begins, Copies, Ends, Drops, Takes, asked, entry, refused, at_none, at_nothing, at_one, at_guest, at_guest_same}

-- where a test holds that answers a code, no page begins to move
pub passes : (b : Bool) (code : Code) (rest : Option Code) → (if b then Some code else rest) ≡ None → (b ≡ false) × (rest ≡ None)
passes true code rest h = cc
passes false code rest h = (refl, h)

-- a page that can go out and isn't Shared is Secure
secure_kind : (k : Kind) → can_go_out k ≡ true → is_shared k ≡ false → k ≡ kind.Secure
secure_kind kind.Invalid goes alone = cc
secure_kind kind.Secure goes alone = refl
secure_kind kind.Out goes alone = cc
secure_kind (kind.Shared frame fresh) goes alone = cc

-- a page without a mover rests
pub no_mover : (mover : Option Mover) → is_some mover ≡ false → mover ≡ None
no_mover None h = refl
no_mover (Some mover) h = cc

-- a phase of UV_PAGE_OUT in which a guest isn't on its way to become secure
secure_phase : (p : Phase) → may_page_out_in p ≡ true → is_starting p ≡ false → p ≡ phase.Secure
secure_phase phase.Absent may there = cc
secure_phase phase.Normal may there = cc
secure_phase phase.Starting may there = cc
secure_phase phase.Secure may there = refl
secure_phase phase.Aborting may there = cc

-- UV_PAGE_OUT begins to move only a Secure page at rest, of a Secure guest
page_begins : (plan : Plan) (g : GuestPart) (dest gpa flags order : ℕ) → page_out_code plan g dest gpa flags order ≡ None →
    ((g.pages (page_of plan gpa)).kind ≡ kind.Secure) × ((g.pages (page_of plan gpa)).mover ≡ None) × (g.phase ≡ phase.Secure)
page_begins plan g dest gpa flags order h =
    let page : Page = g.pages (page_of plan gpa) in
    let phases = passes (not (may_page_out_in g.phase)) UParameter _ h in
    let frames = passes (not (has_frame plan dest)) UP2 _ phases.1 in
    let pages = passes (not (has_page plan gpa && can_go_out page.kind)) UP3 _ frames.1 in
    let snapshots = passes (flags == UV_SNAPSHOT) UFunction _ pages.1 in
    let flagged = passes (nat_lt 0 flags) UP4 _ snapshots.1 in
    let orders = passes (not (order == plan.shift)) UP5 _ flagged.1 in
    let shared = passes (is_shared page.kind) USuccess _ orders.1 in
    let busy = passes (is_starting g.phase || is_some page.mover) UBusy _ shared.1 in
    let goes = and_parts (has_page plan gpa) (can_go_out page.kind) (not-false (has_page plan gpa && can_go_out page.kind) pages.0) in
    let rests = or_parts (is_starting g.phase) (is_some page.mover) busy.0 in
    (secure_kind page.kind goes.1 shared.0, no_mover page.mover rests.1, secure_phase g.phase (not-false (may_page_out_in g.phase) phases.0) rests.0)

-- a vCPU that waits doesn't run
waits_not : (state : VState) (n : ℕ) → state ≡ vstate.Running n → is_waiting state ≡ true → ⊥
waits_not state n runs waits = let none : false ≡ true = ap is_waiting (sym runs) ∙ waits in cc

-- the next step of a call in progress aims as its move says
pub work_aims : (plan : Plan) (m : PageMove) (b : Bool) → m.move.copied ≡ b → target_of_aim plan (aim_of_work (work_of m) Go) ≡ (if b then AtGuest m.move.lpid else AtFrame m.move.frame)
work_aims plan m b t = by_way m.way ∙ ap (λ (c : Bool). if c then AtGuest m.move.lpid else AtFrame m.move.frame) t where
  by_way : (w : Way) → target_of_aim plan (aim_of_work (work_by w m.move) Go) ≡ (if m.move.copied then AtGuest m.move.lpid else AtFrame m.move.frame)
  by_way way.Inward = refl
  by_way way.Outward = refl

module _ (plan : Plan) (past : List Event) (cpu : CpuPart) (mark : Mark) where
  -- the hypervisor's loads and stores
  pub load : cpu.ctx ≡ ctx.Hv → (ra : ℕ) (b : Bool) →
      Change plan past cpu (entry cpu ctx.Hv mark (HLd ra) (deed_after plan past (asked cpu ctx.Hv (HLd ra)) (HLd ra) (if b then AtFrame (frame_of plan ra) else Alone)))
  load h ra true = at_nothing plan past cpu _ (record { ctx_is = sym h; hand_is = refl; lpid_is = refl }) (λ lpid. address_is_no_guest plan ra lpid) refl
  load h ra false = at_nothing plan past cpu _ (record { ctx_is = sym h; hand_is = refl; lpid_is = refl }) (λ lpid. address_is_no_guest plan ra lpid) refl

  pub store : cpu.ctx ≡ ctx.Hv → (ra value : ℕ) (b : Bool) →
      Change plan past cpu (entry cpu ctx.Hv mark (HSt ra value) (deed_after plan past (asked cpu ctx.Hv (HSt ra value)) (HSt ra value) (if b then AtFrame (frame_of plan ra) else Alone)))
  store h ra value true = at_nothing plan past cpu _ (record { ctx_is = sym h; hand_is = refl; lpid_is = refl }) (λ lpid. address_is_no_guest plan ra lpid) refl
  store h ra value false = at_nothing plan past cpu _ (record { ctx_is = sym h; hand_is = refl; lpid_is = refl }) (λ lpid. address_is_no_guest plan ra lpid) refl

  -- UV_RETURN takes up a vCPU that waits where the guest's phase allows it
  pub return : cpu.ctx ≡ ctx.Hv → (r0 r2 : ℕ) (outs : List ℕ) →
      Change plan past cpu (entry cpu ctx.Hv mark (UReturn r0 r2 outs) (deed_return (part_after plan past cpu.lpid) (asked cpu ctx.Hv (UReturn r0 r2 outs))))
  return h r0 r2 outs = by_test (may_return_in g.phase && is_waiting (g.vcpus cpu.vid).state) refl where
    ask : Ask
    ask = asked cpu ctx.Hv (UReturn r0 r2 outs)

    g : GuestPart
    g = part_after plan past cpu.lpid

    up : Run
    up = record { lpid = cpu.lpid; vid = cpu.vid; generation = g.generation }

    deed : Bool → Deed
    deed b = if b then (record (answering ask answer.Enter) { after = taken_up_in (g.vcpus cpu.vid).state up }) else answering ask (answer.Ret UInvalid)

    by_test : (b : Bool) → may_return_in g.phase && is_waiting (g.vcpus cpu.vid).state ≡ b → Change plan past cpu (entry cpu ctx.Hv mark (UReturn r0 r2 outs) (deed b))
    by_test true t =
        let parts = and_parts (may_return_in g.phase) (is_waiting (g.vcpus cpu.vid).state) t in
        Takes (record {
          before = h;
          lpid = cpu.lpid;
          vid = cpu.vid;
          allowed = ap (λ (b : Bool). b || may_enter_in g.phase) parts.0;
          rests = λ n runs. waits_not (g.vcpus cpu.vid).state n runs parts.1;
          number = inl refl;
          after = taken_up_in (g.vcpus cpu.vid).state up;
          runs = vcpu_returned (g.vcpus cpu.vid).state up;
          cpu_is = record { ctx_is = refl; hand_is = refl; lpid_is = refl };
          parts = at_guest plan past (entry cpu ctx.Hv mark (UReturn r0 r2 outs) (deed true)) cpu.lpid (with_running_vcpu g cpu.vid mark.cpu) refl refl;
          pool = refl;
        })
    by_test false t = at_one plan past cpu _ cpu.lpid (record { ctx_is = sym h; hand_is = refl; lpid_is = refl }) refl refl refl

  -- UV_PAGE_OUT of a guest begins to move a Secure page at rest
  pub page_out : cpu.ctx ≡ ctx.Hv → (lpid dest gpa flags order : ℕ) → target_in plan ctx.Hv cpu.lpid (UPageout lpid dest gpa flags order) ≡ AtGuest lpid →
      Change plan past cpu (entry cpu ctx.Hv mark (UPageout lpid dest gpa flags order) (deed_after plan past (asked cpu ctx.Hv (UPageout lpid dest gpa flags order)) (UPageout lpid dest gpa flags order) (AtGuest lpid)))
  page_out h lpid dest gpa flags order target = by_code (page_out_code plan g.part dest gpa flags order) refl where
    ask : Ask
    ask = asked cpu ctx.Hv (UPageout lpid dest gpa flags order)

    g : Guest
    g = guest_after plan lpid past

    deed : Option Code → Deed
    deed code = returning ask code (deed_page_out_begin plan g ask lpid dest gpa)

    by_code : (code : Option Code) → page_out_code plan g.part dest gpa flags order ≡ code → Change plan past cpu (entry cpu ctx.Hv mark (UPageout lpid dest gpa flags order) (deed code))
    by_code None t =
        let begins = page_begins plan g.part dest gpa flags order t in
        Begins (record {
          move = record { lpid = lpid; generation = g.part.generation; gfn = page_of plan gpa; frame = frame_of plan dest; copied = false };
          before = h;
          generation = refl;
          kind_is = begins.0;
          at_rest = begins.1;
          sealed = ap (λ (p : Phase). bytes_out p plan g lpid (page_of plan gpa)) begins.2;
          secure = begins.2;
          begins = λ named gfn. refl;
          cpu_is = record { ctx_is = refl; hand_is = refl; lpid_is = refl };
          parts = at_guest plan past (entry cpu ctx.Hv mark (UPageout lpid dest gpa flags order) (deed None)) lpid (with_page_leaving g.part (page_of plan gpa) mark.cpu (bytes_out g.part.phase plan g lpid (page_of plan gpa))) target refl;
          pool = refl;
        })
    by_code (Some code) t = at_one plan past cpu _ lpid (record { ctx_is = sym h; hand_is = refl; lpid_is = refl }) target refl refl

  -- a call that names a guest makes a change there, and is refused where there is no guest of that number
  pub named : cpu.ctx ≡ ctx.Hv → (cmd : Cmd) (lpid : ℕ) (b : Bool) → target_in plan ctx.Hv cpu.lpid cmd ≡ (if b then AtGuest lpid else Alone) →
      LeavesCpu cpu (entry cpu ctx.Hv mark cmd (deed_after plan past (asked cpu ctx.Hv cmd) cmd Alone)) ctx.Hv cpu.hand cpu.lpid →
      (target_in plan ctx.Hv cpu.lpid cmd ≡ AtGuest lpid → Change plan past cpu (entry cpu ctx.Hv mark cmd (deed_after plan past (asked cpu ctx.Hv cmd) cmd (AtGuest lpid)))) →
      Change plan past cpu (entry cpu ctx.Hv mark cmd (deed_after plan past (asked cpu ctx.Hv cmd) cmd (if b then AtGuest lpid else Alone)))
  named h cmd lpid true target left there = there target
  named h cmd lpid false target left there = refused plan past cpu mark ctx.Hv h cmd left target

  -- the copy of a call in progress changes no guest's public part
  pub copy_keeps : (m : PageMove) → m.move.copied ≡ false →
      KeepsParts plan past (entry cpu (ctx.Uv (work_of m)) mark Go (deed_after plan past (asked cpu (ctx.Uv (work_of m)) Go) Go (AtFrame m.move.frame)))
  copy_keeps m t =
      at_none plan past (entry cpu (ctx.Uv (work_of m)) mark Go (deed_after plan past (asked cpu (ctx.Uv (work_of m)) Go) Go (AtFrame m.move.frame)))
      (λ lpid. ap (is_guest lpid) (work_aims plan m false t))

  -- a call that comes back leaves its CPU to the hypervisor
  comes_back : (w : Way) (move : Move) → LeavesCpu cpu (entry cpu (ctx.Uv (work_by w move)) mark Go (coming_back (asked cpu (ctx.Uv (work_by w move)) Go) UParameter)) ctx.Hv cpu.hand cpu.lpid
  comes_back way.Inward move = record { ctx_is = refl; hand_is = refl; lpid_is = refl }
  comes_back way.Outward move = record { ctx_is = refl; hand_is = refl; lpid_is = refl }

  -- and its guest as it is
  leaves_guest : (w : Way) (move : Move) (g : GuestPart) → next_part plan g (entry cpu (ctx.Uv (work_by w move)) mark Go (coming_back (asked cpu (ctx.Uv (work_by w move)) Go) UParameter)) ≡ g
  leaves_guest way.Inward move g = refl
  leaves_guest way.Outward move g = refl

  -- a call whose guest has ended comes back once its page is copied
  pub gone : (m : PageMove) → cpu.ctx ≡ ctx.Uv (work_of m) → m.move.copied ≡ true → (m.move.generation == (part_after plan past m.move.lpid).generation) ≡ false →
      Change plan past cpu (entry cpu (ctx.Uv (work_of m)) mark Go (coming_back (asked cpu (ctx.Uv (work_of m)) Go) UParameter))
  gone m h t other = Drops (record {
    work = m;
    before = h;
    generation = grind (arith, nat_tests);
    cpu_is = comes_back m.way m.move;
    parts = at_guest_same plan past (entry cpu (ctx.Uv (work_of m)) mark Go (coming_back (asked cpu (ctx.Uv (work_of m)) Go) UParameter)) m.move.lpid (work_aims plan m true t)
        (leaves_guest m.way m.move (part_after plan past m.move.lpid));
    pool = refl;
  })

  -- the next step of a page-out in progress
  pub go : (move : Move) → cpu.ctx ≡ ctx.Uv (Outward move) → (b : Bool) → move.copied ≡ b →
      Change plan past cpu (entry cpu (ctx.Uv (Outward move)) mark Go (deed_after plan past (asked cpu (ctx.Uv (Outward move)) Go) Go (if b then AtGuest move.lpid else AtFrame move.frame)))
  go move h false t = Copies (record {
    move = move;
    before = h;
    cpu_is = record { ctx_is = refl; hand_is = refl; lpid_is = refl };
    parts = copy_keeps (outward move) t;
    pool = refl;
  })
  go move h true t = by_life (move.generation == g.generation) refl where
    ask : Ask
    ask = asked cpu (ctx.Uv (Outward move)) Go

    g : GuestPart
    g = part_after plan past move.lpid

    deed : Bool → Deed
    deed b = if b then giving (coming_back ask USuccess) 1 else coming_back ask UParameter

    by_life : (b : Bool) → (move.generation == g.generation) ≡ b → Change plan past cpu (entry cpu (ctx.Uv (Outward move)) mark Go (deed b))
    by_life true same = Ends (record {
      move = move;
      before = h;
      generation = test_same move.generation g.generation same;
      cpu_is = record { ctx_is = refl; hand_is = refl; lpid_is = refl };
      parts = at_guest plan past (entry cpu (ctx.Uv (Outward move)) mark Go (deed true)) move.lpid (with_page_out g move.gfn) (work_aims plan (outward move) true t) refl;
      pool = omega arith;
    })
    by_life false other = gone (outward move) h t other
