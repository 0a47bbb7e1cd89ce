-- The rows of UV_PAGE_IN: a page begins to come in, or the call comes back.
use Rattle.std.proofs.Common.{◌≡◌, ℕ, ◌+◌, ◌/◌, ◌^◌, ◌<◌, nat_lt, Bool, true, false, List, [], length, Option, Some, None, arith, refl, ap, sym, subst, ◌∙◌, ◌&&◌}
use Rattle.std.proofs.lemmas.Bool.Decides.{nat_tests}
use Rattle.pef_model.specs.declared.state.Ctx.TheVariants as ctx
use Rattle.pef_model.specs.declared.state.Work.TheVariants.{Inward}
use Rattle.pef_model.specs.declared.state.Way.TheVariants as way
use Rattle.pef_model.specs.declared.state.Tag.{Tag}
use Rattle.pef_model.specs.declared.command.Code.{Code}
use Rattle.pef_model.specs.declared.command.Code.TheVariants.{UBusy}
use Rattle.pef_model.specs.declared.command.Cmd.{Cmd}
use Rattle.pef_model.specs.declared.command.Cmd.TheVariants.{UPagein}
use Rattle.pef_model.specs.declared.entry.Answer.{Answer}
use Rattle.pef_model.specs.declared.entry.Answer.TheVariants as answer
use Rattle.pef_model.specs.Plan.{Plan}
use Rattle.pef_model.specs.Event.{Mark}
use Rattle.pef_model.specs.Registers.{loaded, with_code}
use Rattle.pef_model.specs.Target.{frame_of}
use Rattle.pef_model.specs.Cpu.{CpuPart}
use Rattle.pef_model.specs.GuestPart.{page_of, begun_in, with_page_coming}
use Rattle.pef_model.specs.Guest.{Guest as GuestWhole}
use Rattle.pef_model.specs.PageIn.{page_in_operands}
use Rattle.pef_model.specs.Deed.{deed_page_in, deed_page_in_with, returning}
use Rattle.pef_model.specs.History.{entry_of}
use Rattle.pef_frames.specs.Frame.{FrameState}
use Rattle.pef_frames.specs.Pool.{PoolState, first_free, rest_of, without_first}
use Rattle.pef_pages.specs.declared.cell.Cell.TheVariants as cell
use Rattle.pef_pages.specs.Cells.{kind_of, way_of}
use Rattle.pef_guest.specs.declared.cpu.Cpu.{Cpu}
use Rattle.pef_guest.specs.declared.guest.Guest.{Guest}
use Rattle.pef_guest.specs.Shows.{ShowsCpu, Shows, kept_in, sealed_of}
use Rattle.pef_guest.specs.Rows.{RowWithPool, ask_hypervisor}
use Rattle.pef_move.specs.declared.page_call.PageCall.{PageCall}
use Rattle.pef_move.specs.declared.route.Route.{Route}
use Rattle.pef_move.specs.Route.{operands_for, IsRouteIn}
use Rattle.pef_guest.proofs.OnePage.{IsShownPage, shows_with, shows_counted}
use Rattle.pef_move.proofs.Codes.{operands_are}
use Rattle.pef_move.proofs.Coming.{page, out, cell_is, coming, first_is}

module _ {S : Type 0} (stands : S → Tag → List ℕ → List ℕ → Type 0) (image : S → Tag → List ℕ → List ℕ) (plan : Plan) (g : GuestWhole) (c : CpuPart) (mark : Mark) (old : Guest S) (cpu : Cpu) (call : PageCall) (pool : PoolState)
    (shows : Shows stands image plan old g) (shows_cpu : ShowsCpu cpu c) (runs : cpu.ctx ≡ ctx.Hv) (gpr : List ℕ)
    (loads : gpr ≡ loaded cpu.gpr (UPagein call.lpid call.ra call.gpa call.flags call.order)) where
  -- the command
  abbrev command : Cmd
  command = UPagein call.lpid call.ra call.gpa call.flags call.order

  -- the registers that the call loads
  abbrev loads_into : List ℕ → List ℕ
  loads_into own = loaded own (UPagein call.lpid call.ra call.gpa call.flags call.order)

  -- the row of the call, by the code of its operands and by whether a frame is free
  abbrev RowBy : Option Code → Bool → Guest S → Cpu → ℕ → Answer → Type 0
  RowBy code any new cpu_new free a =
      RowWithPool stands image plan g c (entry_of (ask_hypervisor c) mark command (returning (ask_hypervisor c) code (deed_page_in_with plan g.part (ask_hypervisor c) call.lpid call.ra call.gpa any))) new cpu_new (length pool.free) free a

  -- the row of the call
  abbrev RowOf : Guest S → Cpu → ℕ → Answer → Type 0
  RowOf new cpu_new free a =
      RowWithPool stands image plan g c
      (entry_of (ask_hypervisor c) mark command (deed_page_in plan g.part (nat_lt 0 (length pool.free)) (ask_hypervisor c) call.lpid call.ra call.gpa call.flags call.order)) new cpu_new (length pool.free) free a

  -- the code of the model is that of the guest
  code : (found : Option Code) → found ≡ operands_for plan g.part (record old { steps = old.steps + 1 }) call → page_in_operands plan g.part call.ra call.gpa call.flags call.order ≡ found
  code found e = sym (e ∙ operands_are stands image plan old g call shows)

  -- so the row is the one of its code
  row_by : (found : Option Code) (any : Bool) (new : Guest S) (cpu_new : Cpu) (free : ℕ) (a : Answer) → found ≡ operands_for plan g.part (record old { steps = old.steps + 1 }) call → nat_lt 0 (length pool.free) ≡ any →
      RowBy found any new cpu_new free a → RowOf new cpu_new free a
  row_by found any new cpu_new free a e some row =
      subst (λ (one : Option Code). RowBy one (nat_lt 0 (length pool.free)) new cpu_new free a) (sym (code found e)) (subst (λ (one : Bool). RowBy found one new cpu_new free a) (sym some) row)

  -- the CPU after a call that comes back at once
  abbrev pub cpu_back : Code → Cpu
  cpu_back one = record cpu { gpr = with_code gpr one; last = answer.Ret one }

  -- a guest that only counts a step
  shows_same : Shows stands image plan (record old { steps = old.steps + 1 }) (record g { clean = g.clean && true })
  shows_same = shows_counted stands image plan old g (old.steps + 1) shows

  -- it shows the model's
  shows_back : (one : Code) → ShowsCpu (cpu_back one) (record c { ctx = ctx.Hv; own = with_code (loads_into c.own) one; last = answer.Ret one })
  shows_back one = record {
    ctx = runs;
    own = ap (λ (own : List ℕ). with_code own one) (loads ∙ ap loads_into shows_cpu.own);
    lpid = shows_cpu.lpid;
    vid = shows_cpu.vid;
    last = refl;
    hand = shows_cpu.hand;
  }

  -- a call whose operands are wrong leaves the guest, the hand and the pool
  pub row_refused : (one : Code) → Some one ≡ operands_for plan g.part (record old { steps = old.steps + 1 }) call → RowOf (record old { steps = old.steps + 1 }) (cpu_back one) (length pool.free) (answer.Ret one)
  row_refused one e =
      row_by (Some one) (nat_lt 0 (length pool.free)) (record old { steps = old.steps + 1 }) (cpu_back one) (length pool.free) (answer.Ret one) e refl
      (record { row = record { answered = refl; guest = shows_same; cpu_is = shows_back one }; pool = refl })

  -- a call that finds no free frame does so too
  pub row_busy : None ≡ operands_for plan g.part (record old { steps = old.steps + 1 }) call → pool.free ≡ [] → RowOf (record old { steps = old.steps + 1 }) (cpu_back UBusy) (length (without_first pool).free) (answer.Ret UBusy)
  row_busy e none =
      let before = ap length none in
      let after = ap (λ (free : List ℕ). length (rest_of free)) none in
      row_by None false (record old { steps = old.steps + 1 }) (cpu_back UBusy) (length (without_first pool).free) (answer.Ret UBusy) e (ap (λ (free : List ℕ). nat_lt 0 (length free)) none)
      (record { row = record { answered = refl; guest = shows_same; cpu_is = shows_back UBusy }; pool = omega (arith, before, after) })

  module _ (route : Route) (frame : FrameState) (named : call.lpid ≡ old.lpid) (marked : mark.cpu ≡ cpu.number) (is : IsRouteIn (record old { steps = old.steps + 1 }) call route) (first : first_free pool ≡ Some frame) where
    -- the page is one of the model's
    below : route.gfn < plan.pages
    below = subst (λ (count : ℕ). route.gfn < count) shows.pages.count is.below

    gfn_is : route.gfn ≡ page_of plan call.gpa
    gfn_is = is.gfn_is ∙ ap (λ (shift : ℕ). call.gpa / 2 ^ shift) shows.shift

    frame_is : route.frame ≡ frame_of plan call.ra
    frame_is = is.frame_is ∙ ap (λ (shift : ℕ). call.ra / 2 ^ shift) shows.shift

    -- what is in the cell afterwards
    moves : (page old cpu call route frame pool is first).cell ≡ cell.MovesIn frame cpu.number (Some (out old cpu call route frame pool is first).digest)
    moves = cell_is old cpu call route frame pool is first

    shown : IsShownPage stands image plan old g route.gfn (page old cpu call route frame pool is first) (begun_in (g.part.pages route.gfn) mark.cpu) old.pages.order g.part.order old.sealer (old.steps + 1)
    shown = record {
      kind_is = ap kind_of moves ∙ sym is.kind_is ∙ shows.pages.kinds route.gfn below;
      mover_is = ap (λ (n : ℕ). Some (record { cpu = n; way = way.Inward })) (sym marked);
      version_is = shows.sealed.versions route.gfn below;
      digest_is = ap kept_in moves ∙ sym (ap kept_in (out old cpu call route frame pool is first).is) ∙ shows.sealed.digests route.gfn below;
      pending_is = (λ outward. absurd cc, λ there. absurd (let outward = (shows.sealed.pendings route.gfn below).1 there in let none = ap way_of is.rests in cc));
      order_is = shows.pages.order;
      frame_is = λ one k e. absurd (let other = ap kind_of moves in cc);
      zero_is = λ invalid. absurd (let other = ap kind_of moves in cc);
      images = refl;
      stands_here = λ sealed e. shows.sealed.stands_for route.gfn sealed below e;
      words_here = λ sealed e gpa aligned at. shows.sealed.words gpa sealed aligned (subst (λ (n : ℕ). n < plan.pages) (sym at) below) (ap (λ (n : ℕ). sealed_of (g.part.pages n)) at ∙ e);
      stands_there = λ tag plain sealed other it. it;
    }

    -- the guest shows the model's with a page that begins to come in
    abbrev NextShown : ℕ → Type 0
    NextShown n = Shows stands image plan (coming old cpu call route frame pool is first) (record g { part = with_page_coming g.part n mark.cpu; clean = g.clean && true })

    -- the CPU with the call in progress
    abbrev pub cpu_coming : Cpu
    cpu_coming = record cpu {
      ctx = ctx.Uv (Inward (record { lpid = old.lpid; generation = old.generation; gfn = route.gfn; frame = route.frame; copied = false }));
      gpr = gpr;
      last = answer.Step;
    }

    -- a page begins to come in
    pub row_begun : None ≡ operands_for plan g.part (record old { steps = old.steps + 1 }) call → RowOf (coming old cpu call route frame pool is first) cpu_coming (length (without_first pool).free) answer.Step
    row_begun e =
        let free = ap length (first_is pool.size pool.free frame first).free_is in
        row_by None true (coming old cpu call route frame pool is first) cpu_coming (length (without_first pool).free) answer.Step e (grind (arith, nat_tests)) (record {
          row = record {
            answered = refl;
            guest =
                subst NextShown gfn_is
                (shows_with stands image plan old g route.gfn (page old cpu call route frame pool is first) (begun_in (g.part.pages route.gfn) mark.cpu)
                old.pages.order g.part.order old.sealer (old.steps + 1) _ shows is.below shown);
            cpu_is = record {
              ctx = λ i. ctx.Uv (Inward (record { lpid = sym named i; generation = shows.generation i; gfn = gfn_is i; frame = frame_is i; copied = false }));
              own = loads ∙ ap loads_into shows_cpu.own;
              lpid = shows_cpu.lpid;
              vid = shows_cpu.vid;
              last = refl;
              hand = shows_cpu.hand;
            };
          };
          pool = omega (arith, free);
        })
