-- The rows of UV_PAGE_OUT: a page begins to move, or the call comes back.
use Rattle.std.proofs.Common.{◌≡◌, ℕ, ◌+◌, ◌/◌, ◌%◌, ◌^◌, ◌<◌, ◌≤◌, false, List, Option, Some, None, refl, ap, sym, subst, ◌∙◌, ◌&&◌, true}
use Rattle.pef_model.specs.declared.state.Phase.{Phase}
use Rattle.pef_model.specs.declared.state.Kind.TheVariants as kind
use Rattle.pef_model.specs.declared.state.Ctx.TheVariants as ctx
use Rattle.pef_model.specs.declared.state.Work.TheVariants.{Outward}
use Rattle.pef_model.specs.declared.state.Way.TheVariants as way
use Rattle.pef_model.specs.declared.state.Tag.{Tag}
use Rattle.pef_model.specs.declared.command.Code.{Code}
use Rattle.pef_model.specs.declared.command.Cmd.{Cmd}
use Rattle.pef_model.specs.declared.command.Cmd.TheVariants.{UPageout}
use Rattle.pef_model.specs.declared.entry.Answer.{Answer}
use Rattle.pef_model.specs.declared.entry.Answer.TheVariants as answer
use Rattle.pef_model.specs.Plan.{Plan}
use Rattle.pef_model.specs.Event.{Mark}
use Rattle.pef_model.specs.Registers.{loaded, with_code}
use Rattle.pef_model.specs.Target.{frame_of}
use Rattle.pef_model.specs.Cpu.{CpuPart}
use Rattle.pef_model.specs.GuestPart.{page_of, begun_out, with_page_leaving}
use Rattle.pef_model.specs.Guest.{Guest as GuestWhole}
use Rattle.pef_model.specs.PageOut.{tag_of, private_page, sealed_page, bytes_out, page_out_code}
use Rattle.pef_model.specs.Deed.{deed_page_out, deed_page_out_begin, returning}
use Rattle.pef_model.specs.History.{entry_of}
use Rattle.pef_model.specs.Memory.{offset_of}
use Rattle.pef_num.proofs.PutBytes.{doubleword_fits}
use Rattle.pef_pages.specs.declared.cell.Cell.TheVariants as cell
use Rattle.pef_pages.specs.Cells.{kind_of, mover_of, way_of, frame_in}
use Rattle.pef_guest.specs.declared.cpu.Cpu.{Cpu}
use Rattle.pef_guest.specs.declared.guest.Guest.{Guest}
use Rattle.pef_guest.specs.Shows.{HoldsPage, ShowsCpu, Shows, kept_in, digest_by}
use Rattle.pef_guest.specs.Whole.{IsWhole}
use Rattle.pef_guest.specs.Rows.{Row, ask_hypervisor}
use Rattle.pef_move.specs.declared.page_call.PageCall.{PageCall}
use Rattle.pef_move.specs.declared.route.Route.{Route}
use Rattle.pef_move.specs.Route.{next_tag, code_for, IsRoute, HasBegun}
use Rattle.pef_move.proofs.PageBytes.{page_bytes-is}
use Rattle.pef_guest.proofs.OnePage.{IsShownPage, shows_with, shows_counted}
use Rattle.pef_move.proofs.Codes.{code_is}
use Rattle.pef_move.proofs.Begun.{page, cell_is, guest_is}

module _ {S : Type 0} (stands : S → Tag → List ℕ → List ℕ → Type 0) (image : S → Tag → List ℕ → List ℕ) (takes : S → ℕ → ℕ → Type 0) (plan : Plan) (g : GuestWhole) (c : CpuPart) (mark : Mark) (old : Guest S) (cpu : Cpu) (call : PageCall)
    (shows : Shows stands image plan old g) (shows_cpu : ShowsCpu cpu c) (runs : cpu.ctx ≡ ctx.Hv) (gpr : List ℕ)
    (loads : gpr ≡ loaded cpu.gpr (UPageout call.lpid call.ra call.gpa call.flags call.order)) where
  -- the command
  abbrev command : Cmd
  command = UPageout call.lpid call.ra call.gpa call.flags call.order

  -- the registers that the call loads
  abbrev loads_into : List ℕ → List ℕ
  loads_into own = loaded own (UPageout call.lpid call.ra call.gpa call.flags call.order)

  -- the row of the call, by its code
  abbrev RowBy : Option Code → Guest S → Cpu → Answer → Type 0
  RowBy code new cpu_new a =
      Row stands image plan g c (entry_of (ask_hypervisor c) mark command (returning (ask_hypervisor c) code (deed_page_out_begin plan g (ask_hypervisor c) call.lpid call.ra call.gpa))) new cpu_new a

  -- the code of the model is that of the guest
  code : (found : Option Code) → found ≡ code_for plan g.part (record old { steps = old.steps + 1 }) call → page_out_code plan g.part call.ra call.gpa call.flags call.order ≡ found
  code found e = sym (e ∙ code_is stands image plan old g call shows)

  -- a call that comes back at once leaves the guest and the hand
  pub row_refused : (one : Code) → Some one ≡ code_for plan g.part (record old { steps = old.steps + 1 }) call →
      Row stands image plan g c (entry_of (ask_hypervisor c) mark command (deed_page_out plan g (ask_hypervisor c) call.lpid call.ra call.gpa call.flags call.order))
      (record old { steps = old.steps + 1 }) (record cpu { gpr = with_code gpr one; last = answer.Ret one }) (answer.Ret one)
  row_refused one e =
      subst (λ (found : Option Code). RowBy found (record old { steps = old.steps + 1 }) (record cpu { gpr = with_code gpr one; last = answer.Ret one }) (answer.Ret one)) (sym (code (Some one) e)) (record {
        answered = refl;
        guest = shows_counted stands image plan old g (old.steps + 1) shows;
        cpu_is = record {
          ctx = runs;
          own = ap (λ (own : List ℕ). with_code own one) (loads ∙ ap loads_into shows_cpu.own);
          lpid = shows_cpu.lpid;
          vid = shows_cpu.vid;
          last = refl;
          hand = shows_cpu.hand;
        };
      })

  module _ (new : Guest S) (cpu_new : Cpu) (route : Route) (named : call.lpid ≡ old.lpid) (marked : mark.cpu ≡ cpu.number) (whole : IsWhole takes old)
      (is : IsRoute (record old { steps = old.steps + 1 }) call route) (begun : HasBegun stands image takes route (record old { steps = old.steps + 1 }) new (record cpu { gpr = gpr }) cpu_new) where
    -- the page is one of the model's
    below : route.gfn < plan.pages
    below = subst (λ (count : ℕ). route.gfn < count) shows.pages.count is.below

    gfn_is : route.gfn ≡ page_of plan call.gpa
    gfn_is = is.gfn_is ∙ ap (λ (shift : ℕ). call.gpa / 2 ^ shift) shows.shift

    frame_is : route.frame ≡ frame_of plan call.ra
    frame_is = is.frame_is ∙ ap (λ (shift : ℕ). call.ra / 2 ^ shift) shows.shift

    secure : (g.part.pages route.gfn).kind ≡ kind.Secure
    secure = sym (shows.pages.kinds route.gfn below) ∙ is.kind_is

    holds : HoldsPage plan g route.gfn begun.frame
    holds = shows.pages.holds route.gfn begun.frame is.kind_is begun.there

    -- each doubleword of its frame has 64 bits
    words : (gpa : ℕ) → gpa % 8 ≡ 0 → page_of plan gpa ≡ route.gfn → g.content gpa < 2 ^ 64
    words gpa aligned at = subst (λ (value : ℕ). value < 2 ^ 64) (holds gpa aligned at) (doubleword_fits begun.frame.bytes (offset_of plan gpa) begun.bytes)

    -- its frame has the page of the last stores
    plain : begun.frame.bytes ≡ private_page plan g route.gfn
    plain =
        page_bytes-is plan.shift route.gfn g.content begun.frame.bytes (subst (λ (shift : ℕ). 8 ≤ shift) shows.shift whole.shift.0)
        ((whole.frames route.gfn begun.frame begun.there).length_is ∙ ap (λ (shift : ℕ). 2 ^ shift) shows.shift) begun.bytes holds

    -- the tag is the model's
    tag : next_tag (record old { steps = old.steps + 1 }) route.gfn ≡ tag_of g.part old.lpid route.gfn ((g.part.pages route.gfn).version + 1)
    tag i = record { lpid = old.lpid; generation = shows.generation i; gfn = route.gfn; version = shows.sealed.versions route.gfn below i + 1 }

    -- of a Secure guest a page goes out sealed
    sealed_out : bytes_out g.part.phase plan g call.lpid route.gfn ≡ sealed_page plan g call.lpid route.gfn
    sealed_out = ap (λ (p : Phase). bytes_out p plan g call.lpid route.gfn) (sym shows.phase ∙ is.phase_is)

    -- so what was sealed is what the model puts into the hand
    hand_is : cpu_new.hand ≡ bytes_out g.part.phase plan g call.lpid route.gfn
    hand_is =
        begun.hand ∙ (λ i. shows.sealed.images i (tag i) (plain i))
        ∙ ap (λ (lpid : ℕ). plan.image (tag_of g.part lpid route.gfn ((g.part.pages route.gfn).version + 1)) (private_page plan g route.gfn)) (sym named) ∙ sym sealed_out

    -- the sealer gives the page for that
    given_back : stands new.sealer (tag_of g.part old.lpid route.gfn ((g.part.pages route.gfn).version + 1)) (private_page plan g route.gfn) cpu_new.hand
    given_back =
        subst (λ (page : List ℕ). stands new.sealer (tag_of g.part old.lpid route.gfn ((g.part.pages route.gfn).version + 1)) page cpu_new.hand) plain
        (subst (λ (one : Tag). stands new.sealer one begun.frame.bytes cpu_new.hand) tag begun.stands_for)

    -- what is in the cell afterwards
    moves : (page stands image takes old new cpu cpu_new gpr call route is begun).cell ≡ cell.MovesOut begun.frame cpu.number (Some (digest_by cpu_new.hand))
    moves = cell_is stands image takes old new cpu cpu_new gpr call route is begun

    shown : IsShownPage stands image plan old g route.gfn (page stands image takes old new cpu cpu_new gpr call route is begun) (begun_out (g.part.pages route.gfn) mark.cpu (bytes_out g.part.phase plan g call.lpid route.gfn)) old.pages.order g.part.order new.sealer (old.steps + 1)
    shown = record {
      kind_is = ap kind_of moves ∙ sym secure;
      mover_is = ap mover_of moves ∙ ap (λ (n : ℕ). Some (record { cpu = n; way = way.Outward })) (sym marked);
      version_is = ap (λ (n : ℕ). n + 1) (shows.sealed.versions route.gfn below);
      digest_is = ap kept_in moves ∙ ap (λ (bytes : List ℕ). Some (digest_by bytes)) hand_is;
      pending_is = (λ outward. refl, λ pending. ap way_of (ap mover_of moves));
      order_is = shows.pages.order;
      frame_is = λ frame k e. subst (HoldsPage plan g route.gfn) (let there = ap frame_in moves in let same : begun.frame ≡ frame = cc in same) holds;
      zero_is = λ invalid. absurd (let other = ap kind_of moves in cc);
      images = begun.same_image;
      stands_here = λ sealed e. subst (stands new.sealer (tag_of g.part old.lpid route.gfn ((g.part.pages route.gfn).version + 1)) (private_page plan g route.gfn)) (let same : cpu_new.hand ≡ sealed = (let h = hand_is in cc) in same) given_back;
      words_here = λ sealed e. words;
      stands_there = λ one page sealed other. (begun.others one page sealed other).1;
    }

    -- a guest shows the model's with a page that begins to move
    abbrev NextShown : Guest S → ℕ → Type 0
    NextShown guest n =
        Shows stands image plan guest (record g { part = with_page_leaving g.part n mark.cpu (bytes_out g.part.phase plan g call.lpid n); clean = g.clean && true })

    -- a page begins to move
    pub row_begun : None ≡ code_for plan g.part (record old { steps = old.steps + 1 }) call →
        Row stands image plan g c (entry_of (ask_hypervisor c) mark command (deed_page_out plan g (ask_hypervisor c) call.lpid call.ra call.gpa call.flags call.order)) new cpu_new answer.Step
    row_begun e =
        subst (λ (found : Option Code). RowBy found new cpu_new answer.Step) (sym (code None e)) (record {
          answered = refl;
          guest =
              subst (NextShown new) gfn_is (subst (λ (guest : Guest S). NextShown guest route.gfn) (sym (guest_is stands image takes old new cpu cpu_new gpr call route is begun))
              (shows_with stands image plan old g route.gfn (page stands image takes old new cpu cpu_new gpr call route is begun) (begun_out (g.part.pages route.gfn) mark.cpu (bytes_out g.part.phase plan g call.lpid route.gfn))
              old.pages.order g.part.order new.sealer (old.steps + 1) _ shows is.below shown));
          cpu_is = record {
            ctx = ap (λ (one : Cpu). one.ctx) begun.cpu_is ∙ (λ i. ctx.Uv (Outward (record { lpid = sym named i; generation = shows.generation i; gfn = gfn_is i; frame = frame_is i; copied = false })));
            own = ap (λ (one : Cpu). one.gpr) begun.cpu_is ∙ loads ∙ ap loads_into shows_cpu.own;
            lpid = ap (λ (one : Cpu). one.lpid) begun.cpu_is ∙ shows_cpu.lpid;
            vid = ap (λ (one : Cpu). one.vid) begun.cpu_is ∙ shows_cpu.vid;
            last = ap (λ (one : Cpu). one.last) begun.cpu_is;
            hand = hand_is ∙ ap (bytes_out g.part.phase plan g call.lpid) gfn_is;
          };
        })
