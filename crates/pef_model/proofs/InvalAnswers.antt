-- Where UV_PAGE_INVAL is accepted, and what it takes then.
use Rattle.std.proofs.Common.{◌≡◌, ℕ, ◌==◌, ◌&&◌, nat_le, List, ◌∷◌, Bool, true, false, not, if◌then◌else◌, drop, Option, None, refl, ap, sym, subst, ◌∙◌}
use Rattle.std.specs.Prelude.{◌↔◌, unwrap_or, is_some}
use Rattle.pef_model.specs.declared.state.Kind.{Kind}
use Rattle.pef_model.specs.declared.state.Kind.TheVariants as kind
use Rattle.pef_model.specs.declared.state.Ctx.{Ctx}
use Rattle.pef_model.specs.declared.state.Ctx.TheVariants as ctx
use Rattle.pef_model.specs.declared.command.Code.TheVariants.{USuccess}
use Rattle.pef_model.specs.declared.command.Cmd.{Cmd}
use Rattle.pef_model.specs.declared.command.Cmd.TheVariants.{UInval}
use Rattle.pef_model.specs.declared.entry.Answer.{Answer}
use Rattle.pef_model.specs.declared.entry.Answer.TheVariants.{Ret}
use Rattle.pef_model.specs.Plan.{Plan}
use Rattle.pef_model.specs.Event.{Event}
use Rattle.pef_model.specs.Target.{Ask, Alone, AtGuest, target_in, is_guest, is_number, touches_guest, touches_pool, touches_frame}
use Rattle.pef_model.specs.GuestPart.{Page, GuestPart, page_of, unmapped, with_page_unmapped, part_in}
use Rattle.pef_model.specs.Guest.{Guest, is_drawing, next_guest, stored_in, registers_in}
use Rattle.pef_model.specs.Clash.{clashes_in}
use Rattle.pef_model.specs.Memory.{start_pool, next_pool, start_frame, next_frame}
use Rattle.pef_model.specs.PageInval.{page_inval_code}
use Rattle.pef_model.specs.Deed.{Deed}
use Rattle.pef_model.specs.History.{cpu_after, guest_after, pool_after, frame_after, deed_after, part_after, page_after, Extends}
use Rattle.pef_model.specs.InvalLaw.{MayBeUnmapped, InvalExactlyWhere, LeavesUnmapped, InvalTakesFrame}
use Rattle.pef_model.proofs.Folds.{same_test, test_same, skips}
use Rattle.pef_model.proofs.Puts.{put-here, put-other}
use Rattle.pef_model.proofs.Unmapped.{IsAccepted, accepted}
use Rattle.pef_model.proofs.PageCalls.{within_test, test_within}
use Rattle.pef_model.proofs.DeedOf.{ask_in, deed_is}

true_not_false : true ≡ false → ⊥
true_not_false h = cc

-- what it is accepted for is accepted
all_pass : (plan : Plan) (g : GuestPart) (gpa order : ℕ) → IsAccepted plan g gpa order → page_inval_code plan g gpa order ≡ USuccess
all_pass plan g gpa order is = let order_is = ap (λ (n : ℕ). n == plan.shift) is.order_is ∙ same_test plan.shift in rw (is.allowed, is.page, is.drops, order_is) refl

module _ (plan : Plan) (past : List Event) (e : Event) (lpid gpa order : ℕ) (extends : Extends plan past e) (before : e.saw.before ≡ ctx.Hv) (cmd_is : e.trace.cmd ≡ UInval lpid gpa order) where
  abbrev cmd : Cmd
  cmd = UInval lpid gpa order

  abbrev ask : Ask
  ask = ask_in (cpu_after plan e.trace.cpu past) ctx.Hv cmd

  abbrev g : GuestPart
  g = part_after plan past lpid

  -- by whether it names a guest
  by_guest : (b : Bool) → (nat_le 1 lpid && nat_le lpid plan.guests) ≡ b → ((deed_after plan past ask cmd (if b then AtGuest lpid else Alone)).answer ≡ Ret USuccess) ↔ MayBeUnmapped plan past lpid gpa order
  by_guest false t = (λ h. cc, λ may. absurd (true_not_false (sym (test_within lpid plan.guests may.guest) ∙ t)))
  by_guest true t = (
    λ h. (let is = accepted plan g gpa order (code_in h) in record { guest = within_test lpid plan.guests t; phase = is.allowed; page = is.page; kind = is.drops; order_is = is.order_is }),
    λ may. ap Ret (all_pass plan g gpa order (record { allowed = may.phase; page = may.page; drops = may.kind; order_is = may.order_is })),
  ) where
    code_in : Ret (page_inval_code plan g gpa order) ≡ Ret USuccess → page_inval_code plan g gpa order ≡ USuccess
    code_in h = cc

  where_accepted : (e.trace.answer ≡ Ret USuccess) ↔ MayBeUnmapped plan past lpid gpa order
  where_accepted =
      subst (λ (a : Answer). (a ≡ Ret USuccess) ↔ MayBeUnmapped plan past lpid gpa order) (sym (ap (λ (d : Deed). d.answer) (deed_is plan past e ctx.Hv cmd extends before cmd_is)))
      (by_guest (nat_le 1 lpid && nat_le lpid plan.guests) refl)

  -- its deed sees no pool and no normal frame
  abbrev target : Bool
  target = nat_le 1 lpid && nat_le lpid plan.guests

  unpooled : (b : Bool) → (deed_after plan past ask cmd (if b then AtGuest lpid else Alone)).pool ≡ None
  unpooled true = refl
  unpooled false = refl

  unframed : (b : Bool) → (deed_after plan past ask cmd (if b then AtGuest lpid else Alone)).frame ≡ None
  unframed true = refl
  unframed false = refl

  no_pool : e.saw.pool ≡ None
  no_pool = ap (λ (d : Deed). d.pool) (deed_is plan past e ctx.Hv cmd extends before cmd_is) ∙ unpooled target

  no_frame : e.saw.frame ≡ None
  no_frame = ap (λ (d : Deed). d.frame) (deed_is plan past e ctx.Hv cmd extends before cmd_is) ∙ unframed target

  module _ (done : e.trace.answer ≡ Ret USuccess) where
    -- which guest it touches
    touches_is : (l : ℕ) → touches_guest plan l e ≡ (lpid == l)
    touches_is l =
        ap (λ (c : Ctx). is_guest l (target_in plan c e.saw.lpid e.trace.cmd)) before ∙ ap (λ (x : Cmd). is_guest l (target_in plan ctx.Hv e.saw.lpid x)) cmd_is
        ∙ ap (λ (b : Bool). is_guest l (if b then AtGuest lpid else Alone)) (test_within lpid plan.guests (where_accepted.0 done).guest)

    and_true : (b : Bool) → b && true ≡ b
    and_true true = refl
    and_true false = refl

    -- what it makes of a guest
    made : (x : Guest) → next_guest plan x e ≡ record x { part = with_page_unmapped x.part (page_of plan gpa) }
    made x =
        (λ i. record x {
          part = part_in plan x.part (before i) (done i) (cmd_is i) e.saw.pool e.saw.vid e.trace.cpu e.bytes;
          content = λ at. unwrap_or (stored_in (before i) plan x (cmd_is i) (done i) e.saw.frame e.bytes at) (x.content at);
          registers = registers_in (before i) x e.saw.vid (cmd_is i) (done i);
          words = if is_drawing (before i) (done i) (cmd_is i) then drop 1 x.words else x.words;
          clean = x.clean && not (clashes_in x.part (before i) (cmd_is i) e.bytes);
        })
        ∙ ap (λ (b : Bool). record x { part = with_page_unmapped x.part (page_of plan gpa); clean = b }) (and_true x.clean)

    -- the guests after it
    guest_is : (l : ℕ) (b : Bool) → (lpid == l) ≡ b → guest_after plan l (e ∷ past) ≡ (if b then record (guest_after plan l past) { part = with_page_unmapped (part_after plan past l) (page_of plan gpa) } else guest_after plan l past)
    guest_is l true t = ap (λ (b : Bool). if b then next_guest plan (guest_after plan l past) e else guest_after plan l past) (touches_is l ∙ t) ∙ made (guest_after plan l past)
    guest_is l false t = ap (λ (b : Bool). if b then next_guest plan (guest_after plan l past) e else guest_after plan l past) (touches_is l ∙ t)

    page_is : page_after plan (e ∷ past) lpid (page_of plan gpa) ≡ unmapped (page_after plan past lpid (page_of plan gpa))
    page_is = ap (λ (x : Guest). x.part.pages (page_of plan gpa)) (guest_is lpid true (same_test lpid)) ∙ put-here (part_after plan past lpid).pages (page_of plan gpa) (unmapped (page_after plan past lpid (page_of plan gpa)))

    other_is : (l n : ℕ) → (l ≡ lpid → n ≡ page_of plan gpa → ⊥) → (b : Bool) → (lpid == l) ≡ b → page_after plan (e ∷ past) l n ≡ page_after plan past l n
    other_is l n elsewhere true t =
        ap (λ (x : Guest). x.part.pages n) (guest_is l true t)
        ∙ put-other (part_after plan past l).pages (page_of plan gpa) (unmapped (page_after plan past l (page_of plan gpa))) n (elsewhere (sym (test_same lpid l t)))
    other_is l n elsewhere false t = ap (λ (x : Guest). x.part.pages n) (guest_is l false t)

    rest_is : (l : ℕ) (b : Bool) → (lpid == l) ≡ b → guest_after plan l (e ∷ past) ≡ record (guest_after plan l past) { part = record (part_after plan past l) { pages = page_after plan (e ∷ past) l } }
    rest_is l true t = guest_is l true t ∙ ap (λ (x : Guest). record (guest_after plan l past) { part = record (part_after plan past l) { pages = x.part.pages } }) (sym (guest_is l true t))
    rest_is l false t = guest_is l false t ∙ ap (λ (x : Guest). record (guest_after plan l past) { part = record (part_after plan past l) { pages = x.part.pages } }) (sym (guest_is l false t))

    leaves : LeavesUnmapped plan past e lpid (page_of plan gpa)
    leaves =
        let page : Page = page_after plan past lpid (page_of plan gpa) in
        record {
          shared = λ frame fresh is. page_is ∙ unmapped_shared page frame fresh is;
          invalid = λ is. page_is ∙ unmapped_invalid page is;
          others = λ l n elsewhere. other_is l n elsewhere (lpid == l) refl;
          guests = λ l. rest_is l (lpid == l) refl;
          pool = pool_stays;
          frames = frame_stays;
        } where
          unmapped_shared : (page : Page) (frame : Option ℕ) (fresh : Bool) → page.kind ≡ kind.Shared frame fresh → unmapped page ≡ record page { kind = kind.Shared None fresh }
          unmapped_shared page frame fresh is = ap (λ (k : Kind). unmapped (record page { kind = k })) is

          unmapped_invalid : (page : Page) → page.kind ≡ kind.Invalid → unmapped page ≡ page
          unmapped_invalid page is = ap (λ (k : Kind). unmapped (record page { kind = k })) is ∙ ap (λ (k : Kind). record page { kind = k }) (sym is)

          pool_stays : pool_after plan (e ∷ past) ≡ pool_after plan past
          pool_stays = skips touches_pool next_pool (start_pool plan) e past (ap is_some no_pool)

          frame_stays : (n : ℕ) → frame_after plan n (e ∷ past) ≡ frame_after plan n past
          frame_stays n = skips (touches_frame n) (next_frame plan n) (start_frame plan) e past (ap (is_number n) no_frame)

pub inval_exactly_where : InvalExactlyWhere
inval_exactly_where plan past e lpid gpa order extends before cmd_is = where_accepted plan past e lpid gpa order extends before cmd_is

pub inval_takes_frame : InvalTakesFrame
inval_takes_frame plan past e lpid gpa order extends before cmd_is done = leaves plan past e lpid gpa order extends before cmd_is done
