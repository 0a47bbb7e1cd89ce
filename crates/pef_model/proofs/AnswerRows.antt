-- Which answers each command can have in each context.
use Rattle.std.proofs.Common.{◌≡◌, ℕ, List, Bool, true, false, ◌&&◌, nat_le, nat_lt, if◌then◌else◌, refl, sym, subst, Option, Some, None, arith}
use Rattle.std.proofs.lemmas.Grind.{common_steps}
use Rattle.pef_model.specs.declared.state.Move.{Move}
use Rattle.pef_model.specs.declared.state.Run.{Run}
use Rattle.pef_model.specs.declared.state.Work.TheVariants.{Inward, Outward}
use Rattle.pef_model.specs.declared.state.Ctx.{Ctx}
use Rattle.pef_model.specs.declared.state.Ctx.TheVariants as ctx
use Rattle.pef_model.specs.declared.command.Code.{Code}
use Rattle.pef_model.specs.declared.command.Code.TheVariants.{USuccess, UParameter, UP2, UP3, UP4, UP5, UFunction, UBusy}
use Rattle.pef_model.specs.declared.command.Cmd.{Cmd}
use Rattle.pef_model.specs.declared.command.Cmd.TheVariants.{HLd, HSt, HSelect, HEnter, UPate, URegslot, UUnregslot, UPagein, UPageout, UInval, UReturn, Go}
use Rattle.pef_model.specs.Plan.{Plan}
use Rattle.pef_model.specs.Event.{Event, Mark, mark_of}
use Rattle.pef_model.specs.Target.{Ask, Alone, AtGuest, AtFrame, frame_of, has_real_place, target_in, is_command_in}
use Rattle.pef_model.specs.GuestPart.{GuestPart}
use Rattle.pef_model.specs.Guest.{Guest}
use Rattle.pef_model.specs.PageOut.{page_out_code}
use Rattle.pef_model.specs.PageIn.{page_in_operands}
use Rattle.pef_model.specs.Deed.{Deed, answer_select, returning, deed_return, deed_page_in_with, deed_page_out_begin}
use Rattle.pef_model.specs.History.{cpu_after, guest_after, pool_after, deed_after, ask_of, next_entry}
use Rattle.pef_model.specs.AnswerLaw.{is_of_page_in, is_of_page_out, can_answer, EachAnswerIsOfItsRow}

-- what holds of the first code of some tests, and of those of the others, holds of the one that comes back
one_of : (P : Code → Type 0) (b : Bool) (first : Code) (rest : Option Code) → P first → ((code : Code) → rest ≡ Some code → P code) → (code : Code) → (if b then Some first else rest) ≡ Some code → P code
one_of P true first rest here more code h = subst P (let same : first ≡ code = cc in same) here
one_of P false first rest here more code h = more code h

none_here : {code : Code} → ◌≡◌ {A = Option Code} None (Some code) → ⊥
none_here h = cc

-- the codes of the two page calls
page_in_codes : (plan : Plan) (g : GuestPart) (src gpa flags order : ℕ) (code : Code) → page_in_operands plan g src gpa flags order ≡ Some code → is_of_page_in code ≡ true
page_in_codes plan g src gpa flags order =
    let P : Code → Type 0 = (λ code. is_of_page_in code ≡ true) in
    one_of P _ UParameter _ refl (one_of P _ UP2 _ refl (one_of P _ UP3 _ refl (one_of P _ UP4 _ refl (one_of P _ UP5 _ refl (one_of P _ UBusy _ refl (λ code h. absurd (none_here h)))))))

page_out_codes : (plan : Plan) (g : GuestPart) (dest gpa flags order : ℕ) (code : Code) → page_out_code plan g dest gpa flags order ≡ Some code → is_of_page_out code ≡ true
page_out_codes plan g dest gpa flags order =
    let P : Code → Type 0 = (λ code. is_of_page_out code ≡ true) in
    one_of P _ UParameter _ refl (one_of P _ UP2 _ refl (one_of P _ UP3 _ refl (one_of P _ UFunction _ refl (one_of P _ UP4 _ refl (one_of P _ UP5 _ refl (one_of P _ USuccess _ refl (one_of P _ UBusy _ refl (λ code h. absurd (none_here h)))))))))

-- the deed of a step has such an answer
abbrev pub Can : Ctx → Cmd → Deed → Type 0
Can c cmd deed = can_answer c cmd deed.answer ≡ true

page_in_can : (plan : Plan) (past : List Event) (asked : Ask) (lpid src gpa flags order : ℕ) (b : Bool) →
    Can ctx.Hv (UPagein lpid src gpa flags order) (deed_after plan past (record asked { before = ctx.Hv }) (UPagein lpid src gpa flags order) (if b then AtGuest lpid else Alone))
page_in_can plan past asked lpid src gpa flags order false = refl
page_in_can plan past asked lpid src gpa flags order true = by_code (page_in_operands plan g src gpa flags order) refl (nat_lt 0 (pool_after plan past)) where
  g : GuestPart
  g = (guest_after plan lpid past).part

  ask : Ask
  ask = record asked { before = ctx.Hv }

  by_code : (code : Option Code) → page_in_operands plan g src gpa flags order ≡ code → (any : Bool) →
      Can ctx.Hv (UPagein lpid src gpa flags order) (returning ask code (deed_page_in_with plan g ask lpid src gpa any))
  by_code None h true = refl
  by_code None h false = refl
  by_code (Some code) h any = page_in_codes plan g src gpa flags order code h

page_out_can : (plan : Plan) (past : List Event) (asked : Ask) (lpid dest gpa flags order : ℕ) (b : Bool) →
    Can ctx.Hv (UPageout lpid dest gpa flags order) (deed_after plan past (record asked { before = ctx.Hv }) (UPageout lpid dest gpa flags order) (if b then AtGuest lpid else Alone))
page_out_can plan past asked lpid dest gpa flags order false = refl
page_out_can plan past asked lpid dest gpa flags order true = by_code (page_out_code plan g.part dest gpa flags order) refl where
  g : Guest
  g = guest_after plan lpid past

  ask : Ask
  ask = record asked { before = ctx.Hv }

  by_code : (code : Option Code) → page_out_code plan g.part dest gpa flags order ≡ code → Can ctx.Hv (UPageout lpid dest gpa flags order) (returning ask code (deed_page_out_begin plan g ask lpid dest gpa))
  by_code None h = refl
  by_code (Some code) h = page_out_codes plan g.part dest gpa flags order code h

return_can : (g : GuestPart) (ask : Ask) (r0 r2 : ℕ) (outs : List ℕ) → Can ctx.Hv (UReturn r0 r2 outs) (deed_return g ask)
return_can g ask r0 r2 outs = grind (arith, common_steps)

load_can : (plan : Plan) (past : List Event) (ask : Ask) (ra : ℕ) (b : Bool) → Can ctx.Hv (HLd ra) (deed_after plan past (record ask { before = ctx.Hv }) (HLd ra) (if b then AtFrame (frame_of plan ra) else Alone))
load_can plan past ask ra b = grind (arith, common_steps)

store_can : (plan : Plan) (past : List Event) (ask : Ask) (ra value : ℕ) (b : Bool) → Can ctx.Hv (HSt ra value) (deed_after plan past (record ask { before = ctx.Hv }) (HSt ra value) (if b then AtFrame (frame_of plan ra) else Alone))
store_can plan past ask ra value b = grind (arith, common_steps)

select_can : (plan : Plan) (lpid vid : ℕ) → can_answer ctx.Hv (HSelect lpid vid) (answer_select plan lpid vid) ≡ true
select_can plan lpid vid = grind (arith, common_steps)

enter_can : (plan : Plan) (past : List Event) (ask : Ask) (lpid vid value : ℕ) (b : Bool) →
    Can ctx.Hv (HEnter lpid vid value) (deed_after plan past (record ask { before = ctx.Hv }) (HEnter lpid vid value) (if b then AtGuest lpid else Alone))
enter_can plan past ask lpid vid value b = grind (arith, common_steps)

write_can : (plan : Plan) (past : List Event) (ask : Ask) (lpid dw0 dw1 : ℕ) (b : Bool) →
    Can ctx.Hv (UPate lpid dw0 dw1) (deed_after plan past (record ask { before = ctx.Hv }) (UPate lpid dw0 dw1) (if b then AtGuest lpid else Alone))
write_can plan past ask lpid dw0 dw1 b = grind (arith, common_steps)

register_can : (plan : Plan) (past : List Event) (ask : Ask) (lpid start size flags id : ℕ) (b : Bool) →
    Can ctx.Hv (URegslot lpid start size flags id) (deed_after plan past (record ask { before = ctx.Hv }) (URegslot lpid start size flags id) (if b then AtGuest lpid else Alone))
register_can plan past ask lpid start size flags id b = grind (arith, common_steps)

unregister_can : (plan : Plan) (past : List Event) (ask : Ask) (lpid id : ℕ) (b : Bool) →
    Can ctx.Hv (UUnregslot lpid id) (deed_after plan past (record ask { before = ctx.Hv }) (UUnregslot lpid id) (if b then AtGuest lpid else Alone))
unregister_can plan past ask lpid id b = grind (arith, common_steps)

inval_can : (plan : Plan) (past : List Event) (ask : Ask) (lpid gpa order : ℕ) (b : Bool) →
    Can ctx.Hv (UInval lpid gpa order) (deed_after plan past (record ask { before = ctx.Hv }) (UInval lpid gpa order) (if b then AtGuest lpid else Alone))
inval_can plan past ask lpid gpa order b = grind (arith, common_steps)

inward_can : (plan : Plan) (past : List Event) (ask : Ask) (move : Move) (b : Bool) → move.copied ≡ b →
    Can (ctx.Uv (Inward move)) Go (deed_after plan past (record ask { before = ctx.Uv (Inward move) }) Go (if b then AtGuest move.lpid else AtFrame move.frame))
inward_can plan past ask move b copied = grind (arith, common_steps)

outward_can : (plan : Plan) (past : List Event) (ask : Ask) (move : Move) (b : Bool) → move.copied ≡ b →
    Can (ctx.Uv (Outward move)) Go (deed_after plan past (record ask { before = ctx.Uv (Outward move) }) Go (if b then AtGuest move.lpid else AtFrame move.frame))
outward_can plan past ask move b copied = grind (arith, common_steps)

vcpu_can : (plan : Plan) (past : List Event) (run : Run) (ask : Ask) (cmd : Cmd) → is_command_in (ctx.Guest run) cmd ≡ true →
    Can (ctx.Guest run) cmd (deed_after plan past (record ask { before = ctx.Guest run }) cmd (AtGuest run.lpid))
vcpu_can plan past run ask cmd command = grind (arith, common_steps)

-- a step's deed does
pub deed_can : (plan : Plan) (past : List Event) (c : Ctx) (ask : Ask) (cmd : Cmd) → Can c cmd (deed_after plan past (record ask { before = c }) cmd (target_in plan c ask.lpid cmd))
deed_can plan past ctx.Hv ask (HLd ra) = load_can plan past ask ra (has_real_place plan ra)
deed_can plan past ctx.Hv ask (HSt ra value) = store_can plan past ask ra value (has_real_place plan ra)
deed_can plan past ctx.Hv ask (HSelect lpid vid) = select_can plan lpid vid
deed_can plan past ctx.Hv ask (HEnter lpid vid value) = enter_can plan past ask lpid vid value (nat_le 1 lpid && nat_le lpid plan.guests)
deed_can plan past ctx.Hv ask (UPate lpid dw0 dw1) = write_can plan past ask lpid dw0 dw1 (nat_le 1 lpid && nat_le lpid plan.guests)
deed_can plan past ctx.Hv ask (URegslot lpid start size flags id) = register_can plan past ask lpid start size flags id (nat_le 1 lpid && nat_le lpid plan.guests)
deed_can plan past ctx.Hv ask (UUnregslot lpid id) = unregister_can plan past ask lpid id (nat_le 1 lpid && nat_le lpid plan.guests)
deed_can plan past ctx.Hv ask (UPagein lpid src gpa flags order) = page_in_can plan past ask lpid src gpa flags order (nat_le 1 lpid && nat_le lpid plan.guests)
deed_can plan past ctx.Hv ask (UPageout lpid dest gpa flags order) = page_out_can plan past ask lpid dest gpa flags order (nat_le 1 lpid && nat_le lpid plan.guests)
deed_can plan past ctx.Hv ask (UInval lpid gpa order) = inval_can plan past ask lpid gpa order (nat_le 1 lpid && nat_le lpid plan.guests)
deed_can plan past ctx.Hv ask (UReturn r0 r2 outs) = return_can (guest_after plan ask.lpid past).part (record ask { before = ctx.Hv }) r0 r2 outs
deed_can plan past ctx.Hv ask cmd = refl
deed_can plan past (ctx.Uv (Inward move)) ask Go = inward_can plan past ask move move.copied refl
deed_can plan past (ctx.Uv (Inward move)) ask cmd = refl
deed_can plan past (ctx.Uv (Outward move)) ask Go = outward_can plan past ask move move.copied refl
deed_can plan past (ctx.Uv (Outward move)) ask cmd = refl
deed_can plan past (ctx.Uv work) ask cmd = refl
deed_can plan past (ctx.Guest run) ask (HLd ra) = refl
deed_can plan past (ctx.Guest run) ask (HSt ra value) = refl
deed_can plan past (ctx.Guest run) ask (HSelect lpid vid) = refl
deed_can plan past (ctx.Guest run) ask (HEnter lpid vid value) = refl
deed_can plan past (ctx.Guest run) ask Go = refl
deed_can plan past (ctx.Guest run) ask cmd = vcpu_can plan past run ask cmd refl

next_can : (plan : Plan) (past : List Event) (mark : Mark) (cmd : Cmd) → let e : Event = next_entry plan past mark cmd in can_answer e.saw.before cmd e.trace.answer ≡ true
next_can plan past mark cmd =
    let cpu = cpu_after plan mark.cpu past in
    deed_can plan past cpu.ctx (ask_of cpu cmd) cmd

pub each_answer_is_of_its_row : EachAnswerIsOfItsRow
each_answer_is_of_its_row plan past e extends =
    subst (λ (x : Event). can_answer x.saw.before x.trace.cmd x.trace.answer ≡ true) (sym extends.is) (next_can plan past (mark_of e) e.trace.cmd)
