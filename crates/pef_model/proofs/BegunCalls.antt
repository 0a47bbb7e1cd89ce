-- A call that begins moves the page that it names, from or into the normal frame that it names.
use Rattle.std.proofs.Common.{◌≡◌, ℕ, List, [], Bool, true, false, refl, ap, sym, ◌∙◌, if◌then◌else◌, nat_le, nat_lt, ◌&&◌, Option, Some, None}
use Rattle.pef_model.specs.declared.state.Ctx.{Ctx}
use Rattle.pef_model.specs.declared.state.Ctx.TheVariants as ctx
use Rattle.pef_model.specs.declared.state.Work.TheVariants.{Inward, Outward}
use Rattle.pef_model.specs.declared.command.Cmd.{Cmd}
use Rattle.pef_model.specs.declared.command.Cmd.TheVariants.{UPagein, UPageout}
use Rattle.pef_model.specs.declared.command.Code.{Code}
use Rattle.pef_model.specs.declared.entry.Answer.TheVariants.{Step}
use Rattle.pef_model.specs.Plan.{Plan}
use Rattle.pef_model.specs.Event.{Event}
use Rattle.pef_model.specs.Target.{Ask, Alone, AtGuest, uses_hand, target_in}
use Rattle.pef_model.specs.Cpu.{CpuPart}
use Rattle.pef_model.specs.GuestPart.{GuestPart}
use Rattle.pef_model.specs.Guest.{Guest}
use Rattle.pef_model.specs.PageOut.{page_out_code}
use Rattle.pef_model.specs.PageIn.{page_in_operands}
use Rattle.pef_model.specs.Deed.{Deed, returning, deed_page_out_begin, deed_page_in_begin, deed_page_in_with}
use Rattle.pef_model.specs.History.{cpu_after, guest_after, pool_after, deed_after, ask_of, Extends, register_shown}
use Rattle.pef_model.specs.MoveLaw.{move_named, EachCallBeginsWhatIsNamed}

-- a call that answers Step did not come back at once
begins_here : (ask : Ask) (code : Option Code) (deed : Deed) → (returning ask code deed).answer ≡ Step → returning ask code deed ≡ deed
begins_here ask None deed step = refl
begins_here ask (Some code) deed step = cc

-- and had a free frame, where it is a page-in
has_frame : (plan : Plan) (g : GuestPart) (ask : Ask) (lpid src gpa : ℕ) (any : Bool) → (deed_page_in_with plan g ask lpid src gpa any).answer ≡ Step →
    deed_page_in_with plan g ask lpid src gpa any ≡ deed_page_in_begin plan g ask lpid src gpa
has_frame plan g ask lpid src gpa true step = refl
has_frame plan g ask lpid src gpa false step = cc

module _ (plan : Plan) (past : List Event) (e : Event) (lpid ra gpa flags order : ℕ) (extends : Extends plan past e) (hypervisor : e.saw.before ≡ ctx.Hv) (step : e.trace.answer ≡ Step) where
  abbrev cpu : CpuPart
  cpu = cpu_after plan e.trace.cpu past

  abbrev g : Guest
  g = guest_after plan lpid past

  abbrev any : Bool
  any = nat_lt 0 (pool_after plan past)

  abbrev ask_in : Ctx → Cmd → Ask
  ask_in c cmd = record { before = c; lpid = cpu.lpid; vid = cpu.vid; last = cpu.last; hand = if uses_hand c cmd then cpu.hand else []; register = register_shown c cmd cpu.own }

  abbrev named : Bool
  named = nat_le 1 lpid && nat_le lpid plan.guests

  -- the deed of a command that names the guest, if there is one
  abbrev deed_if : Bool → Cmd → Deed
  deed_if b cmd = deed_after plan past (ask_in ctx.Hv cmd) cmd (if b then AtGuest lpid else Alone)

  -- the entry's deed is the one in the hypervisor
  deed_is : (cmd : Cmd) → e.trace.cmd ≡ cmd →
      deed_after plan past (ask_of cpu e.trace.cmd) e.trace.cmd (target_in plan cpu.ctx cpu.lpid e.trace.cmd) ≡ deed_after plan past (ask_in ctx.Hv cmd) cmd (target_in plan ctx.Hv cpu.lpid cmd)
  deed_is cmd cmd_is =
      ap (λ (x : Cmd). deed_after plan past (ask_of cpu x) x (target_in plan cpu.ctx cpu.lpid x)) cmd_is
      ∙ ap (λ (c : Ctx). deed_after plan past (ask_in c cmd) cmd (target_in plan c cpu.lpid cmd)) (ap (λ (x : Event). x.saw.before) (sym extends.is) ∙ hypervisor)

  -- what it leaves where it answers Step, if the guest is there
  out_begins : (b : Bool) → (deed_if b (UPageout lpid ra gpa flags order)).answer ≡ Step → (deed_if b (UPageout lpid ra gpa flags order)).after ≡ ctx.Uv (Outward (move_named plan past lpid ra gpa))
  out_begins true k =
      let ask : Ask = ask_in ctx.Hv (UPageout lpid ra gpa flags order) in
      ap (λ (d : Deed). d.after) (begins_here ask (page_out_code plan g.part ra gpa flags order) (deed_page_out_begin plan g ask lpid ra gpa) k)
  out_begins false k = cc

  in_begins : (b : Bool) → (deed_if b (UPagein lpid ra gpa flags order)).answer ≡ Step → (deed_if b (UPagein lpid ra gpa flags order)).after ≡ ctx.Uv (Inward (move_named plan past lpid ra gpa))
  in_begins true k =
      let ask : Ask = ask_in ctx.Hv (UPagein lpid ra gpa flags order) in
      let here = begins_here ask (page_in_operands plan g.part ra gpa flags order) (deed_page_in_with plan g.part ask lpid ra gpa any) k in
      ap (λ (d : Deed). d.after) (here ∙ has_frame plan g.part ask lpid ra gpa any (ap (λ (d : Deed). d.answer) (sym here) ∙ k))
  in_begins false k = cc

-- so it is with each call
pub each_call_begins_what_is_named : EachCallBeginsWhatIsNamed
each_call_begins_what_is_named plan past e lpid ra gpa flags order extends hypervisor step = record {
  page_out = λ cmd_is.
      let is = deed_is plan past e lpid ra gpa flags order extends hypervisor step _ cmd_is in
      ap (λ (x : Event). x.saw.after) extends.is ∙ ap (λ (d : Deed). d.after) is
      ∙ out_begins plan past e lpid ra gpa flags order extends hypervisor step (nat_le 1 lpid && nat_le lpid plan.guests) (ap (λ (d : Deed). d.answer) (sym is) ∙ ap (λ (x : Event). x.trace.answer) (sym extends.is) ∙ step);
  page_in = λ cmd_is.
      let is = deed_is plan past e lpid ra gpa flags order extends hypervisor step _ cmd_is in
      ap (λ (x : Event). x.saw.after) extends.is ∙ ap (λ (d : Deed). d.after) is
      ∙ in_begins plan past e lpid ra gpa flags order extends hypervisor step (nat_le 1 lpid && nat_le lpid plan.guests) (ap (λ (d : Deed). d.answer) (sym is) ∙ ap (λ (x : Event). x.trace.answer) (sym extends.is) ∙ step);
}
