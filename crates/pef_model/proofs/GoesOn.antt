-- Where a vCPU goes on that UV_RETURN takes up.
use Rattle.std.proofs.Common.{◌≡◌, Bool, true, false, refl, ap, sym, ◌∙◌, ◌&&◌, if◌then◌else◌}
use Rattle.pef_model.specs.declared.state.Run.{Run}
use Rattle.pef_model.specs.declared.state.Ctx.TheVariants as ctx
use Rattle.pef_model.specs.declared.command.Code.TheVariants.{UInvalid}
use Rattle.pef_model.specs.declared.command.Cmd.TheVariants.{UReturn}
use Rattle.pef_model.specs.declared.entry.Answer.TheVariants.{Ret, Enter}
use Rattle.pef_model.specs.Event.{Event}
use Rattle.pef_model.specs.Target.{Ask}
use Rattle.pef_model.specs.Cpu.{CpuPart}
use Rattle.pef_model.specs.GuestPart.{GuestPart}
use Rattle.pef_model.specs.Deed.{Deed, may_return_in, is_waiting, taken_up_in, deed_return, answering}
use Rattle.pef_model.specs.History.{cpu_after, part_after}
use Rattle.pef_model.specs.TransitionLaw.{state_after}
use Rattle.pef_model.specs.ReturnLaw.{EachReturnGoesOn}
use Rattle.pef_model.proofs.DeedOf.{deed_of, ask_in, deed_is}

pub each_return_goes_on : EachReturnGoesOn
each_return_goes_on plan past e lpid vid r0 r2 outs extends takes =
    ap (λ (d : Deed). d.after) same
    ∙ by_test (may_return_in g.phase && is_waiting (g.vcpus cpu.vid).state) (sym (ap (λ (d : Deed). d.answer) same) ∙ takes.answer_is)
    ∙ (λ i. taken_up_in (state_after plan past (lpid_is i) (vid_is i)) (record { lpid = lpid_is i; vid = vid_is i; generation = (part_after plan past (lpid_is i)).generation })) where
      cpu : CpuPart
      cpu = cpu_after plan e.trace.cpu past

      g : GuestPart
      g = part_after plan past cpu.lpid

      ask : Ask
      ask = ask_in cpu ctx.Hv (UReturn r0 r2 outs)

      same : deed_of e ≡ deed_return g ask
      same = deed_is plan past e ctx.Hv (UReturn r0 r2 outs) extends takes.before takes.cmd_is

      lpid_is : cpu.lpid ≡ lpid
      lpid_is = sym (ap (λ (x : Event). x.saw.lpid) extends.is) ∙ takes.guest_is

      vid_is : cpu.vid ≡ vid
      vid_is = sym (ap (λ (x : Event). x.saw.vid) extends.is) ∙ takes.vcpu_is

      up : Run
      up = record { lpid = cpu.lpid; vid = cpu.vid; generation = g.generation }

      deed : Bool → Deed
      deed b = if b then record (answering ask Enter) { after = taken_up_in (g.vcpus cpu.vid).state up } else answering ask (Ret UInvalid)

      by_test : (b : Bool) → (deed b).answer ≡ Enter → (deed b).after ≡ taken_up_in (g.vcpus cpu.vid).state up
      by_test true h = refl
      by_test false h = cc
