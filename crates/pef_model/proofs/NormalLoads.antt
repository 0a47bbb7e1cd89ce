-- What the hypervisor loads is what was last written there.
use Rattle.std.proofs.Common.{◌≡◌, ℕ, List, ◌∷◌, Bool, true, false, refl, ap, sym, ◌∙◌, if◌then◌else◌, []}
use Rattle.pef_model.specs.declared.config.Config.{Config}
use Rattle.pef_model.specs.declared.state.Ctx.{Ctx}
use Rattle.pef_model.specs.declared.state.Ctx.TheVariants as ctx
use Rattle.pef_model.specs.declared.command.Cmd.{Cmd}
use Rattle.pef_model.specs.declared.command.Cmd.TheVariants.{HLd}
use Rattle.pef_model.specs.declared.entry.Answer.{Answer}
use Rattle.pef_model.specs.declared.entry.Answer.TheVariants.{Val}
use Rattle.pef_model.specs.Plan.{Plan, IsInRange, plan_of}
use Rattle.pef_model.specs.Event.{Event}
use Rattle.pef_model.specs.Target.{Ask, Alone, AtFrame, frame_of, has_real_place, uses_hand, target_in}
use Rattle.pef_model.specs.Cpu.{CpuPart}
use Rattle.pef_model.specs.History.{cpu_after, deed_after, ask_of, last_norm, IsLegal, register_shown}
use Rattle.pef_model.specs.Doubleword.{doubleword}
use Rattle.pef_model.specs.Target.{value_in}
use Rattle.pef_model.specs.NormalLaw.{LoadGivesLastNorm}
use Rattle.pef_model.proofs.Normal.{frames_hold_last_norm}

module _ (config : Config) (past : List Event) (e : Event) (ra value : ℕ) (range : IsInRange config) (legal : IsLegal (plan_of config) (e ∷ past)) (before : e.saw.before ≡ ctx.Hv) (cmd_is : e.trace.cmd ≡ HLd ra) (answer_is : e.trace.answer ≡ Val value) where
  abbrev plan : Plan
  plan = plan_of config

  abbrev cpu : CpuPart
  cpu = cpu_after plan e.trace.cpu past

  abbrev ask : Ctx → Ask
  ask c = record { before = c; lpid = cpu.lpid; vid = cpu.vid; last = cpu.last; hand = if uses_hand c (HLd ra) then cpu.hand else []; register = register_shown c (HLd ra) cpu.own }

  abbrev deed_answer : Bool → Answer
  deed_answer b = (deed_after plan past (ask ctx.Hv) (HLd ra) (if b then AtFrame (frame_of plan ra) else Alone)).answer

  -- the answer is the deed's
  answered : e.trace.answer ≡ deed_answer (has_real_place plan ra)
  answered =
      ap (λ (x : Event). x.trace.answer) legal.0.is
      ∙ ap (λ (cmd : Cmd). (deed_after plan past (ask_of cpu cmd) cmd (target_in plan cpu.ctx cpu.lpid cmd)).answer) cmd_is
      ∙ ap (λ (c : Ctx). (deed_after plan past (ask c) (HLd ra) (target_in plan c cpu.lpid (HLd ra))).answer) (ap (λ (x : Event). x.saw.before) (sym legal.0.is) ∙ before)

  -- which has a value only where the address has its frame
  by : (b : Bool) → has_real_place plan ra ≡ b → deed_answer b ≡ Val value → value ≡ last_norm plan past ra
  unfolding doubleword
  by true there k = sym (ap value_in k) ∙ frames_hold_last_norm config past ra range legal.1 there
  by false none k = cc

  given : value ≡ last_norm plan past ra
  given = by (has_real_place plan ra) refl (sym answered ∙ answer_is)

-- so each load gives it
pub load_gives_last_norm : LoadGivesLastNorm
load_gives_last_norm config past e ra value range legal before cmd_is answer_is = given config past e ra value range legal before cmd_is answer_is
