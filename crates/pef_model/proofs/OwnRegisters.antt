-- The hypervisor has 32 registers on each CPU.
use Rattle.std.proofs.Common.{◌≡◌, ℕ, List, [], ◌∷◌, length, Bool, true, false, refl, ap, sym, subst, ◌∙◌, Option, Some, None, arith, length-append, length-take}
use Rattle.std.proofs.Math.ListN.{length-set}
use Rattle.pef_model.specs.declared.state.Ctx.{Ctx}
use Rattle.pef_model.specs.declared.state.Ctx.TheVariants as ctx
use Rattle.pef_model.specs.declared.state.Run.{Run}
use Rattle.pef_model.specs.declared.command.Cmd.{Cmd}
use Rattle.pef_model.specs.declared.command.Cmd.TheVariants.{HLd, HSelect, HEnter, GHcall, GIrq}
use Rattle.pef_model.specs.declared.entry.Exit.TheVariants as exit
use Rattle.pef_model.specs.declared.entry.Answer.{Answer}
use Rattle.pef_model.specs.declared.entry.Answer.TheVariants.{Val, Ret, Exit, Gone}
use Rattle.pef_model.specs.Plan.{Plan}
use Rattle.pef_model.specs.Event.{Event}
use Rattle.pef_model.specs.Registers.{Call, call_registers, call_of, loaded}
use Rattle.pef_model.specs.Target.{touches_cpu, caller}
use Rattle.pef_model.specs.Cpu.{CpuPart, start_cpu, next_cpu, own_after, own_after_call, own_after_ultracall, own_after_load, cpu_in, cpu_of_guest, cpu_of_call}
use Rattle.pef_model.specs.Guest.{Guest}
use Rattle.pef_model.specs.StepLaw.{let_out}
use Rattle.pef_model.specs.History.{cpu_after, guest_after, Extends, IsLegal}
use Rattle.pef_model.specs.Commands.{IsCommand}
use Rattle.pef_model.proofs.Folds.{counts, skips}
use Rattle.pef_model.proofs.Called.{length_loaded}
use Rattle.pef_model.proofs.Assigned.{AreFull, full_registers}
use Rattle.pef_model.proofs.Outcomes.{Outcome, outcome, moving}
use Rattle.pef_model.proofs.LetOut.{shown_is}

-- a code that comes back takes the room of what was there
after_call : (loaded : List ℕ) (a : Answer) → length loaded ≡ 32 → length (own_after_call loaded a) ≡ 32
after_call loaded (Ret code) h = simp length-set h
after_call loaded a h = h

-- and what was loaded
after_load : (own : List ℕ) (a : Answer) → length own ≡ 32 → length (own_after_load own a) ≡ 32
after_load own (Val value) h = simp length-set h
after_load own a h = h

-- a command of the hypervisor keeps that there are 32
after_command : (own : List ℕ) (cmd : Cmd) (a : Answer) → IsCommand cmd → length own ≡ 32 → length (own_after own cmd a) ≡ 32
after_command own (HLd ra) a k h = after_load own a h
after_command own (HSelect lpid vid) a k h = after_call own a h
after_command own (HEnter lpid vid value) a k h = after_call own a h
after_command own cmd a k h = by_call (call_of cmd) where
  by_call : (call : Option Call) → length (own_after_ultracall call own cmd a) ≡ 32
  by_call None = h
  by_call (Some call) = after_call (loaded own cmd) a (length_loaded own cmd k h)

-- a guest that leaves with all its registers shows as many
abbrev pub IsFullExit : Answer → List ℕ → Type 0
IsFullExit (Exit exit.Normal) shown = length shown ≡ 32
IsFullExit a shown = Unit {0}

-- so does one that leaves with a hypercall
pub length_called : (shown : List ℕ) → length (call_registers shown) ≡ 32
length_called shown = simp (length-take, length-append) (omega arith)

-- and so does a step of a vCPU
after_guest : (cpu : CpuPart) (run : Run) (a : Answer) (shown : List ℕ) → IsFullExit a shown → length cpu.own ≡ 32 → length (cpu_of_guest cpu run a shown).own ≡ 32
after_guest cpu run (Exit exit.Normal) shown whole h = whole
after_guest cpu run (Exit exit.Irq) shown whole h = refl
after_guest cpu run (Exit (exit.Hcall n)) shown whole h = length_called shown
after_guest cpu run Gone shown whole h = refl
after_guest cpu run a shown whole h = h

-- and one of a call in progress
after_work : (cpu : CpuPart) (caller : Option Run) (a : Answer) (shown : List ℕ) → IsFullExit a shown → length cpu.own ≡ 32 → length (cpu_of_call cpu caller a shown).own ≡ 32
after_work cpu (Some run) a shown whole h = after_guest cpu run a shown whole h
after_work cpu None (Ret code) shown whole h = simp length-set h
after_work cpu None a shown whole h = h

-- a step keeps it in each context
after_step : (cpu : CpuPart) (c : Ctx) (cmd : Cmd) (a : Answer) (shown : List ℕ) → IsCommand cmd → IsFullExit a shown → length cpu.own ≡ 32 → length (cpu_in c cpu cmd a shown).own ≡ 32
after_step cpu ctx.Hv cmd a shown k whole h = after_command cpu.own cmd a k h
after_step cpu (ctx.Uv work) cmd a shown k whole h = after_work cpu (caller work) a shown whole h
after_step cpu (ctx.Guest run) cmd a shown k whole h = after_guest cpu run a shown whole h

-- it leaves by an interrupt
exit_is_full : (plan : Plan) (guests : ℕ → Guest) (frame : Option ℕ) (c : Ctx) (cmd : Cmd) (a : Answer) (after : Ctx) (shown : List ℕ) → Outcome c cmd a after shown →
    ((lpid : ℕ) → AreFull (guests lpid).registers) → IsFullExit a (let_out plan guests c cmd a frame)
exit_is_full plan guests frame (ctx.Uv work) cmd (Exit exit.Normal) after shown h full = absurd (moving work cmd (Exit exit.Normal) after shown h)
exit_is_full plan guests frame (ctx.Guest run) GIrq (Exit exit.Normal) after shown h full = full run.lpid run.vid
exit_is_full plan guests frame (ctx.Guest run) GHcall (Exit exit.Normal) after shown h full = full run.lpid run.vid
exit_is_full plan guests frame (ctx.Guest run) cmd (Exit exit.Normal) after shown h full = absurd h
exit_is_full plan guests frame ctx.Hv (HLd ra) (Exit exit.Normal) after shown h full = absurd h
exit_is_full plan guests frame ctx.Hv cmd (Exit exit.Normal) after shown h full = absurd h
exit_is_full plan guests frame c cmd a after shown h full = tt

pub full_exit : (plan : Plan) (past : List Event) (e : Event) → Extends plan past e → IsLegal plan past → IsFullExit e.trace.answer e.saw.shown
full_exit plan past e extends legal =
    subst (IsFullExit e.trace.answer) (sym (shown_is plan past e extends))
    (exit_is_full plan (λ lpid. guest_after plan lpid past) e.saw.frame e.saw.before e.trace.cmd e.trace.answer e.saw.after e.saw.shown (outcome plan past e extends) (λ lpid. full_registers plan past lpid legal))

-- by induction over the history
pub own_registers : (plan : Plan) (past : List Event) (n : ℕ) → IsLegal plan past → length (cpu_after plan n past).own ≡ 32
own_registers plan [] n legal = refl
own_registers plan (e ∷ past) n legal = by_test (own_registers plan past n legal.1) (touches_cpu n e) refl where
  cpu : CpuPart
  cpu = cpu_after plan n past

  own : CpuPart → ℕ
  own x = length x.own

  by_test : length cpu.own ≡ 32 → (b : Bool) → touches_cpu n e ≡ b → length (cpu_after plan n (e ∷ past)).own ≡ 32
  by_test ih true t =
      ap own (counts (touches_cpu n) next_cpu (start_cpu plan) e past t)
      ∙ after_step cpu e.saw.before e.trace.cmd e.trace.answer e.saw.shown legal.0.command (full_exit plan past e legal.0 legal.1) ih
  by_test ih false t = ap own (skips (touches_cpu n) next_cpu (start_cpu plan) e past t) ∙ ih
