-- Where Context and Gone come.
use Rattle.std.proofs.Common.{◌≡◌, ◌≢◌, ℕ, List, ◌∷◌, Bool, true, false, ◌==◌, ◌&&◌, nat_lt, if◌then◌else◌, refl, ap, sym, subst, ◌∙◌, Some, None, arith}
use Rattle.std.specs.Prelude.{is_some, unwrap_or}
use Rattle.std.proofs.lemmas.Grind.{common_steps}
use Rattle.std.proofs.lemmas.Bool.Decides.{nat_tests}
use Rattle.pef_model.specs.declared.state.Run.{Run}
use Rattle.pef_model.specs.declared.state.Work.TheVariants.{Inward, Outward}
use Rattle.pef_model.specs.declared.state.Ctx.{Ctx}
use Rattle.pef_model.specs.declared.state.Ctx.TheVariants as ctx
use Rattle.pef_model.specs.declared.command.Cmd.{Cmd}
use Rattle.pef_model.specs.declared.entry.Answer.{Answer}
use Rattle.pef_model.specs.declared.entry.Answer.TheVariants.{Gone, Context}
use Rattle.pef_model.specs.Plan.{Plan}
use Rattle.pef_model.specs.Event.{Event}
use Rattle.pef_model.specs.Memory.{start_pool, next_pool, start_frame, next_frame}
use Rattle.pef_model.specs.Target.{Ask, Alone, is_hypervisor, vcpu_in, is_guest, is_number, target_in, target_of, touches_cpu, touches_guest, touches_pool, touches_frame, is_command_in}
use Rattle.pef_model.specs.Cpu.{CpuPart, start_cpu, next_cpu, cpu_by}
use Rattle.pef_model.specs.Guest.{Guest, start_guest, next_guest, stored_in}
use Rattle.pef_model.specs.Deed.{Deed, deed_alone, deed_running, deed_gone}
use Rattle.pef_model.specs.History.{cpu_after, guest_after, pool_after, found_after, deed_after, Extends, ChangesNoMemory}
use Rattle.pef_model.specs.CauseLaw.{ContextExactlyWhere, IsOfAnEndedGuest, GoneExactlyWhere}
use Rattle.pef_model.proofs.Folds.{same_test, test_same, skips, counts}
use Rattle.pef_model.specs.declared.state.Regs.{Regs}
use Rattle.pef_model.specs.GuestPart.{put, part_of_guest}
use Rattle.pef_model.specs.Guest.{registers_after_command}
use Rattle.pef_model.specs.CauseLaw.{gone_cpu}
use Rattle.pef_model.proofs.Puts.{put-same}
use Rattle.pef_model.proofs.Outcomes.{Outcome, outcome, moving}
use Rattle.pef_model.proofs.Steps.{context_leaves}
use Rattle.pef_model.proofs.Works.{one_vcpu}
use Rattle.pef_model.proofs.DeedOf.{deed_of, ask_in, deed_in, context_is, selected_is, deed_is}

-- a step answers Context at a command of another context
pub context_comes : (c : Ctx) (cmd : Cmd) (after : Ctx) (shown : List ℕ) → Outcome c cmd Context after shown → is_command_in c cmd ≡ false
context_comes c cmd after shown h = grind (arith, common_steps)

-- and nothing else
context_goes : (c : Ctx) (cmd : Cmd) (a : Answer) (after : Ctx) (shown : List ℕ) → is_command_in c cmd ≡ false → Outcome c cmd a after shown → a ≡ Context
context_goes c cmd a after shown other h = grind (arith, common_steps)

-- such a command aims at nothing
other_aims : (plan : Plan) (c : Ctx) (lpid : ℕ) (cmd : Cmd) → is_command_in c cmd ≡ false → target_in plan c lpid cmd ≡ Alone
other_aims plan c lpid cmd other = grind (arith, common_steps)

-- so it changes nothing
module _ (plan : Plan) (past : List Event) (e : Event) (extends : Extends plan past e) (is : e.trace.answer ≡ Context) where
  abbrev cpu : CpuPart
  cpu = cpu_after plan e.trace.cpu past

  given : Outcome e.saw.before e.trace.cmd Context e.saw.after e.saw.shown
  given = subst (λ (a : Answer). Outcome e.saw.before e.trace.cmd a e.saw.after e.saw.shown) is (outcome plan past e extends)

  alone : target_of plan e ≡ Alone
  alone = other_aims plan e.saw.before e.saw.lpid e.trace.cmd (context_comes e.saw.before e.trace.cmd e.saw.after e.saw.shown given)

  deed : deed_of e ≡ deed_alone plan (ask_in cpu e.saw.before e.trace.cmd) e.trace.cmd
  deed =
      deed_is plan past e e.saw.before e.trace.cmd extends refl refl
      ∙ ap (deed_after plan past (ask_in cpu e.saw.before e.trace.cmd) e.trace.cmd) (ap (λ (l : ℕ). target_in plan e.saw.before l e.trace.cmd) (sym (selected_is plan past e extends)) ∙ alone)

  by_cpu : (n : ℕ) (b : Bool) → touches_cpu n e ≡ b → cpu_after plan n (e ∷ past) ≡ cpu_after plan n past
  by_cpu n false t = skips (touches_cpu n) next_cpu (start_cpu plan) e past t
  by_cpu n true t =
      let same : e.trace.cpu ≡ n = test_same e.trace.cpu n t in
      counts (touches_cpu n) next_cpu (start_cpu plan) e past t
      ∙ ap (λ (k : ℕ). next_cpu (cpu_after plan k past) e) (sym same)
      ∙ ap (λ (a : Answer). cpu_by cpu e.saw.before e.saw.after e.trace.cmd a e.saw.shown e.bytes) is
      ∙ context_leaves cpu e.saw.before e.saw.after e.trace.cmd e.saw.shown e.bytes (sym (context_is plan past e extends)) given
      ∙ ap (λ (k : ℕ). cpu_after plan k past) same

  context_rest : ChangesNoMemory plan past e
  context_rest = record {
    guests = λ lpid. skips (touches_guest plan lpid) (next_guest plan) (start_guest plan lpid) e past (ap (is_guest lpid) alone);
    pool = skips touches_pool next_pool (start_pool plan) e past (ap (λ (d : Deed). is_some d.pool) deed);
    frames = λ n. skips (touches_frame n) (next_frame plan n) (start_frame plan) e past (ap (λ (d : Deed). is_number n d.frame) deed);
  }

pub context_exactly_where : ContextExactlyWhere
context_exactly_where plan past e extends = record {
  comes = (
    λ is. context_comes e.saw.before e.trace.cmd e.saw.after e.saw.shown (subst (λ (a : Answer). Outcome e.saw.before e.trace.cmd a e.saw.after e.saw.shown) is (outcome plan past e extends)),
    λ other. context_goes e.saw.before e.trace.cmd e.trace.answer e.saw.after e.saw.shown other (outcome plan past e extends),
  );
  cpus = λ is n. by_cpu plan past e extends is n (touches_cpu n e) refl;
  rest = context_rest plan past e extends;
}

-- Gone comes from a vCPU
gone_comes : (c : Ctx) (cmd : Cmd) (after : Ctx) (shown : List ℕ) → Outcome c cmd Gone after shown → is_hypervisor c ≡ false
gone_comes c cmd after shown h = grind (arith, common_steps)

-- at a command of its context
gone_command : (c : Ctx) (cmd : Cmd) (after : Ctx) (shown : List ℕ) → Outcome c cmd Gone after shown → is_command_in c cmd ≡ true
gone_command c cmd after shown h = grind (arith, common_steps)

-- what a command of a vCPU does
command_in : (plan : Plan) (past : List Event) (cpu : CpuPart) (run : Run) (cmd : Cmd) → is_command_in (ctx.Guest run) cmd ≡ true →
    deed_in plan past cpu (ctx.Guest run) cmd
    ≡ (if run.generation == (guest_after plan run.lpid past).part.generation
    then deed_running plan run (guest_after plan run.lpid past) (found_after plan past) (nat_lt 0 (pool_after plan past)) (ask_in cpu (ctx.Guest run) cmd) cmd
    else deed_gone (ask_in cpu (ctx.Guest run) cmd))
command_in plan past cpu run cmd h = grind (arith, common_steps)

-- and a step of a guest that hasn't ended isn't Gone
running_not_gone : (plan : Plan) (run : Run) (g : Guest) (found : ℕ → ℕ → ℕ) (any : Bool) (ask : Ask) (cmd : Cmd) → is_command_in (ctx.Guest run) cmd ≡ true → (deed_running plan run g found any ask cmd).answer ≡ Gone → ⊥
running_not_gone plan run g found any ask cmd c h = grind (arith, common_steps)

other_test : (m n : ℕ) → m ≢ n → (m == n) ≡ false
other_test m n h = grind (arith, nat_tests)

-- of a guest's call in progress no step is here yet
runs_as_guest : (c : Ctx) (cmd : Cmd) (run : Run) → vcpu_in c ≡ Some run → is_command_in c cmd ≡ true → c ≡ ctx.Guest run
runs_as_guest ctx.Hv cmd run runs command = cc
runs_as_guest (ctx.Uv (Inward move)) cmd run runs command = cc
runs_as_guest (ctx.Uv (Outward move)) cmd run runs command = cc
runs_as_guest (ctx.Uv work) cmd run runs command = cc
runs_as_guest (ctx.Guest other) cmd run runs command = ap ctx.Guest (one_vcpu (ctx.Guest other) other run refl runs)

module _ (plan : Plan) (past : List Event) (e : Event) (extends : Extends plan past e) where
  gone_from : (is : e.trace.answer ≡ Gone) (c : Ctx) → e.saw.before ≡ c → Outcome c e.trace.cmd Gone e.saw.after e.saw.shown → IsOfAnEndedGuest plan past e
  gone_from is ctx.Hv before given = absurd (true_not_false (gone_comes ctx.Hv e.trace.cmd e.saw.after e.saw.shown given)) where
    true_not_false : true ≡ false → ⊥
    true_not_false h = cc
  gone_from is (ctx.Uv work) before given = absurd (moving work e.trace.cmd Gone e.saw.after e.saw.shown given)
  gone_from is (ctx.Guest run) before given =
      let command : is_command_in (ctx.Guest run) e.trace.cmd ≡ true = gone_command (ctx.Guest run) e.trace.cmd e.saw.after e.saw.shown given in
      record {
        run = run;
        before = ap vcpu_in before;
        cmd_is = ap (λ (c : Ctx). is_command_in c e.trace.cmd) before ∙ command;
        generation = λ same.
            let g : Guest = guest_after plan run.lpid past in
            let ask : Ask = ask_in (cpu_after plan e.trace.cpu past) (ctx.Guest run) e.trace.cmd in
            let runs = deed_running plan run g (found_after plan past) (nat_lt 0 (pool_after plan past)) ask e.trace.cmd in
            running_not_gone plan run g (found_after plan past) (nat_lt 0 (pool_after plan past)) ask e.trace.cmd command
            (sym (ap (λ (d : Deed). d.answer) (deed_is plan past e (ctx.Guest run) e.trace.cmd extends before refl ∙ command_in plan past (cpu_after plan e.trace.cpu past) run e.trace.cmd command)
            ∙ ap (λ (b : Bool). (if b then runs else deed_gone ask).answer) (ap (λ (k : ℕ). run.generation == k) (sym same) ∙ same_test run.generation)) ∙ is);
      }

  -- what it does
  gone_deed : (ended : IsOfAnEndedGuest plan past e) → deed_of e ≡ deed_gone (ask_in (cpu_after plan e.trace.cpu past) (ctx.Guest ended.run) e.trace.cmd)
  gone_deed ended =
      let run : Run = ended.run in
      let before : e.saw.before ≡ ctx.Guest run = runs_as_guest e.saw.before e.trace.cmd run ended.before ended.cmd_is in
      let ask : Ask = ask_in (cpu_after plan e.trace.cpu past) (ctx.Guest run) e.trace.cmd in
      let runs = deed_running plan run (guest_after plan run.lpid past) (found_after plan past) (nat_lt 0 (pool_after plan past)) ask e.trace.cmd in
      let command : is_command_in (ctx.Guest run) e.trace.cmd ≡ true = ap (λ (c : Ctx). is_command_in c e.trace.cmd) (sym before) ∙ ended.cmd_is in
      deed_is plan past e (ctx.Guest run) e.trace.cmd extends before refl ∙ command_in plan past (cpu_after plan e.trace.cpu past) run e.trace.cmd command
      ∙ ap (λ (b : Bool). if b then runs else deed_gone ask) (other_test run.generation (guest_after plan run.lpid past).part.generation ended.generation)

-- and it changes its CPU alone
gone_cpu_is : (plan : Plan) (past : List Event) (e : Event) → Extends plan past e → e.trace.answer ≡ Gone → cpu_after plan e.trace.cpu (e ∷ past) ≡ gone_cpu (cpu_after plan e.trace.cpu past)
gone_cpu_is plan past e extends is = let given = outcome plan past e extends in grind (arith, common_steps)

-- it keeps the registers of its vCPU
gone_registers : (g : Guest) (regs : Regs) (cmd : Cmd) → registers_after_command g regs cmd Gone ≡ regs
gone_registers g regs cmd = grind (arith, common_steps)

-- and its guest
gone_guest : (plan : Plan) (g : Guest) (e : Event) (run : Run) → e.saw.before ≡ ctx.Guest run → e.trace.answer ≡ Gone → next_guest plan g e ≡ g
gone_guest plan g e run before is =
    (λ i. next_guest plan g (record e { saw = record e.saw { before = before i }; trace = record e.trace { answer = is i } })) ∙ by_cmd e.trace.cmd where
      by_cmd : (cmd : Cmd) → next_guest plan g (record e { saw = record e.saw { before = ctx.Guest run }; trace = record e.trace { cmd = cmd; answer = Gone } }) ≡ g
      by_cmd cmd = (λ i. record g { part = part_is cmd i; content = λ gpa. unwrap_or (content_is cmd gpa i) (g.content gpa); registers = λ vid. registers_are cmd vid i; clean = clean_is g.clean i }) where
        part_is : (cmd : Cmd) → part_of_guest plan g.part run.vid Gone cmd e.saw.pool ≡ g.part
        part_is cmd = grind (arith, common_steps)

        content_is : (cmd : Cmd) (gpa : ℕ) → stored_in (ctx.Guest run) plan g cmd Gone e.saw.frame e.bytes gpa ≡ None
        content_is cmd gpa = grind (arith, common_steps)

        registers_are : (cmd : Cmd) (vid : ℕ) → put g.registers run.vid (registers_after_command g (g.registers run.vid) cmd Gone) vid ≡ g.registers vid
        registers_are cmd vid = ap (λ (regs : Regs). put g.registers run.vid regs vid) (gone_registers g (g.registers run.vid) cmd) ∙ put-same g.registers run.vid vid

        clean_is : (b : Bool) → (b && true) ≡ b
        clean_is true = refl
        clean_is false = refl

gone_rest : (plan : Plan) (past : List Event) (e : Event) → Extends plan past e → IsOfAnEndedGuest plan past e → ChangesNoMemory plan past e
gone_rest plan past e extends ended = record {
  guests = λ lpid. by_guest lpid (touches_guest plan lpid e) refl;
  pool = skips touches_pool next_pool (start_pool plan) e past (ap (λ (d : Deed). is_some d.pool) deed);
  frames = λ n. skips (touches_frame n) (next_frame plan n) (start_frame plan) e past (ap (λ (d : Deed). is_number n d.frame) deed);
} where
  deed : deed_of e ≡ deed_gone (ask_in (cpu_after plan e.trace.cpu past) (ctx.Guest ended.run) e.trace.cmd)
  deed = gone_deed plan past e extends ended

  by_guest : (lpid : ℕ) (b : Bool) → touches_guest plan lpid e ≡ b → guest_after plan lpid (e ∷ past) ≡ guest_after plan lpid past
  by_guest lpid false t = skips (touches_guest plan lpid) (next_guest plan) (start_guest plan lpid) e past t
  by_guest lpid true t =
      counts (touches_guest plan lpid) (next_guest plan) (start_guest plan lpid) e past t
      ∙ gone_guest plan (guest_after plan lpid past) e ended.run (runs_as_guest e.saw.before e.trace.cmd ended.run ended.before ended.cmd_is) (ap (λ (d : Deed). d.answer) deed)

pub gone_exactly_where : GoneExactlyWhere
gone_exactly_where plan past e extends = record {
  comes = (
    λ is. gone_from plan past e extends is e.saw.before refl (subst (λ (a : Answer). Outcome e.saw.before e.trace.cmd a e.saw.after e.saw.shown) is (outcome plan past e extends)),
    λ ended. ap (λ (d : Deed). d.answer) (gone_deed plan past e extends ended),
  );
  cpu = gone_cpu_is plan past e extends;
  rest = λ is. gone_rest plan past e extends (gone_from plan past e extends is e.saw.before refl (subst (λ (a : Answer). Outcome e.saw.before e.trace.cmd a e.saw.after e.saw.shown) is (outcome plan past e extends)));
}
