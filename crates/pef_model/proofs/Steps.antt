-- What an entry makes of its CPU and lets out.
use Rattle.std.proofs.Common.{Option, Some, None, ◌≡◌, ℕ, ◌-◌, ◌<◌, ◌≤◌, List, ◌∷◌, ◌++◌, length, replicate, get_or, refl, ap, sym, subst, ◌∙◌, if◌then◌else◌, arith, Bool, true, false, ◌==◌, ◌≢◌, Option, nat_lt, nat_le}
use Rattle.std.specs.Prelude.{unwrap_or, slice_get}
use Rattle.std.proofs.lemmas.Option.{slice_get-get_or, slice_get_past}
use Rattle.std.proofs.lemmas.List.{get_or-replicate, get_or-take, get_or_append_left, get_or-append_right}
use Rattle.std.proofs.lemmas.Grind.{common_steps}
use Rattle.std.proofs.lemmas.Bool.Decides.{nat_tests}
use Rattle.pef_model.specs.declared.state.Run.{Run}
use Rattle.pef_model.specs.declared.state.Work.{Work}
use Rattle.pef_model.specs.declared.state.Work.TheVariants.{Inward, Outward}
use Rattle.pef_model.specs.declared.state.Ctx.{Ctx}
use Rattle.pef_model.specs.declared.state.Ctx.TheVariants as ctx
use Rattle.pef_model.specs.declared.command.TheConstants.{EXTERNAL_INTERRUPT}
use Rattle.pef_model.specs.declared.command.Cmd.{Cmd}
use Rattle.pef_model.specs.declared.command.Cmd.TheVariants.{HLd, HSt, HSelect, HEnter, UPate, URegslot, UUnregslot, UPagein, UPageout, UInval, UReturn, Go, Dump}
use Rattle.pef_model.specs.declared.entry.Exit.TheVariants as exit
use Rattle.pef_model.specs.declared.entry.Answer.{Answer}
use Rattle.pef_model.specs.declared.entry.Answer.TheVariants.{Done, Val, Ret, Step, Exit, Gone, Context}
use Rattle.pef_model.specs.Plan.{Plan}
use Rattle.pef_model.specs.Event.{Event}
use Rattle.pef_model.specs.Registers.{Call, number_of, call_of, interrupt_registers, call_registers}
use Rattle.pef_model.specs.Cpu.{CpuPart, start_cpu, next_cpu, cpu_in, cpu_by, cpu_of_guest, own_after, own_after_ultracall, own_after_call, own_after_load, last_after, cpu_of_call}
use Rattle.pef_model.specs.Target.{touches_cpu, caller}
use Rattle.pef_model.specs.History.{cpu_after}
use Rattle.pef_model.specs.Commands.{IsCommand}
use Rattle.pef_model.specs.StepLaw.{given_by_coming_back, given_by_load, given_by_ultracall, given_by_command, own_given_in, given_by_leaving, lpid_selected, vid_selected, selected_lpid, selected_vid, EachEntryLeavesCpu, is_kept, given_by_work}
use Rattle.pef_model.proofs.Folds.{same_test, test_same, counts}
use Rattle.pef_model.proofs.Called.{set_value}
use Rattle.pef_model.proofs.Called.{loads_value, returns_value}
use Rattle.pef_model.proofs.OwnRegisters.{own_registers, IsFullExit, full_exit}
use Rattle.pef_model.proofs.Outcomes.{Outcome, outcome, Moving, moving}
use Rattle.pef_model.proofs.LetOut.{shown_is}

-- the context after a guest's step, by its answer
abbrev pub ctx_after_guest : Run → Answer → Ctx
ctx_after_guest run (Exit exit) = ctx.Hv
ctx_after_guest run Gone = ctx.Hv
ctx_after_guest run a = ctx.Guest run

pub after_guest : (run : Run) (cmd : Cmd) (a : Answer) (after : Ctx) (shown : List ℕ) → Outcome (ctx.Guest run) cmd a after shown → after ≡ ctx_after_guest run a
after_guest run cmd a after shown h = grind (arith, common_steps)

-- a command of another context leaves the CPU as it is
pub context_leaves : (cpu : CpuPart) (c after : Ctx) (cmd : Cmd) (shown bytes : List ℕ) → cpu.ctx ≡ c → Outcome c cmd Context after shown → cpu_by cpu c after cmd Context shown bytes ≡ cpu
context_leaves cpu ctx.Hv after (HLd ra) shown bytes before h = absurd h
context_leaves cpu ctx.Hv after (HSt ra value) shown bytes before h = absurd h
context_leaves cpu ctx.Hv after (HSelect lpid vid) shown bytes before h = absurd h
context_leaves cpu ctx.Hv after (HEnter lpid vid value) shown bytes before h = absurd h
context_leaves cpu ctx.Hv after (UPate lpid dw0 dw1) shown bytes before h = absurd h
context_leaves cpu ctx.Hv after (URegslot lpid start size flags id) shown bytes before h = absurd h
context_leaves cpu ctx.Hv after (UUnregslot lpid id) shown bytes before h = absurd h
context_leaves cpu ctx.Hv after (UPagein lpid src gpa flags order) shown bytes before h = absurd h
context_leaves cpu ctx.Hv after (UPageout lpid dest gpa flags order) shown bytes before h = absurd h
context_leaves cpu ctx.Hv after (UInval lpid gpa order) shown bytes before h = absurd h
context_leaves cpu ctx.Hv after (UReturn r0 r2 outs) shown bytes before h = absurd h
context_leaves cpu ctx.Hv after (Dump reg) shown bytes before h = absurd h
context_leaves cpu ctx.Hv after cmd shown bytes before h = (λ i. record cpu { ctx = (h.0 ∙ sym before) i })
context_leaves cpu (ctx.Uv (Inward move)) after Go shown bytes before h = absurd h
context_leaves cpu (ctx.Uv (Inward move)) after cmd shown bytes before h = (λ i. record cpu { ctx = (h.0 ∙ sym before) i })
context_leaves cpu (ctx.Uv (Outward move)) after Go shown bytes before h = absurd h
context_leaves cpu (ctx.Uv (Outward move)) after cmd shown bytes before h = (λ i. record cpu { ctx = (h.0 ∙ sym before) i })
context_leaves cpu (ctx.Uv work) after cmd shown bytes before h = (λ i. record cpu { ctx = (h.0 ∙ sym before) i })
context_leaves cpu (ctx.Guest run) after (HLd ra) shown bytes before h = (λ i. record cpu { ctx = (h ∙ sym before) i })
context_leaves cpu (ctx.Guest run) after (HSt ra value) shown bytes before h = (λ i. record cpu { ctx = (h ∙ sym before) i })
context_leaves cpu (ctx.Guest run) after (HSelect lpid vid) shown bytes before h = (λ i. record cpu { ctx = (h ∙ sym before) i })
context_leaves cpu (ctx.Guest run) after (HEnter lpid vid value) shown bytes before h = (λ i. record cpu { ctx = (h ∙ sym before) i })
context_leaves cpu (ctx.Guest run) after Go shown bytes before h = (λ i. record cpu { ctx = (h ∙ sym before) i })
context_leaves cpu (ctx.Guest run) after cmd shown bytes before h = absurd h

last_by_hypervisor : (old a : Answer) (after : Ctx) → last_after old a ≡ (if is_kept ctx.Hv a after then a else old)
last_by_hypervisor old Context after = refl
last_by_hypervisor old a after = refl

-- of a call in progress the last answer is kept where it comes back
last_by_work : (cpu : CpuPart) (work : Work) (after : Ctx) (a : Answer) (shown : List ℕ) → Moving work a after shown →
    (cpu_in (ctx.Uv work) cpu Go a shown).last ≡ (if is_kept (ctx.Uv work) a after then a else cpu.last)
last_by_work cpu (Inward move) after Step shown h = ap (λ (x : Ctx). if is_kept (ctx.Uv (Inward move)) Step x then Step else cpu.last) (sym h.0)
last_by_work cpu (Outward move) after Step shown h = ap (λ (x : Ctx). if is_kept (ctx.Uv (Outward move)) Step x then Step else cpu.last) (sym h.0)
last_by_work cpu (Inward move) after (Ret code) shown h = ap (λ (x : Ctx). if is_kept (ctx.Uv (Inward move)) (Ret code) x then Ret code else cpu.last) (sym h.0)
last_by_work cpu (Outward move) after (Ret code) shown h = ap (λ (x : Ctx). if is_kept (ctx.Uv (Outward move)) (Ret code) x then Ret code else cpu.last) (sym h.0)
last_by_work cpu (Inward move) after Context shown h = refl
last_by_work cpu work after Step shown h = absurd h.0
last_by_work cpu work after (Ret code) shown h = absurd h.0
last_by_work cpu work after Context shown h = refl
last_by_work cpu work after a shown h = absurd h

last_by_guest : (cpu : CpuPart) (run : Run) (a : Answer) (shown : List ℕ) → (cpu_of_guest cpu run a shown).last ≡ (if is_kept (ctx.Guest run) a (ctx_after_guest run a) then a else cpu.last)
last_by_guest cpu run (Exit exit) shown = refl
last_by_guest cpu run Gone shown = refl
last_by_guest cpu run a shown = refl

last_left : (cpu : CpuPart) (c after : Ctx) (cmd : Cmd) (a : Answer) (shown : List ℕ) → Outcome c cmd a after shown →
    (cpu_in c cpu cmd a shown).last ≡ (if is_kept c a after then a else cpu.last)
last_left cpu ctx.Hv after cmd a shown h = last_by_hypervisor cpu.last a after
last_left cpu (ctx.Uv work) after cmd a shown h = last_by_work cpu work after a shown (moving work cmd a after shown h)
last_left cpu (ctx.Guest run) after cmd a shown h =
    last_by_guest cpu run a shown ∙ ap (λ (x : Ctx). if is_kept (ctx.Guest run) a x then a else cpu.last) (sym (after_guest run cmd a after shown h))

own_by_load : (own : List ℕ) (a : Answer) (r : ℕ) → length own ≡ 32 → get_or (own_after_load own a) r 0 ≡ unwrap_or (given_by_load a r) (get_or own r 0)
own_by_load own (Val value) r full = set_value own 3 value r full (omega arith)
own_by_load own a r full = refl

-- each of the hypervisor's registers after a call, by whether it came back
by_call : (own : List ℕ) (cmd : Cmd) (a : Answer) (r : ℕ) → IsCommand cmd → length own ≡ 32 → (call : Option Call) →
    get_or (own_after_ultracall call own cmd a) r 0 ≡ unwrap_or (given_by_ultracall call cmd a r) (get_or own r 0)
by_call own cmd a r k full None = refl
by_call own cmd (Ret code) r k full (Some call) = returns_value own cmd code r k full
by_call own cmd a r k full (Some call) = loads_value own cmd r k full

-- each of the hypervisor's registers after a command that gives R3 a code where it is refused
by_code : (own : List ℕ) (a : Answer) (r : ℕ) → length own ≡ 32 → get_or (own_after_call own a) r 0 ≡ unwrap_or (given_by_coming_back a r) (get_or own r 0)
by_code own (Ret code) r full = set_value own 3 (number_of code) r full (omega arith)
by_code own a r full = refl

-- each of the hypervisor's registers after a command of its own
own_by_command : (own : List ℕ) (cmd : Cmd) (a : Answer) (r : ℕ) → IsCommand cmd → length own ≡ 32 →
    get_or (own_after own cmd a) r 0 ≡ unwrap_or (given_by_command cmd a r) (get_or own r 0)
own_by_command own (HLd ra) a r k full = own_by_load own a r full
own_by_command own (HSelect lpid vid) a r k full = by_code own a r full
own_by_command own (HEnter lpid vid value) a r k full = by_code own a r full
own_by_command own cmd a r k full = by_call own cmd a r k full (call_of cmd)

-- R3 shows the interrupt, and every other register 0
interrupt_shows : (r : ℕ) → r < 32 → get_or interrupt_registers r 0 ≡ (if r == 3 then EXTERNAL_INTERRUPT else 0)
interrupt_shows r small = by_test (r == 3) refl where
  by_test : (b : Bool) → (r == 3) ≡ b → get_or interrupt_registers r 0 ≡ (if b then EXTERNAL_INTERRUPT else 0)
  by_test true t = ap (λ (n : ℕ). get_or interrupt_registers n 0) (test_same r 3 t)
  by_test false t = let other : 3 ≢ r = grind (arith, nat_tests) in let zero : get_or (replicate {A = ℕ} 32 0) r 0 ≡ 0 = get_or-replicate 32 r 0 0 small in grind (arith, common_steps)

-- what a hypercall lets out is in R3 and the registers after it, and every other register shows 0
pub call_shows : (shown : List ℕ) (r : ℕ) → r < 32 → get_or (call_registers shown) r 0 ≡ (if nat_le 3 r then unwrap_or (slice_get shown (r - 3)) 0 else 0)
call_shows shown r small = get_or-take 32 (replicate 3 0 ++ (shown ++ replicate 29 0)) r 0 small ∙ by_place (nat_le 3 r) refl where
  behind : (k : ℕ) → k < 29 → get_or (shown ++ replicate 29 0) k 0 ≡ unwrap_or (slice_get shown k) 0
  behind k few = by_length (nat_lt k (length shown)) refl where
    by_length : (b : Bool) → nat_lt k (length shown) ≡ b → get_or (shown ++ replicate 29 0) k 0 ≡ unwrap_or (slice_get shown k) 0
    by_length true t = let less : k < length shown = grind (arith, nat_tests) in get_or_append_left shown (replicate 29 0) 0 k less ∙ ap (λ (o : Option ℕ). unwrap_or o 0) (sym (slice_get-get_or shown k 0 less))
    by_length false t =
        let more : length shown ≤ k = grind (arith, nat_tests) in
        get_or-append_right shown (replicate 29 0) (length shown) k 0 refl more ∙ get_or-replicate 29 (k - length shown) 0 0 (omega arith) ∙ ap (λ (o : Option ℕ). unwrap_or o 0) (sym (slice_get_past shown k more))

  by_place : (b : Bool) → nat_le 3 r ≡ b → get_or (replicate 3 0 ++ (shown ++ replicate 29 0)) r 0 ≡ (if b then unwrap_or (slice_get shown (r - 3)) 0 else 0)
  by_place true t = let low : 3 ≤ r = grind (arith, nat_tests) in get_or-append_right (replicate 3 0) (shown ++ replicate 29 0) 3 r 0 refl low ∙ behind (r - 3) (omega (arith, small, low))
  by_place false t = let high : r < 3 = grind (arith, nat_tests) in get_or_append_left (replicate 3 0) (shown ++ replicate 29 0) 0 r high ∙ get_or-replicate 3 r 0 0 high

-- all that a guest lets out is shown
whole_shows : (shown : List ℕ) (r old : ℕ) → r < length shown → get_or shown r 0 ≡ unwrap_or (slice_get shown r) old
whole_shows shown r old small = ap (λ (o : Option ℕ). unwrap_or o old) (sym (slice_get-get_or shown r 0 small))

-- each of the hypervisor's registers after a step of a vCPU
own_by_leaving : (cpu : CpuPart) (run : Run) (a : Answer) (shown : List ℕ) (r : ℕ) → IsFullExit a shown → length cpu.own ≡ 32 → r < 32 →
    get_or (cpu_of_guest cpu run a shown).own r 0 ≡ unwrap_or (given_by_leaving a shown r) (get_or cpu.own r 0)
own_by_leaving cpu run (Exit exit.Irq) shown r whole full small = interrupt_shows r small
own_by_leaving cpu run (Exit (exit.Hcall n)) shown r whole full small = call_shows shown r small
own_by_leaving cpu run (Exit exit.Normal) shown r whole full small = whole_shows shown r (get_or cpu.own r 0) (omega (arith, whole, small))
own_by_leaving cpu run Gone shown r whole full small = get_or-replicate 32 r 0 0 small
own_by_leaving cpu run a shown r whole full small = refl

-- after one of a call in progress: R3 has the code of a call of the hypervisor that comes back
own_by_call : (cpu : CpuPart) (caller : Option Run) (a : Answer) (shown : List ℕ) (r : ℕ) → IsFullExit a shown → length cpu.own ≡ 32 → r < 32 →
    get_or (cpu_of_call cpu caller a shown).own r 0 ≡ unwrap_or (given_by_work caller a shown r) (get_or cpu.own r 0)
own_by_call cpu None (Ret code) shown r whole full small = set_value cpu.own 3 (number_of code) r full (omega arith)
own_by_call cpu None a shown r whole full small = refl
own_by_call cpu (Some run) a shown r whole full small = own_by_leaving cpu run a shown r whole full small

-- after a step
own_left : (cpu : CpuPart) (c : Ctx) (cmd : Cmd) (a : Answer) (shown : List ℕ) (r : ℕ) → IsCommand cmd → IsFullExit a shown → length cpu.own ≡ 32 → r < 32 →
    get_or (cpu_in c cpu cmd a shown).own r 0 ≡ unwrap_or (own_given_in c cmd a shown r) (get_or cpu.own r 0)
own_left cpu ctx.Hv cmd a shown r k whole full small = own_by_command cpu.own cmd a r k full
own_left cpu (ctx.Uv work) cmd a shown r k whole full small = own_by_call cpu (caller work) a shown r whole full small
own_left cpu (ctx.Guest run) cmd a shown r k whole full small = own_by_leaving cpu run a shown r whole full small

-- the selection after a step
pub selection_left : (cpu : CpuPart) (c : Ctx) (cmd : Cmd) (a : Answer) (shown : List ℕ) →
    ((cpu_in c cpu cmd a shown).lpid ≡ selected_lpid c cmd a cpu.lpid) × ((cpu_in c cpu cmd a shown).vid ≡ selected_vid c cmd a cpu.vid)
selection_left cpu ctx.Hv (HSelect lpid vid) Done shown = (refl, refl)
selection_left cpu ctx.Hv cmd a shown = (refl, refl)
selection_left cpu (ctx.Uv work) cmd a shown = by_call (caller work) a where
  by_call : (caller : Option Run) (a : Answer) →
      ((cpu_of_call cpu caller a shown).lpid ≡ lpid_selected caller a cpu.lpid) × ((cpu_of_call cpu caller a shown).vid ≡ vid_selected caller a cpu.vid)
  by_call None (Ret code) = (refl, refl)
  by_call None a = (refl, refl)
  by_call (Some run) (Exit exit) = (refl, refl)
  by_call (Some run) Gone = (refl, refl)
  by_call (Some run) a = (refl, refl)
selection_left cpu (ctx.Guest run) cmd (Exit exit) shown = (refl, refl)
selection_left cpu (ctx.Guest run) cmd Gone shown = (refl, refl)
selection_left cpu (ctx.Guest run) cmd a shown = (refl, refl)

-- a CPU after an entry of its own
pub own_cpu : (plan : Plan) (past : List Event) (e : Event) → cpu_after plan e.trace.cpu (e ∷ past) ≡ next_cpu (cpu_after plan e.trace.cpu past) e
own_cpu plan past e = counts (touches_cpu e.trace.cpu) next_cpu (start_cpu plan) e past (same_test e.trace.cpu)

-- its context is the one that the entry tells
pub ctx_after : (plan : Plan) (past : List Event) (e : Event) → (cpu_after plan e.trace.cpu (e ∷ past)).ctx ≡ e.saw.after
ctx_after plan past e = ap (λ (x : CpuPart). x.ctx) (own_cpu plan past e)

pub each_entry_leaves_cpu : EachEntryLeavesCpu
each_entry_leaves_cpu plan past e legal =
    let cpu : CpuPart = cpu_after plan e.trace.cpu past in
    let before : cpu.ctx ≡ e.saw.before = ap (λ (x : Event). x.saw.before) (sym legal.0.is) in
    let is : cpu_after plan e.trace.cpu (e ∷ past) ≡ next_cpu cpu e = own_cpu plan past e in
    let h : Outcome e.saw.before e.trace.cmd e.trace.answer e.saw.after e.saw.shown = outcome plan past e legal.0 in
    let stays = selection_left cpu e.saw.before e.trace.cmd e.trace.answer e.saw.shown in
    record {
      after = ctx_after plan past e;
      context = λ (k : e.trace.answer ≡ Context).
          is ∙ ap (λ (a : Answer). cpu_by cpu e.saw.before e.saw.after e.trace.cmd a e.saw.shown e.bytes) k
          ∙ context_leaves cpu e.saw.before e.saw.after e.trace.cmd e.saw.shown e.bytes before (subst (λ (a : Answer). Outcome e.saw.before e.trace.cmd a e.saw.after e.saw.shown) k h);
      last = ap (λ (x : CpuPart). x.last) is ∙ last_left cpu e.saw.before e.saw.after e.trace.cmd e.trace.answer e.saw.shown h;
      own = λ r small. ap (λ (x : CpuPart). get_or x.own r 0) is ∙ own_left cpu e.saw.before e.trace.cmd e.trace.answer e.saw.shown r legal.0.command (full_exit plan past e legal.0 legal.1) (own_registers plan past e.trace.cpu legal.1) small;
      lpid = ap (λ (x : CpuPart). x.lpid) is ∙ stays.0;
      vid = ap (λ (x : CpuPart). x.vid) is ∙ stays.1;
      hand = ap (λ (x : CpuPart). x.hand) is;
      shown = shown_is plan past e legal.0;
    }
