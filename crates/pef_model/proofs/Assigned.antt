-- A vCPU's register holds what was last assigned.
use Rattle.std.proofs.Common.{◌≡◌, ℕ, ◌+◌, ◌%◌, ◌^◌, ◌<◌, ◌&&◌, List, [], ◌∷◌, length, Bool, true, false, refl, ap, sym, subst, ◌∙◌, ◌==◌, if◌then◌else◌, Option, Some, None, arith, get_or}
use Rattle.std.proofs.lemmas.List.{get_or-replicate}
use Rattle.std.specs.Prelude.{unwrap_or, slice_index, slice_set, bit_xor}
use Rattle.std.proofs.Math.ListN.{length-set}
use Rattle.pef_model.specs.declared.state.Pending.TheVariants as pending
use Rattle.pef_model.specs.declared.state.VState.{VState}
use Rattle.pef_model.specs.declared.state.VState.TheVariants.{Parked}
use Rattle.pef_model.specs.declared.state.Regs.{Regs}
use Rattle.pef_model.specs.declared.state.Run.{Run}
use Rattle.pef_model.specs.declared.state.Ctx.{Ctx}
use Rattle.pef_model.specs.declared.state.Ctx.TheVariants as ctx
use Rattle.pef_model.specs.declared.command.Code.TheVariants.{HSuccess}
use Rattle.pef_model.specs.declared.command.Cmd.{Cmd}
use Rattle.pef_model.specs.declared.command.Cmd.TheVariants.{HEnter, UPate, UReturn, GLi, GAdd, GXor, GLd, GSt, GHcall}
use Rattle.pef_model.specs.declared.entry.Exit.TheVariants as exit
use Rattle.pef_model.specs.declared.entry.Answer.{Answer}
use Rattle.pef_model.specs.declared.entry.Answer.TheVariants.{Done, Val, Ret, Enter, Exit}
use Rattle.pef_model.specs.Commands.{IsCommand}
use Rattle.pef_model.specs.Plan.{Plan}
use Rattle.pef_model.specs.Event.{Event, newest}
use Rattle.pef_model.specs.Registers.{Call, fresh_registers, number_of, call_of, loaded, with_code}
use Rattle.pef_model.specs.Target.{caller, touches_guest}
use Rattle.pef_model.specs.GuestPart.{ends_guest}
use Rattle.pef_model.specs.Guest.{Guest, start_guest, next_word, at_next_instruction, registers_after_call, registers_after_command, returned_to, returned_by, answered_with, registers_of_hypervisor, registers_of_call, registers_in, next_guest}
use Rattle.pef_model.specs.History.{guest_after, reg, IsLegal}
use Rattle.pef_model.specs.SearchLaw.{decides_register, assigned_by_call, assigned_by_command, assigned_by_work, assigned_entering, assigned_returning, assigned_in}
use Rattle.pef_model.proofs.Folds.{test_same, counts, skips}
use Rattle.pef_model.proofs.Called.{length_loaded, set_value, returns_value}
use Rattle.pef_model.proofs.Returned.{waits_for_call, returned_gpr, same_returned, length_entered, returned_value}

-- a command keeps that there are 32 registers
length_command : (g : Guest) (regs : Regs) (cmd : Cmd) (a : Answer) → IsCommand cmd → length regs.gpr ≡ 32 → length (registers_after_command g regs cmd a).gpr ≡ 32
length_command g regs (GLi rd value) Done k h = simp length-set h
length_command g regs (GAdd rd ra rb) Done k h = simp length-set h
length_command g regs (GXor rd ra rb) Done k h = simp length-set h
length_command g regs GHcall (Ret HSuccess) k h = simp length-set h
length_command g regs GHcall (Ret code) k h = simp length-set h
length_command g regs GHcall (Exit exit.Normal) k h = h
length_command g regs (GLd rd gpa) (Val value) k h = simp length-set h
length_command g regs (GSt rs gpa) Done k h = h
length_command g regs cmd a k h = by_call (call_of cmd) a where
  by_call : (call : Option Call) (a : Answer) → length (registers_after_call call regs cmd a).gpr ≡ 32
  by_call (Some call) (Ret code) = length-set (loaded regs.gpr cmd) 3 (number_of code) ∙ length_loaded regs.gpr cmd k h
  by_call call a = h

-- each register after a command of its vCPU
command_value : (g : Guest) (vid : ℕ) (regs : Regs) → regs ≡ g.registers vid → (cmd : Cmd) (a : Answer) (r : ℕ) → IsCommand cmd → length regs.gpr ≡ 32 → r < 32 →
    get_or (registers_after_command g regs cmd a).gpr r 0 ≡ unwrap_or (assigned_by_command g vid cmd a r) (get_or regs.gpr r 0)
command_value g vid regs own (GLi rd value) Done r k h small = set_value regs.gpr rd value r h k.0
command_value g vid regs own (GAdd rd ra rb) Done r k h small =
    set_value regs.gpr rd ((slice_index regs.gpr ra + slice_index regs.gpr rb) % 2 ^ 64) r h k.0
    ∙ ap (λ (x : Regs). unwrap_or (if r == rd then Some ((slice_index x.gpr ra + slice_index x.gpr rb) % 2 ^ 64) else None) (get_or regs.gpr r 0)) own
command_value g vid regs own (GXor rd ra rb) Done r k h small =
    set_value regs.gpr rd (bit_xor (slice_index regs.gpr ra) (slice_index regs.gpr rb)) r h k.0
    ∙ ap (λ (x : Regs). unwrap_or (if r == rd then Some (bit_xor (slice_index x.gpr ra) (slice_index x.gpr rb)) else None) (get_or regs.gpr r 0)) own
command_value g vid regs own GHcall (Ret HSuccess) r k h small =
    set_value (slice_set regs.gpr 4 (next_word g)) 3 0 r (simp length-set h) (omega arith) ∙ ap (unwrap_or (if r == 3 then Some 0 else None)) (set_value regs.gpr 4 (next_word g) r h (omega arith)) ∙ by_test (r == 3) where
      by_test : (b : Bool) → unwrap_or (if b then Some 0 else None) (unwrap_or (if r == 4 then Some (next_word g) else None) (get_or regs.gpr r 0)) ≡ unwrap_or (if b then Some 0 else (if r == 4 then Some (next_word g) else None)) (get_or regs.gpr r 0)
      by_test true = refl
      by_test false = refl
command_value g vid regs own GHcall (Ret code) r k h small = set_value regs.gpr 3 (number_of code) r h (omega arith)
command_value g vid regs own GHcall (Exit exit.Normal) r k h small = refl
command_value g vid regs own (GLd rd gpa) (Val value) r k h small = set_value regs.gpr rd value r h k.0
command_value g vid regs own (GSt rs gpa) Done r k h small = refl
command_value g vid regs own cmd a r k h small = by_call (call_of cmd) a where
  by_call : (call : Option Call) (a : Answer) → get_or (registers_after_call call regs cmd a).gpr r 0 ≡ unwrap_or (assigned_by_call call cmd a r) (get_or regs.gpr r 0)
  by_call (Some call) (Ret code) = returns_value regs.gpr cmd code r k h
  by_call call a = refl

-- each vCPU has 32 registers
abbrev pub AreFull : (ℕ → Regs) → Type 0
AreFull registers = (vid : ℕ) → length (registers vid).gpr ≡ 32

-- whether a step of the hypervisor ends the guest at which it aims, whose registers then are zero
abbrev pub ends_by : Cmd → Answer → Bool
ends_by (UPate lpid dw0 dw1) (Ret code) = ends_guest code dw1
ends_by cmd a = false

-- whether a step of the hypervisor gives a vCPU that waits for it the answer of its hypercall
abbrev pub waits_for_answer : VState → Bool
waits_for_answer (Parked pending.Exit) = true
waits_for_answer other = false

abbrev pub answers_by : Guest → ℕ → ℕ → Cmd → Answer → Bool
answers_by g selected vid (HEnter lpid named value) Enter = (vid == named) && waits_for_answer (g.part.vcpus vid).state
answers_by g selected vid (UReturn r0 r2 outs) Enter = (vid == selected) && waits_for_call (g.part.vcpus vid).state
answers_by g selected vid cmd a = false

-- in every other state its registers stay
pub same_answered : (state : VState) (regs : Regs) (value : ℕ) → waits_for_answer state ≡ false → answered_with state regs value ≡ regs
same_answered (Parked pending.Exit) regs value other = cc
same_answered (Parked waits) regs value other = refl
same_answered state regs value other = refl

-- R3 alone changes where it is given, as a search finds it
answered_value : (state : VState) (regs : Regs) (value r : ℕ) → length regs.gpr ≡ 32 → get_or (answered_with state regs value).gpr r 0 ≡ unwrap_or (assigned_entering state value r) (get_or regs.gpr r 0)
answered_value (Parked pending.Exit) regs value r h = set_value regs.gpr 3 value r h (omega arith)
answered_value (Parked waits) regs value r h = refl
answered_value state regs value r h = refl

length_answered : (state : VState) (regs : Regs) (value : ℕ) → length regs.gpr ≡ 32 → length (answered_with state regs value).gpr ≡ 32
length_answered (Parked pending.Exit) regs value h = simp length-set h
length_answered (Parked waits) regs value h = h
length_answered state regs value h = h

-- no other step of the hypervisor does
pub gpr_in_hypervisor : (g : Guest) (selected : ℕ) (a : Answer) (cmd : Cmd) (vid : ℕ) → ends_by cmd a ≡ false → answers_by g selected vid cmd a ≡ false → (registers_of_hypervisor g selected a cmd vid).gpr ≡ (g.registers vid).gpr
gpr_in_hypervisor g selected Enter (UReturn r0 r2 outs) vid goes_on none = by_test (vid == selected) refl none where
  brought : ℕ → Regs
  brought v = returned_to (g.part.vcpus v).state (g.registers v) r0 outs

  by_test : (b : Bool) → (vid == selected) ≡ b → (b && waits_for_call (g.part.vcpus vid).state) ≡ false → (if b then returned_by (g.part.vcpus selected).state (g.registers selected) r0 r2 outs else g.registers vid).gpr ≡ (g.registers vid).gpr
  by_test true t other =
      returned_gpr (g.part.vcpus selected).state (g.registers selected) r0 r2 outs ∙ ap (λ (v : ℕ). (brought v).gpr) (sym (test_same vid selected t))
      ∙ ap (λ (x : Regs). x.gpr) (same_returned (g.part.vcpus vid).state (g.registers vid) r0 outs other)
  by_test false t other = refl
gpr_in_hypervisor g selected Enter (HEnter lpid named value) vid goes_on none = by_test (vid == named) refl none where
  by_test : (b : Bool) → (vid == named) ≡ b → (b && waits_for_answer (g.part.vcpus vid).state) ≡ false → (if b then answered_with (g.part.vcpus named).state (g.registers named) value else g.registers vid).gpr ≡ (g.registers vid).gpr
  by_test true t other =
      ap (λ (v : ℕ). (answered_with (g.part.vcpus v).state (g.registers v) value).gpr) (sym (test_same vid named t))
      ∙ ap (λ (x : Regs). x.gpr) (same_answered (g.part.vcpus vid).state (g.registers vid) value other)
  by_test false t other = refl
gpr_in_hypervisor g selected Enter cmd vid goes_on none = refl
gpr_in_hypervisor g selected (Ret code) (UPate lpid dw0 dw1) vid goes_on none = ap (λ (b : Bool). ((if b then (λ n. fresh_registers) else g.registers) vid).gpr) goes_on
gpr_in_hypervisor g selected a cmd vid goes_on none = refl

-- what holds of a guest's registers, and of registers that are zero, holds after a partition entry was written
by_end : (P : Regs → Type 0) (g : Guest) (vid : ℕ) (ends : Bool) → P fresh_registers → P (g.registers vid) → P ((if ends then (λ n. fresh_registers) else g.registers) vid)
by_end P g vid true zero old = zero
by_end P g vid false zero old = old

-- a call that comes back to a vCPU keeps it
full_call : (g : Guest) (caller : Option Run) (a : Answer) → AreFull g.registers → AreFull (registers_of_call g caller a)
full_call g (Some run) (Ret code) full vid = by_test (vid == run.vid) where
  by_test : (b : Bool) → length (if b then at_next_instruction (g.registers run.vid) (with_code (g.registers run.vid).gpr code) else g.registers vid).gpr ≡ 32
  by_test true = simp length-set (full run.vid)
  by_test false = full vid
full_call g (Some run) a full vid = full vid
full_call g None a full vid = full vid

-- and R3 alone changes, as a search finds it
value_of_call : (g : Guest) (caller : Option Run) (a : Answer) (vid r : ℕ) → AreFull g.registers →
    get_or (registers_of_call g caller a vid).gpr r 0 ≡ unwrap_or (assigned_by_work caller vid a r) (get_or (g.registers vid).gpr r 0)
value_of_call g (Some run) (Ret code) vid r full = by_test (vid == run.vid) refl where
  by_test : (b : Bool) → (vid == run.vid) ≡ b →
      get_or (if b then at_next_instruction (g.registers run.vid) (with_code (g.registers run.vid).gpr code) else g.registers vid).gpr r 0
      ≡ unwrap_or (if b && (r == 3) then Some (number_of code) else None) (get_or (g.registers vid).gpr r 0)
  by_test true t =
      ap (λ (v : ℕ). get_or (with_code (g.registers v).gpr code) r 0) (sym (test_same vid run.vid t)) ∙ set_value (g.registers vid).gpr 3 (number_of code) r (full vid) (omega arith)
  by_test false t = refl
value_of_call g (Some run) a vid r full = refl
value_of_call g None a vid r full = refl

full_after : (c : Ctx) (g : Guest) (selected : ℕ) (cmd : Cmd) (a : Answer) → IsCommand cmd → AreFull g.registers → AreFull (registers_in c g selected cmd a)
full_after ctx.Hv g selected (UPate lpid dw0 dw1) (Ret code) k full vid = by_end (λ (regs : Regs). length regs.gpr ≡ 32) g vid (ends_guest code dw1) refl (full vid)
full_after ctx.Hv g selected (HEnter lpid named value) Enter k full vid = by_test (vid == named) where
  by_test : (b : Bool) → length (if b then answered_with (g.part.vcpus named).state (g.registers named) value else g.registers vid).gpr ≡ 32
  by_test true = length_answered (g.part.vcpus named).state (g.registers named) value (full named)
  by_test false = full vid
full_after ctx.Hv g selected (UReturn r0 r2 outs) Enter k full vid = by_test (vid == selected) where
  by_test : (b : Bool) → length (if b then returned_by (g.part.vcpus selected).state (g.registers selected) r0 r2 outs else g.registers vid).gpr ≡ 32
  by_test true = length_entered (g.part.vcpus selected).state (g.registers selected) r0 r2 outs k.2 (full selected)
  by_test false = full vid
full_after ctx.Hv g selected cmd a k full vid = ap length (gpr_in_hypervisor g selected a cmd vid refl refl) ∙ full vid
full_after (ctx.Uv work) g selected cmd a k full vid = full_call g (caller work) a full vid
full_after (ctx.Guest run) g selected cmd a k full vid = by_test (vid == run.vid) where
  by_test : (b : Bool) → length (if b then registers_after_command g (g.registers run.vid) cmd a else g.registers vid).gpr ≡ 32
  by_test true = length_command g (g.registers run.vid) cmd a k (full run.vid)
  by_test false = full vid

value_after_step : (c : Ctx) (g : Guest) (selected : ℕ) (cmd : Cmd) (a : Answer) (vid r : ℕ) → IsCommand cmd → AreFull g.registers → r < 32 →
    get_or (registers_in c g selected cmd a vid).gpr r 0 ≡ unwrap_or (assigned_in c g selected vid cmd a r) (get_or (g.registers vid).gpr r 0)
value_after_step ctx.Hv g selected (UPate lpid dw0 dw1) (Ret code) vid r k full small = by_test (ends_guest code dw1) where
  by_test : (b : Bool) → get_or ((if b then (λ n. fresh_registers) else g.registers) vid).gpr r 0 ≡ unwrap_or (if b then Some 0 else None) (get_or (g.registers vid).gpr r 0)
  by_test true = get_or-replicate 32 r 0 0 small
  by_test false = refl
value_after_step ctx.Hv g selected (HEnter lpid named value) Enter vid r k full small = by_test (vid == named) refl where
  by_test : (b : Bool) → (vid == named) ≡ b →
      get_or (if b then answered_with (g.part.vcpus named).state (g.registers named) value else g.registers vid).gpr r 0 ≡ unwrap_or (if b then assigned_entering (g.part.vcpus vid).state value r else None) (get_or (g.registers vid).gpr r 0)
  by_test true t =
      ap (λ (v : ℕ). get_or (answered_with (g.part.vcpus v).state (g.registers v) value).gpr r 0) (sym (test_same vid named t))
      ∙ answered_value (g.part.vcpus vid).state (g.registers vid) value r (full vid)
  by_test false t = refl
value_after_step ctx.Hv g selected (UReturn r0 r2 outs) Enter vid r k full small = by_test (vid == selected) refl where
  brought : ℕ → Regs
  brought v = returned_to (g.part.vcpus v).state (g.registers v) r0 outs

  by_test : (b : Bool) → (vid == selected) ≡ b →
      get_or (if b then returned_by (g.part.vcpus selected).state (g.registers selected) r0 r2 outs else g.registers vid).gpr r 0 ≡ unwrap_or (if b then assigned_returning (g.part.vcpus vid).state r0 outs r else None) (get_or (g.registers vid).gpr r 0)
  by_test true t =
      ap (λ (gpr : List ℕ). get_or gpr r 0) (returned_gpr (g.part.vcpus selected).state (g.registers selected) r0 r2 outs) ∙ ap (λ (v : ℕ). get_or (brought v).gpr r 0) (sym (test_same vid selected t))
      ∙ returned_value (g.part.vcpus vid).state (g.registers vid) r0 outs r k.2 (full vid)
  by_test false t = refl
value_after_step ctx.Hv g selected cmd a vid r k full small = ap (λ (gpr : List ℕ). get_or gpr r 0) (gpr_in_hypervisor g selected a cmd vid refl refl)
value_after_step (ctx.Uv work) g selected cmd a vid r k full small = value_of_call g (caller work) a vid r full
value_after_step (ctx.Guest run) g selected cmd a vid r k full small = by_test (vid == run.vid) refl where
  by_test : (b : Bool) → (vid == run.vid) ≡ b →
      get_or (if b then registers_after_command g (g.registers run.vid) cmd a else g.registers vid).gpr r 0
      ≡ unwrap_or (if b then assigned_by_command g vid cmd a r else None) (get_or (g.registers vid).gpr r 0)
  by_test true t =
      command_value g vid (g.registers run.vid) (sym (ap g.registers (test_same vid run.vid t))) cmd a r k (full run.vid) small
      ∙ ap (λ (v : ℕ). unwrap_or (assigned_by_command g vid cmd a r) (get_or (g.registers v).gpr r 0)) (sym (test_same vid run.vid t))
  by_test false t = refl

-- so each vCPU has
pub full_registers : (plan : Plan) (past : List Event) (lpid : ℕ) → IsLegal plan past → AreFull (guest_after plan lpid past).registers
full_registers plan [] lpid legal = λ vid. refl
full_registers plan (e ∷ past) lpid legal = by_test (full_registers plan past lpid legal.1) (touches_guest plan lpid e) refl where
  by_test : AreFull (guest_after plan lpid past).registers → (b : Bool) → touches_guest plan lpid e ≡ b → AreFull (guest_after plan lpid (e ∷ past)).registers
  by_test ih true t =
      subst (λ (g : Guest). AreFull g.registers) (sym (counts (touches_guest plan lpid) (next_guest plan) (start_guest plan lpid) e past t))
      (full_after e.saw.before (guest_after plan lpid past) e.saw.vid e.trace.cmd e.trace.answer legal.0.command ih)
  by_test ih false t = subst (λ (g : Guest). AreFull g.registers) (sym (skips (touches_guest plan lpid) (next_guest plan) (start_guest plan lpid) e past t)) ih

-- what an entry gives a value of a guest is what a search of it finds first
pub newest_after : (plan : Plan) (past : List Event) (e : Event) (lpid : ℕ) (value : Guest → ℕ) (given : Guest → Option ℕ) (decides : List Event → Event → Option ℕ) →
    value (next_guest plan (guest_after plan lpid past) e) ≡ unwrap_or (given (guest_after plan lpid past)) (value (guest_after plan lpid past)) →
    decides past e ≡ (if touches_guest plan lpid e then given (guest_after plan lpid past) else None) →
    value (guest_after plan lpid past) ≡ newest decides 0 past → value (guest_after plan lpid (e ∷ past)) ≡ newest decides 0 (e ∷ past)
newest_after plan past e lpid value given decides after is ih = by_test (touches_guest plan lpid e) refl ∙ ap (λ (o : Option ℕ). unwrap_or o (newest decides 0 past)) (sym is) where
  g : Guest
  g = guest_after plan lpid past

  by_test : (b : Bool) → touches_guest plan lpid e ≡ b → value (guest_after plan lpid (e ∷ past)) ≡ unwrap_or (if touches_guest plan lpid e then given g else None) (newest decides 0 past)
  by_test true t =
      ap value (counts (touches_guest plan lpid) (next_guest plan) (start_guest plan lpid) e past t) ∙ after ∙ ap (unwrap_or (given g)) ih
      ∙ ap (λ (b : Bool). unwrap_or (if b then given g else None) (newest decides 0 past)) (sym t)
  by_test false t =
      ap value (skips (touches_guest plan lpid) (next_guest plan) (start_guest plan lpid) e past t) ∙ ih
      ∙ ap (λ (b : Bool). unwrap_or (if b then given g else None) (newest decides 0 past)) (sym t)

pub gpr_is_newest : (plan : Plan) (past : List Event) (lpid vid r : ℕ) → r < 32 → IsLegal plan past → reg plan past lpid vid r ≡ newest (decides_register plan lpid vid r) 0 past
gpr_is_newest plan [] lpid vid r small legal = get_or-replicate 32 r 0 0 small
gpr_is_newest plan (e ∷ past) lpid vid r small legal =
    newest_after plan past e lpid (λ g. get_or (g.registers vid).gpr r 0) (λ g. assigned_in e.saw.before g e.saw.vid vid e.trace.cmd e.trace.answer r) (decides_register plan lpid vid r)
    (value_after_step e.saw.before (guest_after plan lpid past) e.saw.vid e.trace.cmd e.trace.answer vid r legal.0.command (full_registers plan past lpid legal.1) small) refl
    (gpr_is_newest plan past lpid vid r small legal.1)
