-- Each register of a vCPU holds what was last assigned, the next instruction and SRR0 too.
use Rattle.std.proofs.Common.{◌≡◌, ℕ, ◌+◌, ◌%◌, ◌^◌, List, [], ◌∷◌, Bool, true, false, not, ◌&&◌, refl, ap, sym, ◌∙◌, ◌==◌, if◌then◌else◌, Option, Some, None}
use Rattle.std.specs.Prelude.{unwrap_or}
use Rattle.pef_model.specs.declared.state.Pending.TheVariants as pending
use Rattle.pef_model.specs.declared.state.VState.{VState}
use Rattle.pef_model.specs.declared.state.VState.TheVariants as vstate
use Rattle.pef_model.specs.declared.state.Regs.{Regs}
use Rattle.pef_model.specs.declared.state.Run.{Run}
use Rattle.pef_model.specs.declared.state.Ctx.{Ctx}
use Rattle.pef_model.specs.declared.state.Ctx.TheVariants as ctx
use Rattle.pef_model.specs.declared.command.Cmd.{Cmd}
use Rattle.pef_model.specs.declared.command.Cmd.TheVariants.{HEnter, UPate, UReturn}
use Rattle.pef_model.specs.declared.entry.Answer.{Answer}
use Rattle.pef_model.specs.declared.entry.Answer.TheVariants.{Ret, Enter}
use Rattle.pef_model.specs.Plan.{Plan}
use Rattle.pef_model.specs.Event.{Event, newest}
use Rattle.pef_model.specs.GuestPart.{ends_guest}
use Rattle.pef_model.specs.Target.{caller}
use Rattle.pef_model.specs.Registers.{fresh_registers, with_code}
use Rattle.pef_model.specs.Guest.{Guest, at_next_instruction, returned_by, answered_with, registers_after_command, registers_of_call, registers_in}
use Rattle.pef_model.specs.History.{guest_after, IsLegal}
use Rattle.pef_model.specs.StepLaw.{goes_on, goes_on_at, r2_for, registers_of}
use Rattle.pef_model.specs.SearchLaw.{next_by_work, next_in, interrupted_in, decides_nip, decides_srr0, RegIsNewest}
use Rattle.pef_model.proofs.Folds.{test_same}
use Rattle.pef_model.proofs.Assigned.{newest_after, gpr_is_newest}
use Rattle.pef_model.proofs.Moves.{steps, is_interrupted}
use Rattle.pef_model.proofs.Outcomes.{Outcome, outcome}

-- h.enter moves neither
same_entering : (state : VState) (regs : Regs) (value : ℕ) → ((answered_with state regs value).nip ≡ regs.nip) × ((answered_with state regs value).srr0 ≡ regs.srr0)
same_entering (vstate.Parked pending.Exit) regs value = (refl, refl)
same_entering (vstate.Parked waits) regs value = (refl, refl)
same_entering state regs value = (refl, refl)

-- what a step makes of both, by its case
record IsMoved (new : Regs) (next interrupted : Option ℕ) (old : Regs) : Type 0 where
  nip : new.nip ≡ unwrap_or next old.nip
  srr0 : new.srr0 ≡ unwrap_or interrupted old.srr0

-- so a step does with those of a guest's vCPU
abbrev Moves : Ctx → Guest → ℕ → ℕ → Cmd → Answer → Type 0
Moves c g selected vid cmd a = IsMoved (registers_in c g selected cmd a vid) (next_in c g selected vid cmd a) (interrupted_in c g selected vid cmd a) (g.registers vid)

moves : (c : Ctx) (g : Guest) (selected vid : ℕ) (cmd : Cmd) (a : Answer) (after : Ctx) (shown : List ℕ) → Outcome c cmd a after shown → Moves c g selected vid cmd a
moves ctx.Hv g selected vid (UPate lpid dw0 dw1) (Ret code) after shown h = record { nip = nip (ends_guest code dw1); srr0 = srr0 (ends_guest code dw1) } where
  nip : (b : Bool) → ((if b then (λ n. fresh_registers) else g.registers) vid).nip ≡ unwrap_or (if b then Some 0 else None) (g.registers vid).nip
  nip true = refl
  nip false = refl

  srr0 : (b : Bool) → ((if b then (λ n. fresh_registers) else g.registers) vid).srr0 ≡ unwrap_or (if b then Some 0 else None) (g.registers vid).srr0
  srr0 true = refl
  srr0 false = refl
moves ctx.Hv g selected vid (UReturn r0 r2 outs) Enter after shown h = record { nip = nip (vid == selected) refl; srr0 = srr0 (vid == selected) refl } where
  entered : ℕ → Regs
  entered v = returned_by (g.part.vcpus v).state (g.registers v) r0 r2 outs

  r : ℕ
  r = r2_for (g.part.vcpus vid).state r2

  address : ℕ
  address = goes_on_at (g.part.vcpus vid).state (g.registers vid).nip

  nip : (b : Bool) → (vid == selected) ≡ b → (if b then entered selected else g.registers vid).nip ≡ unwrap_or (if b then Some (if r == 0 then address else r) else None) (g.registers vid).nip
  nip true t = ap (λ (v : ℕ). (entered v).nip) (sym (test_same vid selected t)) ∙ (is_interrupted (g.part.vcpus vid).state (g.registers vid) r0 r2 outs).nip
  nip false t = refl

  srr0 : (b : Bool) → (vid == selected) ≡ b → (if b then entered selected else g.registers vid).srr0 ≡ unwrap_or (if b && not (r == 0) then Some address else None) (g.registers vid).srr0
  srr0 true t = ap (λ (v : ℕ). (entered v).srr0) (sym (test_same vid selected t)) ∙ (is_interrupted (g.part.vcpus vid).state (g.registers vid) r0 r2 outs).srr0 ∙ by_zero (r == 0) where
    by_zero : (b : Bool) → (if b then (g.registers vid).srr0 else address) ≡ unwrap_or (if not b then Some address else None) (g.registers vid).srr0
    by_zero true = refl
    by_zero false = refl
  srr0 false t = refl
moves ctx.Hv g selected vid (HEnter lpid named value) Enter after shown h = record { nip = nip (vid == named) refl; srr0 = srr0 (vid == named) refl } where
  entered : ℕ → Regs
  entered v = answered_with (g.part.vcpus v).state (g.registers v) value

  nip : (b : Bool) → (vid == named) ≡ b → (if b then entered named else g.registers vid).nip ≡ (g.registers vid).nip
  nip true t = ap (λ (v : ℕ). (entered v).nip) (sym (test_same vid named t)) ∙ (same_entering (g.part.vcpus vid).state (g.registers vid) value).0
  nip false t = refl

  srr0 : (b : Bool) → (vid == named) ≡ b → (if b then entered named else g.registers vid).srr0 ≡ (g.registers vid).srr0
  srr0 true t = ap (λ (v : ℕ). (entered v).srr0) (sym (test_same vid named t)) ∙ (same_entering (g.part.vcpus vid).state (g.registers vid) value).1
  srr0 false t = refl
moves ctx.Hv g selected vid cmd Enter after shown h = record { nip = refl; srr0 = refl }
moves ctx.Hv g selected vid cmd a after shown h = record { nip = refl; srr0 = refl }
moves (ctx.Uv work) g selected vid cmd a after shown h = by_call (caller work) a where
  by_call : (caller : Option Run) (a : Answer) → IsMoved (registers_of_call g caller a vid) (next_by_work caller vid (g.registers vid).nip a) None (g.registers vid)
  by_call (Some run) (Ret code) = record { nip = nip (vid == run.vid) refl; srr0 = srr0 (vid == run.vid) refl } where
    comes : ℕ → Regs
    comes v = at_next_instruction (g.registers v) (with_code (g.registers v).gpr code)

    nip : (b : Bool) → (vid == run.vid) ≡ b → (if b then comes run.vid else g.registers vid).nip ≡ unwrap_or (if b then Some (((g.registers vid).nip + 4) % 2 ^ 64) else None) (g.registers vid).nip
    nip true t = ap (λ (v : ℕ). (comes v).nip) (sym (test_same vid run.vid t))
    nip false t = refl

    srr0 : (b : Bool) → (vid == run.vid) ≡ b → (if b then comes run.vid else g.registers vid).srr0 ≡ (g.registers vid).srr0
    srr0 true t = ap (λ (v : ℕ). (comes v).srr0) (sym (test_same vid run.vid t))
    srr0 false t = refl
  by_call (Some run) a = record { nip = refl; srr0 = refl }
  by_call None a = record { nip = refl; srr0 = refl }
moves (ctx.Guest run) g selected vid cmd a after shown h = record { nip = nip (vid == run.vid) refl; srr0 = srr0 (vid == run.vid) refl } where
  stepped : ℕ → Regs
  stepped v = registers_after_command g (g.registers v) cmd a

  nip : (b : Bool) → (vid == run.vid) ≡ b → (if b then stepped run.vid else g.registers vid).nip ≡ unwrap_or (if b && goes_on cmd a then Some (((g.registers vid).nip + 4) % 2 ^ 64) else None) (g.registers vid).nip
  nip true t = ap (λ (v : ℕ). (stepped v).nip) (sym (test_same vid run.vid t)) ∙ (steps g (g.registers vid) run cmd a after shown h).nip ∙ by_test (goes_on cmd a) where
    by_test : (b : Bool) → (if b then ((g.registers vid).nip + 4) % 2 ^ 64 else (g.registers vid).nip) ≡ unwrap_or (if b then Some (((g.registers vid).nip + 4) % 2 ^ 64) else None) (g.registers vid).nip
    by_test true = refl
    by_test false = refl
  nip false t = refl

  srr0 : (b : Bool) → (vid == run.vid) ≡ b → (if b then stepped run.vid else g.registers vid).srr0 ≡ (g.registers vid).srr0
  srr0 true t = ap (λ (v : ℕ). (stepped v).srr0) (sym (test_same vid run.vid t)) ∙ (steps g (g.registers vid) run cmd a after shown h).srr0
  srr0 false t = refl

-- an entry does so
moves_after : (plan : Plan) (past : List Event) (e : Event) (lpid vid : ℕ) → IsLegal plan (e ∷ past) → Moves e.saw.before (guest_after plan lpid past) e.saw.vid vid e.trace.cmd e.trace.answer
moves_after plan past e lpid vid legal = moves e.saw.before (guest_after plan lpid past) e.saw.vid vid e.trace.cmd e.trace.answer e.saw.after e.saw.shown (outcome plan past e legal.0)

nip_is_newest : (plan : Plan) (past : List Event) (lpid vid : ℕ) → IsLegal plan past → (registers_of plan past lpid vid).nip ≡ newest (decides_nip plan lpid vid) 0 past
nip_is_newest plan [] lpid vid legal = refl
nip_is_newest plan (e ∷ past) lpid vid legal =
    newest_after plan past e lpid (λ g. (g.registers vid).nip) (λ g. next_in e.saw.before g e.saw.vid vid e.trace.cmd e.trace.answer) (decides_nip plan lpid vid) (moves_after plan past e lpid vid legal).nip refl
    (nip_is_newest plan past lpid vid legal.1)

srr0_is_newest : (plan : Plan) (past : List Event) (lpid vid : ℕ) → IsLegal plan past → (registers_of plan past lpid vid).srr0 ≡ newest (decides_srr0 plan lpid vid) 0 past
srr0_is_newest plan [] lpid vid legal = refl
srr0_is_newest plan (e ∷ past) lpid vid legal =
    newest_after plan past e lpid (λ g. (g.registers vid).srr0) (λ g. interrupted_in e.saw.before g e.saw.vid vid e.trace.cmd e.trace.answer) (decides_srr0 plan lpid vid) (moves_after plan past e lpid vid legal).srr0 refl
    (srr0_is_newest plan past lpid vid legal.1)

pub reg_is_newest : RegIsNewest
reg_is_newest plan past lpid vid legal = record {
  gpr = λ r small. gpr_is_newest plan past lpid vid r small legal;
  nip = nip_is_newest plan past lpid vid legal;
  srr0 = srr0_is_newest plan past lpid vid legal;
}
