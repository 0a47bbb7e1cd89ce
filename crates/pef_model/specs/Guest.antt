-- A guest whole: its public part, the doublewords of its pages and the registers of its vCPUs.
use Rattle.std.specs.Prelude.{ℕ, ◌+◌, ◌%◌, ◌^◌, ◌==◌, Bool, true, false, not, ◌&&◌, if◌then◌else◌, List, drop, Option, Some, None, unwrap_or, slice_index, slice_set, bit_xor}
use Rattle.pef_model.specs.declared.state.Run.{Run}
use Rattle.pef_model.specs.declared.state.Work.{Work}
use Rattle.pef_model.specs.declared.state.Ctx.{Ctx}
use Rattle.pef_model.specs.declared.state.Ctx.TheVariants as ctx
use Rattle.pef_model.specs.declared.state.Pending.TheVariants as pending
use Rattle.pef_model.specs.declared.state.VState.{VState}
use Rattle.pef_model.specs.declared.state.VState.TheVariants as vstate
use Rattle.pef_model.specs.declared.state.Regs.{Regs}
use Rattle.pef_model.specs.declared.command.Code.TheVariants.{HSuccess}
use Rattle.pef_model.specs.declared.command.Cmd.{Cmd}
use Rattle.pef_model.specs.declared.command.Cmd.TheVariants.{HEnter, UPate, UReturn, GLi, GAdd, GXor, GLd, GSt, GHcall}
use Rattle.pef_model.specs.declared.hypercall.TheConstants.{HCALLS}
use Rattle.pef_model.specs.declared.hypercall.Row.{Row}
use Rattle.pef_model.specs.declared.entry.Exit.TheVariants as exit
use Rattle.pef_model.specs.declared.entry.Answer.{Answer}
use Rattle.pef_model.specs.declared.entry.Answer.TheVariants as answer
use Rattle.pef_model.specs.Plan.{Plan}
use Rattle.pef_model.specs.Event.{Event}
use Rattle.pef_model.specs.Target.{caller}
use Rattle.pef_model.specs.Registers.{Call, fresh_registers, call_of, loaded, with_code, with_outputs}
use Rattle.pef_model.specs.Hypercalls.{row_of}
use Rattle.pef_model.specs.GuestPart.{GuestPart, start_part, put, call_of_state, ends_guest, has_word, next_part}
use Rattle.pef_model.specs.Clash.{clashes}

-- a guest whole: its public part, the doubleword at each address, the registers of each vCPU, the entropy words that are left, and whether none of its entries was a digest collision
pub record Guest : Type 0 where
  pub part : GuestPart
  pub content : ℕ → ℕ
  pub registers : ℕ → Regs
  pub words : List ℕ
  pub clean : Bool

-- at the start all is zero, and each entropy word is left
abbrev pub start_guest : Plan → ℕ → Guest
start_guest plan lpid = record { part = start_part plan lpid; content = λ gpa. 0; registers = λ vid. fresh_registers; words = plan.entropy lpid; clean = true }

-- the value that a step gives the doubleword at an address, if it decides it, by the normal frame that it tells: a store that is done in none its register
abbrev pub stored_in : Ctx → Plan → Guest → Cmd → Answer → Option ℕ → List ℕ → ℕ → Option ℕ
stored_in (ctx.Guest run) plan g (GSt rs at) answer.Done None bytes gpa = if at == gpa then Some (slice_index (g.registers run.vid).gpr rs) else None
stored_in before plan g cmd a frame bytes gpa = None

-- the value that an entry gives the doubleword at an address
abbrev pub stored_by : Plan → Guest → Event → ℕ → Option ℕ
stored_by plan g e gpa = stored_in e.saw.before plan g e.trace.cmd e.trace.answer e.saw.frame e.bytes gpa

-- the next instruction is the one after
abbrev pub at_next_instruction : Regs → List ℕ → Regs
at_next_instruction regs gpr = record regs { gpr = gpr; nip = (regs.nip + 4) % 2 ^ 64 }

-- after a call that came back: it is loaded, and its code is in R3
abbrev pub registers_after_call : Option Call → Regs → Cmd → Answer → Regs
registers_after_call (Some call) regs cmd (answer.Ret code) = at_next_instruction regs (with_code (loaded regs.gpr cmd) code)
registers_after_call call regs cmd a = regs

-- the entropy word that a guest's vCPU is given next
abbrev pub next_word : Guest → ℕ
next_word g = slice_index g.words 0

-- whether a step gives its vCPU an entropy word
abbrev pub is_drawing : Ctx → Answer → Cmd → Bool
is_drawing (ctx.Guest run) (answer.Ret code) GHcall = has_word code
is_drawing before a cmd = false

-- the registers of a guest's vCPU after a command of its own, by its answer: one that met a hole, a page on the move or an interrupt, that waits for the answer of a hypercall of a secure guest, or whose guest has ended, keeps them
abbrev pub registers_after_command : Guest → Regs → Cmd → Answer → Regs
registers_after_command g regs (GLi rd value) answer.Done = at_next_instruction regs (slice_set regs.gpr rd value)
registers_after_command g regs (GAdd rd ra rb) answer.Done = at_next_instruction regs (slice_set regs.gpr rd ((slice_index regs.gpr ra + slice_index regs.gpr rb) % 2 ^ 64))
registers_after_command g regs (GXor rd ra rb) answer.Done = at_next_instruction regs (slice_set regs.gpr rd (bit_xor (slice_index regs.gpr ra) (slice_index regs.gpr rb)))
registers_after_command g regs (GLd rd gpa) (answer.Val value) = at_next_instruction regs (slice_set regs.gpr rd value)
registers_after_command g regs (GSt rs gpa) answer.Done = at_next_instruction regs regs.gpr
registers_after_command g regs GHcall (answer.Ret HSuccess) = at_next_instruction regs (with_code (slice_set regs.gpr 4 (next_word g)) HSuccess)
registers_after_command g regs GHcall (answer.Ret code) = at_next_instruction regs (with_code regs.gpr code)
registers_after_command g regs GHcall (answer.Exit exit.Normal) = at_next_instruction regs regs.gpr
registers_after_command g regs cmd a = registers_after_call (call_of cmd) regs cmd a

-- UV_RETURN goes on at the address in R2, where it isn't 0, and keeps where the vCPU was in SRR0
abbrev pub entered_at : Regs → ℕ → Regs
entered_at regs r2 = if r2 == 0 then regs else record regs { nip = r2; srr0 = regs.nip }

-- R2 as UV_RETURN uses it, by the call in which the vCPU waits: where it goes back into one, R2 has no effect
abbrev pub address_for : Option (Run → Work) → ℕ → ℕ
address_for None r2 = r2
address_for (Some call) r2 = 0

-- the outputs of a hypercall of this row are the first of outs
abbrev pub with_outputs_of : Option Row → List ℕ → List ℕ → List ℕ
with_outputs_of (Some row) gpr outs = with_outputs gpr row.outputs outs
with_outputs_of None gpr outs = gpr

-- a hypercall of this row is answered: R3 has r0, the outputs are there, and the next instruction is the one after the call
abbrev pub answered_by : Option Row → Regs → ℕ → List ℕ → Regs
answered_by row regs r0 outs = at_next_instruction regs (slice_set (with_outputs_of row regs.gpr outs) 3 r0)

-- what UV_RETURN brings a vCPU in this state: to a hypercall its answer, and nothing where the vCPU waits for anything else or hasn't run
abbrev pub returned_to : VState → Regs → ℕ → List ℕ → Regs
returned_to (vstate.Parked (pending.Hcall n)) regs r0 outs = answered_by (row_of HCALLS n) regs r0 outs
returned_to state regs r0 outs = regs

-- the registers of a vCPU in this state that UV_RETURN takes up: with what it is brought, and where the context becomes Guest with R2's effect
abbrev pub returned_by : VState → Regs → ℕ → ℕ → List ℕ → Regs
returned_by state regs r0 r2 outs = entered_at (returned_to state regs r0 outs) (address_for (call_of_state state) r2)

-- h.enter gives R3 its value where the vCPU waits for the answer of a hypercall
abbrev pub answered_with : VState → Regs → ℕ → Regs
answered_with (vstate.Parked pending.Exit) regs value = record regs { gpr = slice_set regs.gpr 3 value }
answered_with other regs value = regs

-- the registers of a guest's vCPUs after a step of the hypervisor that has this vCPU selected
abbrev pub registers_of_hypervisor : Guest → ℕ → Answer → Cmd → ℕ → Regs
registers_of_hypervisor g vid answer.Enter (UReturn r0 r2 outs) = put g.registers vid (returned_by (g.part.vcpus vid).state (g.registers vid) r0 r2 outs)
registers_of_hypervisor g vid answer.Enter (HEnter lpid named value) = put g.registers named (answered_with (g.part.vcpus named).state (g.registers named) value)
registers_of_hypervisor g vid (answer.Ret code) (UPate lpid dw0 dw1) = if ends_guest code dw1 then (λ n. fresh_registers) else g.registers
registers_of_hypervisor g vid a cmd = g.registers

-- after a step of a call in progress, by the vCPU whose call it is: one that comes back has its code in R3
abbrev pub registers_of_call : Guest → Option Run → Answer → ℕ → Regs
registers_of_call g (Some run) (answer.Ret code) = put g.registers run.vid (at_next_instruction (g.registers run.vid) (with_code (g.registers run.vid).gpr code))
registers_of_call g caller a = g.registers

-- by the context before the step
abbrev pub registers_in : Ctx → Guest → ℕ → Cmd → Answer → ℕ → Regs
registers_in ctx.Hv g vid cmd a = registers_of_hypervisor g vid a cmd
registers_in (ctx.Uv work) g vid cmd a = registers_of_call g (caller work) a
registers_in (ctx.Guest run) g vid cmd a = put g.registers run.vid (registers_after_command g (g.registers run.vid) cmd a)

-- the registers of a guest's vCPUs after an entry
abbrev pub next_registers : Plan → Guest → Event → ℕ → Regs
next_registers plan g e = registers_in e.saw.before g e.saw.vid e.trace.cmd e.trace.answer

-- a guest after an entry that touches it
abbrev pub next_guest : Plan → Guest → Event → Guest
next_guest plan g e = record g {
  part = next_part plan g.part e;
  content = λ gpa. unwrap_or (stored_by plan g e gpa) (g.content gpa);
  registers = next_registers plan g e;
  words = if is_drawing e.saw.before e.trace.answer e.trace.cmd then drop 1 g.words else g.words;
  clean = g.clean && not (clashes g.part e);
}
