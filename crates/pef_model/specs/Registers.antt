-- Registers as lists of 32, and what a call loads into them.
use Rattle.std.specs.Prelude.{ℕ, ◌+◌, ◌-◌, ◌==◌, nat_le, if◌then◌else◌, List, [], ◌∷◌, ◌++◌, length, take, drop, slice_get, slice_set, replicate, Option, Some, None}
use Rattle.pef_model.specs.declared.command.TheConstants.{UV_WRITE_PATE, UV_REGISTER_MEM_SLOT, UV_UNREGISTER_MEM_SLOT, UV_PAGE_IN, UV_PAGE_OUT, UV_PAGE_INVAL, UV_RETURN, EXTERNAL_INTERRUPT}
use Rattle.pef_model.specs.declared.command.Code.{Code}
use Rattle.pef_model.specs.declared.command.Code.TheVariants.{USuccess, UParameter, UP2, UP3, UP4, UP5, UFunction, UBusy, UPermission, UInvalid, HSuccess, HUnsupported, HFunction, HHardware}
use Rattle.pef_model.specs.declared.command.Cmd.{Cmd}
use Rattle.pef_model.specs.declared.command.Cmd.TheVariants.{UPate, URegslot, UUnregslot, UPagein, UPageout, UInval, UReturn}
use Rattle.pef_model.specs.declared.state.Regs.{Regs}

-- the number of a code
abbrev pub number_of : Code → ℕ
number_of USuccess = 0
number_of UParameter = 1
number_of UP2 = 2
number_of UP3 = 3
number_of UP4 = 4
number_of UP5 = 5
number_of UFunction = 6
number_of UBusy = 7
number_of UPermission = 8
number_of UInvalid = 9
number_of HSuccess = 0
number_of HUnsupported = 37
number_of HFunction = 38
number_of HHardware = 39

-- registers that are all zero
abbrev pub zero_registers : List ℕ
zero_registers = replicate 32 0

-- what the registers show where an interrupt takes a guest from the CPU: the interrupt in R3, and nothing else
abbrev pub interrupt_registers : List ℕ
interrupt_registers = slice_set zero_registers 3 EXTERNAL_INTERRUPT

-- what the registers show where a hypercall lets out these values: they are in R3 and the registers after it, and every other is 0
abbrev pub call_registers : List ℕ → List ℕ
call_registers shown = take 32 (replicate 3 0 ++ (shown ++ replicate 29 0))

-- the registers of a vCPU that hasn't run
abbrev pub fresh_registers : Regs
fresh_registers = record { gpr = zero_registers; nip = 0; srr0 = 0 }

-- an ultracall: its number, which its caller puts into R3, and its operands, which it puts into R4 and the registers after it
pub record Call : Type 0 where
  pub number : ℕ
  pub operands : List ℕ

-- the ultracall that a command is
abbrev pub call_of : Cmd → Option Call
call_of (UPate lpid dw0 dw1) = Some (record { number = UV_WRITE_PATE; operands = lpid ∷ dw0 ∷ dw1 ∷ [] })
call_of (URegslot lpid start size flags id) = Some (record { number = UV_REGISTER_MEM_SLOT; operands = lpid ∷ start ∷ size ∷ flags ∷ id ∷ [] })
call_of (UUnregslot lpid id) = Some (record { number = UV_UNREGISTER_MEM_SLOT; operands = lpid ∷ id ∷ [] })
call_of (UPagein lpid src gpa flags order) = Some (record { number = UV_PAGE_IN; operands = lpid ∷ src ∷ gpa ∷ flags ∷ order ∷ [] })
call_of (UPageout lpid dest gpa flags order) = Some (record { number = UV_PAGE_OUT; operands = lpid ∷ dest ∷ gpa ∷ flags ∷ order ∷ [] })
call_of (UInval lpid gpa order) = Some (record { number = UV_PAGE_INVAL; operands = lpid ∷ gpa ∷ order ∷ [] })
call_of (UReturn r0 r2 outs) = Some (record { number = UV_RETURN; operands = outs })
call_of cmd = None

-- a call's number is in R3, and its operands are in R4 and the registers after it
abbrev pub with_call : List ℕ → Option Call → List ℕ
with_call gpr None = gpr
with_call gpr (Some call) = with_operands (slice_set gpr 3 call.number) where
  with_operands : List ℕ → List ℕ
  with_operands numbered = take 4 numbered ++ (call.operands ++ drop (4 + length call.operands) numbered)

-- UV_RETURN alone has two values more: they are in R0 and R2
abbrev pub with_return : List ℕ → Cmd → List ℕ
with_return gpr (UReturn r0 r2 outs) = slice_set (slice_set gpr 0 r0) 2 r2
with_return gpr cmd = gpr

-- the registers of a caller that has loaded its call
abbrev pub loaded : List ℕ → Cmd → List ℕ
loaded gpr cmd = with_call (with_return gpr cmd) (call_of cmd)

-- the values that a guest lets out by a call: the operands, and those of UV_RETURN
abbrev pub arguments : Cmd → List ℕ
arguments (UReturn r0 r2 outs) = r0 ∷ r2 ∷ outs
arguments cmd = operands_of (call_of cmd) where
  operands_of : Option Call → List ℕ
  operands_of None = []
  operands_of (Some call) = call.operands

-- a code comes back in R3
abbrev pub with_code : List ℕ → Code → List ℕ
with_code gpr code = slice_set gpr 3 (number_of code)

-- so many of a list's values: they are in R4 and the registers after it
abbrev pub with_outputs : List ℕ → ℕ → List ℕ → List ℕ
with_outputs gpr count outs = take 4 gpr ++ (take count outs ++ drop (4 + count) gpr)

-- the value that a call gives a register: R3 has its number, R4 and the registers after it its operands
abbrev pub value_of_call : Option Call → ℕ → Option ℕ
value_of_call None r = None
value_of_call (Some call) r = if r == 3 then Some call.number else if nat_le 4 r then slice_get call.operands (r - 4) else None

-- the value that a command gives a register that its caller loads: UV_RETURN alone gives R0 and R2 too
abbrev pub value_loaded : Cmd → ℕ → Option ℕ
value_loaded (UReturn r0 r2 outs) r =
    if r == 0 then Some r0
    else if r == 2 then Some r2
    else value_of_call (call_of (UReturn r0 r2 outs)) r
value_loaded cmd r = value_of_call (call_of cmd) r

-- the value that a command which comes back with a code gives a register: R3 has the code
abbrev pub value_returned : Cmd → Code → ℕ → Option ℕ
value_returned cmd code r = if r == 3 then Some (number_of code) else value_loaded cmd r
