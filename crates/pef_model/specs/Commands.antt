-- Which commands a history can have.
use Rattle.std.specs.Prelude.{◌≡◌, ℕ, ◌^◌, ◌<◌, length}
use Rattle.std.specs.List.{AllByRecursion}
use Rattle.pef_model.specs.declared.command.Cmd.{Cmd}
use Rattle.pef_model.specs.declared.command.Cmd.TheVariants.{HLd, HSt, HSelect, HEnter, UPate, URegslot, UUnregslot, UPagein, UPageout, UInval, UReturn, GLi, GAdd, GXor, GLd, GSt, Dump}

-- each number of a command has 64 bits, its register is one of R0 to R31, and UV_RETURN has nine outputs
abbrev pub IsCommand : Cmd → Type 0
IsCommand (HLd ra) = ra < 2 ^ 64
IsCommand (HSt ra value) = (ra < 2 ^ 64) × (value < 2 ^ 64)
IsCommand (HSelect lpid vid) = (lpid < 2 ^ 64) × (vid < 2 ^ 64)
IsCommand (HEnter lpid vid value) = (lpid < 2 ^ 64) × (vid < 2 ^ 64) × (value < 2 ^ 64)
IsCommand (UPate lpid dw0 dw1) = (lpid < 2 ^ 64) × (dw0 < 2 ^ 64) × (dw1 < 2 ^ 64)
IsCommand (URegslot lpid start size flags id) = (lpid < 2 ^ 64) × (start < 2 ^ 64) × (size < 2 ^ 64) × (flags < 2 ^ 64) × (id < 2 ^ 64)
IsCommand (UUnregslot lpid id) = (lpid < 2 ^ 64) × (id < 2 ^ 64)
IsCommand (UPagein lpid src gpa flags order) = (lpid < 2 ^ 64) × (src < 2 ^ 64) × (gpa < 2 ^ 64) × (flags < 2 ^ 64) × (order < 2 ^ 64)
IsCommand (UPageout lpid dest gpa flags order) = (lpid < 2 ^ 64) × (dest < 2 ^ 64) × (gpa < 2 ^ 64) × (flags < 2 ^ 64) × (order < 2 ^ 64)
IsCommand (UInval lpid gpa order) = (lpid < 2 ^ 64) × (gpa < 2 ^ 64) × (order < 2 ^ 64)
IsCommand (UReturn r0 r2 outs) = (r0 < 2 ^ 64) × (r2 < 2 ^ 64) × (length outs ≡ 9) × AllByRecursion (λ (n : ℕ). n < 2 ^ 64) outs
IsCommand (GLi rd value) = (rd < 32) × (value < 2 ^ 64)
IsCommand (GAdd rd ra rb) = (rd < 32) × (ra < 32) × (rb < 32)
IsCommand (GXor rd ra rb) = (rd < 32) × (ra < 32) × (rb < 32)
IsCommand (GLd rd gpa) = (rd < 32) × (gpa < 2 ^ 64)
IsCommand (GSt rs gpa) = (rs < 32) × (gpa < 2 ^ 64)
IsCommand (Dump reg) = reg < 32
IsCommand cmd = Unit {0}
