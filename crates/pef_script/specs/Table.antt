-- The commands of a script: each one's name, what its operands are, and what it makes of them.
use Rattle.std.specs.Prelude.{ℕ, List, [], ◌∷◌, map, replicate, slice_index, codes, Option}
use Rattle.std.specs.List.{find}
use Rattle.std.specs.Str.{bytes_eq}
use Rattle.pef_model.specs.declared.command.Cmd.TheVariants.{HLd, HSt, HSelect, HEnter, UPate, URegslot, UUnregslot, UPagein, UPageout, UInval, UReturn, GLi, GAdd, GXor, GLd, GSt, GHcall, GIrq, Go, Dump}
use Rattle.pef_model.specs.declared.command.Directive.{Directive}
use Rattle.pef_model.specs.declared.command.Directive.TheVariants.{Once, GoAll}
use Rattle.pef_script.specs.declared.table.Kind.{Kind}
use Rattle.pef_script.specs.declared.table.Kind.TheVariants.{Number, Register, Pair}
use Rattle.pef_script.specs.declared.table.Word.{Word}
use Rattle.pef_script.specs.declared.table.Word.TheVariants as w
use Rattle.pef_script.specs.declared.table.Operands.{Operands}
use Rattle.pef_script.specs.declared.table.Row.{Row}

-- a command: its name, the kinds of its operands, how many numbers may follow these, and what it makes of its operands
pub record Shape : Type 0 where
  pub name : List ℕ
  pub kinds : List Kind
  pub more : ℕ
  pub make : Operands → Directive

-- a command that has exactly these operands
abbrev pub row : List ℕ → List Kind → (Operands → Directive) → Shape
row name kinds make = record { name = name; kinds = kinds; more = 0; make = make }

-- no operand was written: 0 stands for each
abbrev pub no_operands : Operands
no_operands = record { registers = replicate 3 0; numbers = replicate 11 0; right = 0 }

-- the number at a place
abbrev pub at : Operands → ℕ → ℕ
at o place = slice_index o.numbers place

-- the register at a place
abbrev pub reg : Operands → ℕ → ℕ
reg o place = slice_index o.registers place

-- R4 to R12 of UV_RETURN, which follow R0 and R2
abbrev pub outputs : Operands → List ℕ
outputs o = map (at o) (2 ∷ 3 ∷ 4 ∷ 5 ∷ 6 ∷ 7 ∷ 8 ∷ 9 ∷ 10 ∷ [])

-- the commands
abbrev pub shape : Word → Shape
shape w.HLd = row (codes "h.ld") (Number ∷ []) (λ o. Once (HLd (at o 0)))
shape w.HSt = row (codes "h.st") (Number ∷ Number ∷ []) (λ o. Once (HSt (at o 0) (at o 1)))
shape w.HSelect = row (codes "h.select") (Number ∷ Number ∷ []) (λ o. Once (HSelect (at o 0) (at o 1)))
shape w.HEnter = row (codes "h.enter") (Number ∷ Number ∷ Number ∷ []) (λ o. Once (HEnter (at o 0) (at o 1) (at o 2)))
shape w.UPate = row (codes "u.pate") (Number ∷ Number ∷ Number ∷ []) (λ o. Once (UPate (at o 0) (at o 1) (at o 2)))
shape w.URegslot = row (codes "u.regslot") (Number ∷ Number ∷ Number ∷ Number ∷ Number ∷ []) (λ o. Once (URegslot (at o 0) (at o 1) (at o 2) (at o 3) (at o 4)))
shape w.UUnregslot = row (codes "u.unregslot") (Number ∷ Number ∷ []) (λ o. Once (UUnregslot (at o 0) (at o 1)))
shape w.UPagein = row (codes "u.pagein") (Number ∷ Number ∷ Number ∷ Number ∷ Number ∷ []) (λ o. Once (UPagein (at o 0) (at o 1) (at o 2) (at o 3) (at o 4)))
shape w.UPageout = row (codes "u.pageout") (Number ∷ Number ∷ Number ∷ Number ∷ Number ∷ []) (λ o. Once (UPageout (at o 0) (at o 1) (at o 2) (at o 3) (at o 4)))
shape w.UInval = row (codes "u.inval") (Number ∷ Number ∷ Number ∷ []) (λ o. Once (UInval (at o 0) (at o 1) (at o 2)))
shape w.UReturn = record (row (codes "u.return") (Number ∷ Number ∷ []) (λ o. Once (UReturn (at o 0) (at o 1) (outputs o)))) { more = 9 }
shape w.GLi = row (codes "g.li") (Register ∷ Pair ∷ []) (λ o. Once (GLi (reg o 0) (at o 1)))
shape w.GAdd = row (codes "g.add") (Register ∷ Register ∷ Register ∷ []) (λ o. Once (GAdd (reg o 0) (reg o 1) (reg o 2)))
shape w.GXor = row (codes "g.xor") (Register ∷ Register ∷ Register ∷ []) (λ o. Once (GXor (reg o 0) (reg o 1) (reg o 2)))
shape w.GLd = row (codes "g.ld") (Register ∷ Number ∷ []) (λ o. Once (GLd (reg o 0) (at o 1)))
shape w.GSt = row (codes "g.st") (Register ∷ Number ∷ []) (λ o. Once (GSt (reg o 0) (at o 1)))
shape w.GHcall = row (codes "g.hcall") [] (λ o. Once GHcall)
shape w.GIrq = row (codes "g.irq") [] (λ o. Once GIrq)
shape w.Go = row (codes "go") [] (λ o. Once Go)
shape w.GoAll = row (codes "go*") [] (λ o. GoAll)
shape w.Dump = row (codes "dump") (Register ∷ []) (λ o. Once (Dump (reg o 0)))

-- the commands that there are
abbrev pub words : List Word
words = w.HLd ∷ w.HSt ∷ w.HSelect ∷ w.HEnter ∷ w.UPate ∷ w.URegslot ∷ w.UUnregslot ∷ w.UPagein ∷ w.UPageout ∷ w.UInval ∷ w.UReturn ∷ w.GLi ∷ w.GAdd ∷ w.GXor ∷ w.GLd ∷ w.GSt ∷ w.GHcall ∷ w.GIrq ∷ w.Go ∷ w.GoAll ∷ w.Dump ∷ []

-- the command of a name
unfoldable pub word_named : List ℕ → Option Word
word_named name = find (λ w. bytes_eq (shape w).name name) words

-- the command of a row of the code's table
abbrev pub shape_in : Row → Shape
shape_in row = record { name = row.name.now; kinds = row.kinds.now; more = row.more; make = (shape row.word).make }
