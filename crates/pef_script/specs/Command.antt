-- Which line is a command line, and why another is none.
use Rattle.std.specs.Prelude.{ℕ, ◌+◌, ◌-◌, nat_le, nat_lt, ◌&&◌, if◌then◌else◌, List, [], ◌∷◌, length, drop, slice_set, Option, Some, None, option_map, option_and_then, Result, Ok}
use Rattle.pef_model.specs.Words.{number_in, register_in}
use Rattle.pef_script.specs.declared.token.Pair.{Pair}
use Rattle.pef_script.specs.declared.fault.Cause.{Cause}
use Rattle.pef_script.specs.declared.fault.Cause.TheVariants as cause
use Rattle.pef_script.specs.declared.table.Kind.{Kind}
use Rattle.pef_script.specs.declared.table.Kind.TheVariants.{Number, Register, Pair as PairKind}
use Rattle.pef_script.specs.declared.table.Operands.{Operands}
use Rattle.pef_script.specs.Cause.{◌>>=◌, or_fault, first}
use Rattle.pef_script.specs.Line.{ReadLine}
use Rattle.pef_script.specs.Table.{Shape, shape, word_named, no_operands}
use Rattle.pef_script.specs.Token.{pair_in}

-- operands with one more, of a kind, at a place
abbrev pub with_operand : Kind → ℕ → List ℕ → Operands → Option Operands
with_operand Number place token o = option_map (λ n. record o { numbers = slice_set o.numbers place n }) (number_in token)
with_operand Register place token o = option_map (λ r. record o { registers = slice_set o.registers place r }) (register_in token)
with_operand PairKind place token o = option_map (λ (p : Pair). record o { numbers = slice_set o.numbers place p.left; right = p.right }) (pair_in token)

-- the kind of the next operand: past those that are named each is a number
abbrev pub kind_of : List Kind → Kind
kind_of [] = Number
kind_of (kind ∷ kinds) = kind

-- the operands of tokens, the first of which stands at a place
abbrev pub operands_in : ℕ → List Kind → Operands → List (List ℕ) → Option Operands
operands_in place kinds o [] = Some o
operands_in place kinds o (token ∷ more) = option_and_then (λ o. operands_in (place + 1) (drop 1 kinds) o more) (with_operand (kind_of kinds) place token o)

-- the command whose name is the first token
abbrev pub shape_of : List (List ℕ) → Option Shape
shape_of tokens = option_and_then (λ name. option_map shape (word_named name)) (first tokens)

-- a count of operands that a command may have
abbrev pub counted : Shape → ℕ → Option ℕ
counted s count = if nat_le (length s.kinds) count && nat_le (count - length s.kinds) s.more then Some count else None

-- a number below a limit
abbrev pub below : ℕ → ℕ → Option ℕ
below limit n = if nat_lt n limit then Some n else None

-- the line of a number and tokens, on a machine with so many CPUs: the causes in the order in which they are tried
unfoldable pub line_in : ℕ → ℕ → List (List ℕ) → Result ReadLine Cause
line_in cpus number tokens = do
  cpu ← or_fault cause.Number (option_and_then number_in (first tokens))
  s ← or_fault cause.Word (shape_of (drop 1 tokens))
  count ← or_fault cause.Count (counted s (length (drop 2 tokens)))
  o ← or_fault cause.Number (operands_in 0 s.kinds no_operands (drop 2 tokens))
  own ← or_fault cause.Range (below cpus cpu)
  Ok (record { line = record { number = number; cpu = own; directive = s.make o }; right = o.right })
