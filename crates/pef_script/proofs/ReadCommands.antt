-- Command lines that are read can be written.
use Rattle.std.proofs.Common.{◌≡◌, ◌<◌, ℕ, ◌+◌, ◌^◌, Bool, true, false, List, [], ◌∷◌, ◌++◌, drop, replicate, slice_set, option_map, Some, refl, rules, ap, ◌∙◌, sym, subst, zero, suc, arith}
use Rattle.std.specs.Prelude.{slice_index}
use Rattle.std.specs.List.{list_all, AllByRecursion}
use Rattle.std.proofs.lemmas.Bool.{and_parts}
use Rattle.std.proofs.lemmas.Option.{option_and_then_some, same_Some}
use Rattle.pef_model.specs.Words.{number_in, register_in}
use Rattle.pef_script.specs.declared.token.Pair.{Pair}
use Rattle.pef_script.specs.declared.table.Kind.{Kind}
use Rattle.pef_script.specs.declared.table.Kind.TheVariants as kind
use Rattle.pef_script.specs.declared.table.Operands.{Operands}
use Rattle.pef_script.specs.declared.table.Word.{Word}
use Rattle.pef_script.specs.declared.table.Word.TheVariants as w
use Rattle.pef_script.specs.Command.{kind_of, operands_in, with_operand, shape_of}
use Rattle.pef_script.specs.Cause.{first}
use Rattle.pef_script.specs.Table.{Shape, shape, word_named, no_operands, at, reg}
use Rattle.pef_script.specs.Token.{pair_in}
use Rattle.pef_script.specs.Written.{Operand, Number, Register, Pair as PairOperand, Fits, CanBeWritten}
use Rattle.pef_script.proofs.Results.{option_map_some}
use Rattle.pef_script.proofs.ReadWords.{Holds, number_fits, register_below, pair_fits}

-- each number is below a limit
abbrev AllBelow : ℕ → List ℕ → Type 0
AllBelow limit ns = AllByRecursion (λ n. n < limit) ns

set_below : (limit : ℕ) (ns : List ℕ) (place n : ℕ) → n < limit → AllBelow limit ns → AllBelow limit (slice_set ns place n)
set_below limit [] place n small below = tt
set_below limit (m ∷ ns) zero n small below = (small, below.1)
set_below limit (m ∷ ns) (suc place) n small below = (below.0, set_below limit ns place n small below.1)

index_below : (limit : ℕ) (ns : List ℕ) (i : ℕ) → 0 < limit → AllBelow limit ns → slice_index ns i < limit
index_below limit [] i some below = some
index_below limit (n ∷ ns) zero some below = below.0
index_below limit (n ∷ ns) (suc i) some below = index_below limit ns i some below.1

-- operands that are read: registers below 32, numbers below 2^64
record AreSmall (o : Operands) : Type 0 where
  registers : AllBelow 32 o.registers
  numbers : AllBelow (2 ^ 64) o.numbers
  right : o.right < 2 ^ 64

none_small : AreSmall no_operands
none_small = record {
  registers = (omega arith, (omega arith, (omega arith, tt)));
  numbers = (omega arith, (omega arith, (omega arith, (omega arith, (omega arith, (omega arith, (omega arith, (omega arith, (omega arith, (omega arith, (omega arith, tt)))))))))));
  right = omega arith;
}

one_small : (k : Kind) (place : ℕ) (token : List ℕ) (o : Operands) → AreSmall o → Holds AreSmall (with_operand k place token o)
one_small kind.Number place token o small after e =
    option_map_some (λ (n : ℕ). record o { numbers = slice_set o.numbers place n }) (number_in token) after e (λ n is same.
    subst AreSmall same (record { registers = small.registers; numbers = set_below (2 ^ 64) o.numbers place n (number_fits token n is) small.numbers; right = small.right }))
one_small kind.Register place token o small after e =
    option_map_some (λ (r : ℕ). record o { registers = slice_set o.registers place r }) (register_in token) after e (λ r is same.
    subst AreSmall same (record { registers = set_below 32 o.registers place r (register_below token r is) small.registers; numbers = small.numbers; right = small.right }))
one_small kind.Pair place token o small after e =
    option_map_some (λ (p : Pair). record o { numbers = slice_set o.numbers place p.left; right = p.right }) (pair_in token) after e (λ p is same.
    let fits = pair_fits token p is in
    subst AreSmall same (record { registers = small.registers; numbers = set_below (2 ^ 64) o.numbers place p.left fits.0 small.numbers; right = fits.1 }))

all_small : (place : ℕ) (kinds : List Kind) (o : Operands) (tokens : List (List ℕ)) → AreSmall o → Holds AreSmall (operands_in place kinds o tokens)
all_small place kinds o [] small after e = subst AreSmall (same_Some o after e) small
all_small place kinds o (token ∷ more) small after e =
    option_and_then_some (λ (o : Operands). operands_in (place + 1) (drop 1 kinds) o more) (with_operand (kind_of kinds) place token o) after e (λ one is rest.
    all_small (place + 1) (drop 1 kinds) one more (one_small (kind_of kinds) place token o small one is) after rest)

-- whether a kind is none of a pair
abbrev no_pair : Kind → Bool
no_pair kind.Pair = false
no_pair k = true

one_leaves : (k : Kind) (place : ℕ) (token : List ℕ) (o : Operands) → no_pair k ≡ true → Holds (λ (after : Operands). after.right ≡ o.right) (with_operand k place token o)
one_leaves kind.Number place token o none after e = option_map_some (λ (n : ℕ). record o { numbers = slice_set o.numbers place n }) (number_in token) after e (λ n is same. sym (ap (λ (o : Operands). o.right) same))
one_leaves kind.Register place token o none after e = option_map_some (λ (r : ℕ). record o { registers = slice_set o.registers place r }) (register_in token) after e (λ r is same. sym (ap (λ (o : Operands). o.right) same))
one_leaves kind.Pair place token o none after e = absurd (let no : false ≡ true = none in cc)

-- where no pair stands, nothing is said of a right number
all_leave : (place : ℕ) (kinds : List Kind) (o : Operands) (tokens : List (List ℕ)) → list_all no_pair kinds ≡ true → Holds (λ (after : Operands). after.right ≡ o.right) (operands_in place kinds o tokens)
all_leave place kinds o [] none after e = sym (ap (λ (o : Operands). o.right) (same_Some o after e))
all_leave place [] o (token ∷ more) none after e =
    option_and_then_some (λ (o : Operands). operands_in (place + 1) [] o more) (with_operand kind.Number place token o) after e (λ one is rest.
    all_leave (place + 1) [] one more refl after rest ∙ one_leaves kind.Number place token o refl one is)
all_leave place (k ∷ kinds) o (token ∷ more) none after e =
    let parts = and_parts (no_pair k) (list_all no_pair kinds) none in
    option_and_then_some (λ (o : Operands). operands_in (place + 1) kinds o more) (with_operand k place token o) after e (λ one is rest.
    all_leave (place + 1) kinds one more parts.1 after rest ∙ one_leaves k place token o parts.0 one is)

-- the operands that stand at a line's places, by their kinds
abbrev picked : ℕ → List Kind → Operands → List Operand
picked place [] o = []
picked place (kind.Number ∷ kinds) o = Number (at o place) ∷ picked (place + 1) kinds o
picked place (kind.Register ∷ kinds) o = Register (reg o place) ∷ picked (place + 1) kinds o
picked place (kind.Pair ∷ kinds) o = PairOperand (at o place) o.right ∷ picked (place + 1) kinds o

-- those of operands that are read can be written
picked_fit : (place : ℕ) (kinds : List Kind) (o : Operands) → AreSmall o → AllByRecursion Fits (picked place kinds o)
picked_fit place [] o small = tt
picked_fit place (kind.Number ∷ kinds) o small = (index_below (2 ^ 64) o.numbers place (omega arith) small.numbers, picked_fit (place + 1) kinds o small)
picked_fit place (kind.Register ∷ kinds) o small = (index_below 32 o.registers place (omega arith) small.registers, picked_fit (place + 1) kinds o small)
picked_fit place (kind.Pair ∷ kinds) o small = ((index_below (2 ^ 64) o.numbers place (omega arith) small.numbers, small.right), picked_fit (place + 1) kinds o small)

-- the kinds of a command's operands, where each is written
abbrev all_kinds : Shape → List Kind
all_kinds s = s.kinds ++ replicate s.more kind.Number

-- what a command makes of such operands can be written: the last line is for each command without a pair
made_can : (word : Word) (o : Operands) → AreSmall o → (list_all no_pair (shape word).kinds ≡ true → o.right ≡ 0) → CanBeWritten o.right ((shape word).make o)
made_can w.GLi o small none = record { operands = picked_fit 0 (all_kinds (shape w.GLi)) o small; outputs = tt; pair = tt }
made_can word o small none = record { operands = picked_fit 0 (all_kinds (shape word)) o small; outputs = search rules; pair = none refl }

-- what is read of tokens can be written
pub read_can : (tokens operands : List (List ℕ)) (s : Shape) (o : Operands) → shape_of tokens ≡ Some s → operands_in 0 s.kinds no_operands operands ≡ Some o → CanBeWritten o.right (s.make o)
read_can tokens operands s o named given =
    option_and_then_some (λ (name : List ℕ). option_map shape (word_named name)) (first tokens) s named (λ name is found. option_map_some shape (word_named name) s found (λ word at same.
    subst (λ (s : Shape). operands_in 0 s.kinds no_operands operands ≡ Some o → CanBeWritten o.right (s.make o)) same
    (λ given. made_can word o (all_small 0 (shape word).kinds no_operands operands none_small o given) (λ none. all_leave 0 (shape word).kinds no_operands operands none o given)) given))
