-- The words of each line are read as it.
use Rattle.std.proofs.Common.{◌≡◌, ℕ, ◌+◌, ◌<◌, ◌≤◌, ◌^◌, ◌==◌, ◌++◌, Bool, true, false, cond, List, [], ◌∷◌, length, map, drop, slice_set, option_and_then, Option, None, refl, ap, subst, sym, ◌∙◌, zero, suc, Some, Ok, arith, decimal, rules}
use Rattle.std.specs.Prelude.{codes}
use Rattle.std.specs.Char.{digit_value}
use Rattle.std.specs.Fmt.{digits}
use Rattle.std.specs.List.{slice_split, AllByRecursion}
use Rattle.std.specs.Str.Parse.{AllDigits}
use Rattle.std.proofs.lemmas.Bool.{lt-ltb, ne_eqb}
use Rattle.std.proofs.lemmas.Bool.Decides.{nat_tests}
use Rattle.std.proofs.lemmas.Fmt.{digits_is_IsNumeral, decimal_is_IsNumeral}
use Rattle.std.proofs.lemmas.List.{length-map}
use Rattle.pef_model.specs.declared.command.Cmd.TheVariants.{UReturn}
use Rattle.pef_model.specs.declared.command.Directive.{Directive}
use Rattle.pef_model.specs.declared.command.Directive.TheVariants.{Once}
use Rattle.pef_script.specs.declared.table.Kind.{Kind}
use Rattle.pef_script.specs.declared.table.Kind.TheVariants as kind
use Rattle.pef_script.specs.declared.table.Operands.{Operands}
use Rattle.pef_script.specs.declared.table.Word.{Word}
use Rattle.pef_script.specs.declared.table.Word.TheVariants as w
use Rattle.pef_script.specs.Command.{line_in, counted, kind_of, operands_in, with_operand}
use Rattle.pef_script.specs.Line.{ReadLine}
use Rattle.pef_script.specs.Table.{shape, word_named, no_operands}
use Rattle.pef_script.specs.Token.{pair_in}
use Rattle.pef_script.specs.Written.{Operand, Number, Register, Pair, number_text, pair_text, operand_text, Fits, name_of, operands_of, line_words, CanBeWritten}
use Rattle.pef_script.specs.WrittenLaw.{EachLineIsRead}
use Rattle.pef_model.proofs.Lists.{all_append}
use Rattle.pef_script.proofs.WrittenWords.{IsWord, is_word, word_tested, more_bytes, number_word, register_word, number_reads, register_reads}

-- digits have no |
no_bar : (radix : ℕ) (ds : List ℕ) → radix ≤ 16 → AllDigits radix ds → AllByRecursion (λ d. (d == 124) ≡ false) ds
no_bar radix [] few all = tt
no_bar radix (d ∷ ds) few all =
    (ne_eqb d 124 (λ e. let large : digit_value 124 < radix = subst (λ z. digit_value z < radix) e all.0 in absurd (omega (arith, large, few))), no_bar radix ds few all.1)

-- nor does a number
number_bare : (hex : Bool) (n : ℕ) → n < 2 ^ 64 → AllByRecursion (λ d. (d == 124) ≡ false) (number_text hex n)
number_bare true n fits = (refl, (refl, no_bar 16 (digits 16 false n) (omega arith) (digits_is_IsNumeral 16 false (omega arith) (omega arith) n (omega arith)).0.1))
number_bare false n fits = no_bar 10 (decimal n) (omega arith) (decimal_is_IsNumeral n fits).0.1

whole : (xs : List ℕ) → AllByRecursion (λ d. (d == 124) ≡ false) xs → slice_split (λ b. b == 124) xs ≡ xs ∷ []
whole [] bare = refl
whole (x ∷ xs) bare = rw (bare.0, whole xs bare.1) refl

parted : (xs rest : List ℕ) → AllByRecursion (λ d. (d == 124) ≡ false) xs → slice_split (λ b. b == 124) (xs ++ (codes "|" ++ rest)) ≡ xs ∷ slice_split (λ b. b == 124) rest
parted [] rest bare = refl
parted (x ∷ xs) rest bare = rw (bare.0, parted xs rest bare.1) refl

-- a pair is read again, also where one number is written
pub pair_reads : (hex : Bool) (left right : ℕ) → left < 2 ^ 64 → right < 2 ^ 64 → pair_in (pair_text hex left right) ≡ Some (record { left = left; right = right })
pair_reads hex left right one two = by_test (left == right) refl where
  by_test : (same : Bool) → (left == right) ≡ same → pair_in (cond same (number_text hex left) (number_text hex left ++ (codes "|" ++ number_text hex right))) ≡ Some (record { left = left; right = right })
  by_test true e =
      let is : left ≡ right = grind (arith, nat_tests, e) in
      rw (whole (number_text hex left) (number_bare hex left one), number_reads hex left one) (ap (λ (n : ℕ). Some (record { left = left; right = n })) is)
  by_test false e =
      rw (parted (number_text hex left) (number_text hex right) (number_bare hex left one), whole (number_text hex right) (number_bare hex right two), number_reads hex left one, number_reads hex right two) refl

-- a pair is a word
pub pair_word : (hex : Bool) (left right : ℕ) → left < 2 ^ 64 → right < 2 ^ 64 → IsWord (pair_text hex left right)
pair_word hex left right one two = by_test (left == right) where
  by_test : (same : Bool) → IsWord (cond same (number_text hex left) (number_text hex left ++ (codes "|" ++ number_text hex right)))
  by_test true = number_word hex left one
  by_test false =
      let word = number_word hex left one in (
        more_bytes (number_text hex left) (codes "|" ++ number_text hex right) word.0,
        all_append (λ b. 35 < b) (number_text hex left) (codes "|" ++ number_text hex right) word.1 (omega arith, (number_word hex right two).1),
      )

operand_word : (hex : Bool) (operand : Operand) → Fits operand → IsWord (operand_text hex operand)
operand_word hex (Number n) fits = number_word hex n fits
operand_word hex (Register r) fits = register_word r fits
operand_word hex (Pair left right) fits = pair_word hex left right fits.0 fits.1

operand_words : (hex : Bool) (operands : List Operand) → AllByRecursion Fits operands → AllByRecursion IsWord (map (operand_text hex) operands)
operand_words hex [] fit = tt
operand_words hex (operand ∷ more) fit = (operand_word hex operand fit.0, operand_words hex more fit.1)

-- the kind of an operand
abbrev kind_is : Operand → Kind
kind_is (Number n) = kind.Number
kind_is (Register r) = kind.Register
kind_is (Pair left right) = kind.Pair

-- operands of these kinds
abbrev AreOf : List Kind → List Operand → Type 0
AreOf kinds [] = Unit {0}
AreOf kinds (operand ∷ more) = (kind_of kinds ≡ kind_is operand) × AreOf (drop 1 kinds) more

-- what a line has with one more operand at a place
abbrev with_one : ℕ → Operand → Operands → Operands
with_one place (Number n) o = record o { numbers = slice_set o.numbers place n }
with_one place (Register r) o = record o { registers = slice_set o.registers place r }
with_one place (Pair left right) o = record o { numbers = slice_set o.numbers place left; right = right }

-- and with operands from a place on
abbrev with_all : ℕ → List Operand → Operands → Operands
with_all place [] o = o
with_all place (operand ∷ more) o = with_all (place + 1) more (with_one place operand o)

one_reads : (hex : Bool) (place : ℕ) (operand : Operand) (o : Operands) → Fits operand → with_operand (kind_is operand) place (operand_text hex operand) o ≡ Some (with_one place operand o)
one_reads hex place (Number n) o fits = rw (number_reads hex n fits) refl
one_reads hex place (Register r) o fits = rw (register_reads r fits) refl
one_reads hex place (Pair left right) o fits = rw (pair_reads hex left right fits.0 fits.1) refl

-- operands are read again
operands_read : (hex : Bool) (place : ℕ) (kinds : List Kind) (operands : List Operand) (o : Operands) → AreOf kinds operands → AllByRecursion Fits operands →
    operands_in place kinds o (map (operand_text hex) operands) ≡ Some (with_all place operands o)
operands_read hex place kinds [] o are fit = refl
operands_read hex place kinds (operand ∷ more) o are fit =
    let rest : List (List ℕ) = map (operand_text hex) more in
    ap (λ (k : Kind). option_and_then (λ (o : Operands). operands_in (place + 1) (drop 1 kinds) o rest) (with_operand k place (operand_text hex operand) o)) are.0
    ∙ ap (option_and_then (λ (o : Operands). operands_in (place + 1) (drop 1 kinds) o rest)) (one_reads hex place operand o fit.0)
    ∙ operands_read hex (place + 1) (drop 1 kinds) more (with_one place operand o) are.1 fit.1

-- a line of a number, a CPU, a directive and the right number of its pair is words, and is read again
record IsRead (hex : Bool) (cpus number cpu right : ℕ) (d : Directive) : Type 0 where
  reads : line_in cpus number (number_text hex cpu ∷ name_of d ∷ map (operand_text hex) (operands_of right d)) ≡ Ok (record { line = record { number = number; cpu = cpu; directive = d }; right = right })
  words : AllByRecursion IsWord (number_text hex cpu ∷ name_of d ∷ map (operand_text hex) (operands_of right d))

-- a directive is one of a row: its name is a word, and the row reads its operands and makes it of them
record IsRow (right : ℕ) (d : Directive) (word : Word) : Type 0 where
  name : is_word (name_of d) ≡ true
  kinds : AreOf (shape word).kinds (operands_of right d)
  count : counted (shape word) (length (operands_of right d)) ≡ Some (length (operands_of right d))
  makes : (shape word).make (with_all 0 (operands_of right d) no_operands) ≡ d
  pair : (with_all 0 (operands_of right d) no_operands).right ≡ right

-- what a directive's name finds is its row
abbrev HasRow : ℕ → Directive → Option Word → Type 0
HasRow right d None = ⊥
HasRow right d (Some word) = IsRow right d word

-- a directive that has its row is read again
by_row : (hex : Bool) (cpus number cpu right : ℕ) (d : Directive) (found : Option Word) → cpu < cpus → cpu < 2 ^ 64 → AllByRecursion Fits (operands_of right d) →
    word_named (name_of d) ≡ found → HasRow right d found → IsRead hex cpus number cpu right d
unfolding line_in
by_row hex cpus number cpu right d None below fits fit named none = absurd none
by_row hex cpus number cpu right d (Some word) below fits fit named row =
    let size : length (map (operand_text hex) (operands_of right d)) ≡ length (operands_of right d) = length-map (operands_of right d) (operand_text hex) in
    record {
      reads = rw (number_reads hex cpu fits, named, size, row.count, operands_read hex 0 (shape word).kinds (operands_of right d) no_operands row.kinds fit, lt-ltb cpu cpus below, row.makes, row.pair) refl;
      words = (number_word hex cpu fits, (word_tested (name_of d) row.name, operand_words hex (operands_of right d) fit));
    }

-- a fact of each list of so many numbers
abbrev Each : ℕ → (List ℕ → Type 0) → Type 0
Each zero P = P []
Each (suc n) P = (x : ℕ) → Each n (λ (xs : List ℕ). P (x ∷ xs))

-- holds of a list that has so many
each_of : (n : ℕ) (P : List ℕ → Type 0) → Each n P → (xs : List ℕ) → length xs ≡ n → P xs
each_of zero P all [] size = all
each_of zero P all (x ∷ xs) size = absurd (omega (arith, size))
each_of (suc n) P all [] size = absurd (omega (arith, size))
each_of (suc n) P all (x ∷ xs) size = each_of n (λ (xs : List ℕ). P (x ∷ xs)) (all x) xs (omega (arith, size))

-- each directive has its row: the last line is for each without outputs
has_row : (right : ℕ) (d : Directive) → CanBeWritten right d → HasRow right d (word_named (name_of d))
unfolding word_named
has_row right (Once (UReturn r0 r2 outs)) can =
    each_of 9 (λ (outs : List ℕ). HasRow right (Once (UReturn r0 r2 outs)) (Some w.UReturn))
    (λ a b c d e f g h i. record { name = refl; kinds = search rules; count = refl; makes = refl; pair = sym can.pair }) outs can.outputs
has_row right d can = record { name = refl; kinds = search rules; count = refl; makes = refl; pair = cc }

line_read : (hex : Bool) (cpus number cpu right : ℕ) (d : Directive) → cpu < cpus → cpu < 2 ^ 64 → CanBeWritten right d → IsRead hex cpus number cpu right d
line_read hex cpus number cpu right d below fits can = by_row hex cpus number cpu right d (word_named (name_of d)) below fits can.operands refl (has_row right d can)

pub each_line_is_read : EachLineIsRead
each_line_is_read hex cpus l below fits can = (line_read hex cpus l.line.number l.line.cpu l.right l.line.directive below fits can).reads

-- and it is words
pub line_is_words : (hex : Bool) (cpus : ℕ) (l : ReadLine) → l.line.cpu < cpus → l.line.cpu < 2 ^ 64 → CanBeWritten l.right l.line.directive → AllByRecursion IsWord (line_words hex l)
line_is_words hex cpus l below fits can = (line_read hex cpus l.line.number l.line.cpu l.right l.line.directive below fits can).words
