-- Lemmas on lines that are read from the front.
use Rattle.std.proofs.Common.{◌≡◌, ◌<◌, ℕ, ◌+◌, List, [], ◌∷◌, ◌++◌, length, refl, ap, ◌∙◌, append_assoc, arith}
use Rattle.std.specs.Prelude.{◌==◌, Result, Ok, Err}
use Rattle.std.specs.List.{slice_split}
use Rattle.std.proofs.lemmas.List.Splits.{length-slice_split}
use Rattle.pef_script.specs.Line.{ReadLine}
use Rattle.pef_script.specs.declared.fault.ScriptFault.{ScriptFault}
use Rattle.pef_script.specs.Script.{lines_in, lines_of, before}

in_front : (line : List ℕ) (parts : List (List ℕ)) → 0 < length parts → lines_in (line ∷ parts) ≡ line ∷ lines_in parts
in_front line [] h = absurd (omega arith)
in_front line (next ∷ more) h = refl

-- where a text is cut at a first LF, its lines are what stands before it, and the lines of what stands after it
pub lines_first : (text line rest : List ℕ) → slice_split (λ b. b == 10) text ≡ line ∷ slice_split (λ b. b == 10) rest → lines_of text ≡ line ∷ lines_of rest
lines_first text line rest e = ap lines_in e ∙ in_front line _ (omega (arith, length-slice_split (λ b. b == 10) rest))

-- lines in front of others
abbrev pub with_front : List ReadLine → Result (List ReadLine) ScriptFault → Result (List ReadLine) ScriptFault
with_front front (Ok lines) = Ok (front ++ lines)
with_front front (Err f) = Err f

-- one more in front is the first of the others
pub with_front_push : (front : List ReadLine) (line : ReadLine) (lines : Result (List ReadLine) ScriptFault) → with_front (front ++ line ∷ []) lines ≡ with_front front (before (Ok line) lines)
with_front_push front line (Err f) = refl
with_front_push front line (Ok lines) = ap Ok (append_assoc front (line ∷ []) lines)

-- the count of lines with so many in front
abbrev pub with_count : ℕ → Result (List ReadLine) ScriptFault → Result ℕ ScriptFault
with_count count (Ok lines) = Ok (count + length lines)
with_count count (Err f) = Err f

-- one more in front is the first of the others
pub with_count_push : (count : ℕ) (line : ReadLine) (lines : Result (List ReadLine) ScriptFault) → with_count (count + 1) lines ≡ with_count count (before (Ok line) lines)
with_count_push count line (Err f) = refl
with_count_push count line (Ok lines) = ap (λ (n : ℕ). Ok n) (omega arith)
