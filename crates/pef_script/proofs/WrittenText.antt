-- The lines of a text that is written, and their words, are read again.
use Rattle.std.proofs.Common.{◌≡◌, ◌≤◌, ◌<◌, ℕ, ◌+◌, ◌^◌, ◌==◌, Bool, true, false, List, [], ◌∷◌, ◌++◌, map, filter, refl, ap, ◌∙◌, subst, arith, append_assoc, Ok}
use Rattle.std.specs.Prelude.{nat_eq, codes}
use Rattle.std.specs.List.{slice_split, onto_first, starts_with, join_with_byte, flat_map, AllByRecursion}
use Rattle.std.proofs.lemmas.Bool.{ne_eqb}
use Rattle.std.proofs.lemmas.Bool.Decides.{nat_tests}
use Rattle.std.proofs.lemmas.List.Splits.{slice_split-cons_yes, slice_split-cons_no}
use Rattle.pef_model.specs.declared.config.Config.{Config}
use Rattle.pef_model.proofs.Folds.{same_test}
use Rattle.pef_model.proofs.Lists.{all_give, all_append}
use Rattle.pef_script.specs.declared.setting.Header.{Header}
use Rattle.pef_script.specs.Command.{line_in}
use Rattle.pef_script.specs.Line.{ReadLine}
use Rattle.pef_script.specs.Setting.{setting_in}
use Rattle.pef_script.specs.Token.{has_bytes, tokens_of}
use Rattle.pef_script.specs.Script.{lines_of, is_skipped, is_begin, header_in, commands_in}
use Rattle.pef_script.specs.Written.{line_words, words_text, CountsFrom, CanBeWritten}
use Rattle.pef_script.proofs.ScriptLines.{lines_first}
use Rattle.pef_script.proofs.WrittenWords.{AllAbove, IsWord}
use Rattle.pef_script.proofs.WrittenLines.{each_line_is_read, line_is_words}

-- the words of a line
abbrev pub AreWords : List (List ℕ) → Type 0
AreWords words = AllByRecursion IsWord words

above_test : (a b : ℕ) → b < a → (a == b) ≡ false
above_test a b h = grind (arith, nat_tests)

-- a text is cut at a byte that is below those before it
split_above : (low : ℕ) (xs rest : List ℕ) → AllAbove low xs → slice_split (λ b. b == low) (xs ++ low ∷ rest) ≡ xs ∷ slice_split (λ b. b == low) rest
split_above low [] rest h = slice_split-cons_yes (λ b. b == low) low rest (same_test low)
split_above low (x ∷ xs) rest h =
    slice_split-cons_no (λ b. b == low) x (xs ++ low ∷ rest) (above_test x low h.0) ∙ ap (onto_first x) (split_above low xs rest h.1)

whole_above : (low : ℕ) (xs : List ℕ) → AllAbove low xs → slice_split (λ b. b == low) xs ≡ xs ∷ []
whole_above low [] h = refl
whole_above low (x ∷ xs) h =
    slice_split-cons_no (λ b. b == low) x xs (above_test x low h.0) ∙ ap (onto_first x) (whole_above low xs h.1)

-- what is above # is above a lower byte
above_less : (low : ℕ) (xs : List ℕ) → low ≤ 35 → AllAbove 35 xs → AllAbove low xs
above_less low xs le h = all_give (λ b. 35 < b) (λ b. low < b) xs (λ b more. omega arith) h

parts_again : (word : List ℕ) (words : List (List ℕ)) → AreWords (word ∷ words) → slice_split (λ b. b == 32) (join_with_byte 32 (word ∷ words)) ≡ word ∷ words
parts_again word [] h = whole_above 32 word (above_less 32 word (omega arith) h.0.1)
parts_again word (next ∷ more) h =
    split_above 32 word (join_with_byte 32 (next ∷ more)) (above_less 32 word (omega arith) h.0.1) ∙ ap (λ ws. word ∷ ws) (parts_again next more h.1)

all_stay : (words : List (List ℕ)) → AreWords words → filter has_bytes words ≡ words
all_stay [] h = refl
all_stay (word ∷ words) h = rw (h.0.0, all_stay words h.1) refl

-- a line that is written has its words
tokens_again : (word : List ℕ) (words : List (List ℕ)) → AreWords (word ∷ words) → tokens_of (join_with_byte 32 (word ∷ words)) ≡ word ∷ words
tokens_again word words h = ap (filter has_bytes) (parts_again word words h) ∙ all_stay (word ∷ words) h

not_comment : (word : List ℕ) (words : List (List ℕ)) → IsWord word → starts_with nat_eq (join_with_byte 32 (word ∷ words)) (codes "#") ≡ false
not_comment [] words h = absurd (let none : false ≡ true = h.0 in cc)
not_comment (b ∷ bs) [] h = rw (ne_eqb 35 b (λ e. let less : 35 < b = h.1.0 in omega arith)) refl
not_comment (b ∷ bs) (next ∷ more) h = rw (ne_eqb 35 b (λ e. let less : 35 < b = h.1.0 in omega arith)) refl

-- and says something
not_skipped : (word : List ℕ) (words : List (List ℕ)) → AreWords (word ∷ words) → is_skipped (join_with_byte 32 (word ∷ words)) ≡ false
not_skipped word words h = rw (not_comment word words h.0, tokens_again word words h) refl

-- it ends at its end
line_above : (words : List (List ℕ)) → AreWords words → AllAbove 10 (join_with_byte 32 words)
line_above [] h = tt
line_above (word ∷ []) h = above_less 10 word (omega arith) h.0.1
line_above (word ∷ next ∷ more) h =
    all_append (λ b. 10 < b) word (32 ∷ join_with_byte 32 (next ∷ more)) (above_less 10 word (omega arith) h.0.1) (omega arith, line_above (next ∷ more) h.1)

-- the lines of a text that is written
pub lines_again : (lines : List (List (List ℕ))) → AllByRecursion AreWords lines → lines_of (flat_map words_text lines) ≡ map (join_with_byte 32) lines
lines_again [] h = refl
lines_again (words ∷ more) h =
    let line = join_with_byte 32 words in
    let rest = flat_map words_text more in
    lines_first (words_text words ++ rest) line rest (ap (slice_split (λ b. b == 10)) (append_assoc line (10 ∷ []) rest) ∙ split_above 10 line rest (line_above words h.0))
    ∙ ap (λ (lines : List (List ℕ)). line ∷ lines) (lines_again more h.1)

-- a configuration line in front of others sets what it says
pub set_line : (number place : ℕ) (config : Config) (word : List ℕ) (words more : List (List ℕ)) (h : Header) → AreWords (word ∷ words) → is_begin (word ∷ words) ≡ false →
    setting_in place config (word ∷ words) ≡ Ok h → header_in number place config (join_with_byte 32 (word ∷ words) ∷ more) ≡ header_in (number + 1) h.place h.config more
set_line number place config word words more h are other sets = rw (not_skipped word words are, tokens_again word words are, other, sets) refl

-- the command lines that are written are read again
pub commands_again : (hex : Bool) (cpus number : ℕ) (lines : List ReadLine) → cpus ≤ 16 → CountsFrom number lines → AllByRecursion (λ (l : ReadLine). l.line.cpu < cpus) lines →
    AllByRecursion (λ (l : ReadLine). CanBeWritten l.right l.line.directive) lines → commands_in cpus number (map (join_with_byte 32) (map (line_words hex) lines)) ≡ Ok lines
commands_again hex cpus number [] few counts below can = refl
commands_again hex cpus number (l ∷ more) few counts below can =
    let fits : l.line.cpu < 2 ^ 64 = omega (arith, below.0, few) in
    let are = line_is_words hex cpus l below.0 fits can.0 in
    let reads = subst (λ (n : ℕ). line_in cpus n (line_words hex l) ≡ Ok l) counts.0 (each_line_is_read hex cpus l below.0 fits can.0) in
    rw (not_skipped _ _ are, tokens_again _ _ are, reads, commands_again hex cpus (number + 1) more few counts.1 below.1 can.1) refl

pub commands_words : (hex : Bool) (cpus : ℕ) (lines : List ReadLine) → cpus ≤ 16 → AllByRecursion (λ (l : ReadLine). l.line.cpu < cpus) lines →
    AllByRecursion (λ (l : ReadLine). CanBeWritten l.right l.line.directive) lines → AllByRecursion AreWords (map (line_words hex) lines)
commands_words hex cpus [] few below can = tt
commands_words hex cpus (l ∷ more) few below can =
    (line_is_words hex cpus l below.0 (omega (arith, below.0, few)) can.0, commands_words hex cpus more few below.1 can.1)
