-- The text that is written for a script is read again.
use Rattle.std.proofs.Common.{◌≡◌, ◌≤◌, ◌<◌, ℕ, ◌+◌, ◌/◌, ◌%◌, ◌^◌, Bool, true, false, List, [], ◌∷◌, ◌++◌, length, map, get_or, refl, ap, ◌∙◌, arith, append_assoc, zero, suc, Result, Ok}
use Rattle.std.specs.Prelude.{All, codes}
use Rattle.std.specs.List.{join_with_byte, AllByRecursion}
use Rattle.std.specs.List.Sorted.{IsStrictlyIncreasing}
use Rattle.std.proofs.lemmas.List.{map-append, length-map, length-append}
use Rattle.std.proofs.lemmas.List.Elements.{All-head, All-tail}
use Rattle.std.proofs.lemmas.Nat.{div_below}
use Rattle.hex.specs.Hex.{IsBytes, encode_with, encode_lower, lower_digits}
use Rattle.pef_model.specs.declared.config.Config.{Config}
use Rattle.pef_model.specs.declared.config.EntropyWord.{EntropyWord}
use Rattle.pef_model.specs.Plan.{IsWithin, default_config}
use Rattle.pef_model.proofs.Lists.{all_give, both_give, all_append}
use Rattle.pef_script.specs.declared.fault.ScriptFault.{ScriptFault}
use Rattle.pef_script.specs.Cause.{◌>>=◌}
use Rattle.pef_script.specs.Line.{ReadLine}
use Rattle.pef_script.specs.Setting.{ok_of, setting_from}
use Rattle.pef_script.specs.Script.{ReadScript, Begun, behind_first, header_in, commands_in, script_or_fault}
use Rattle.pef_script.specs.Written.{number_text, seal_text, GuestWords, by_guest, born_words, entropy_words, header_words, line_words, IsWritable}
use Rattle.pef_script.specs.WrittenLaw.{ReadsWhatIsWritten}
use Rattle.pef_script.proofs.WrittenWords.{AllAbove, IsWord, is_word, above_tested, word_tested, number_word}
use Rattle.pef_script.proofs.WrittenText.{AreWords, lines_again, commands_again, commands_words}
use Rattle.pef_script.proofs.WrittenGuests.{words_stay, are_guests, guests_rise_from, AreGuests, IsWordOf}
use Rattle.pef_script.proofs.WrittenHeader.{pairs_words, size_sets, seal_sets, key_sets, Rising, rising_from, born_sets, guests_set}

-- a byte of digits is above #
digit_above : (xs : List ℕ) (i : ℕ) → AllAbove 35 xs → i < length xs → 35 < get_or xs i 0
digit_above [] i above h = absurd (omega arith)
digit_above (x ∷ xs) zero above h = above.0
digit_above (x ∷ xs) (suc i) above h = digit_above xs i above.1 (omega (arith, h))

-- a key in hexadecimal is above #
key_above : (key : List ℕ) → IsBytes key → AllAbove 35 (encode_lower key)
unfolding encode_with
key_above [] bytes = tt
key_above (b ∷ key) bytes =
    let digits : AllAbove 35 lower_digits = above_tested 35 lower_digits refl in (
      digit_above lower_digits (b / 16) digits (div_below b 16 16 (omega arith) (omega (arith, bytes 0))),
      (digit_above lower_digits (b % 16) digits (omega arith), key_above key (λ i. bytes (suc i))),
    )

key_word : (key : List ℕ) → length key ≡ 32 → IsBytes key → IsWord (encode_lower key)
unfolding encode_with
key_word [] size bytes = absurd (omega (arith, size))
key_word (b ∷ key) size bytes = (refl, key_above (b ∷ key) bytes)

-- what holds of each element, by recursion
by_recursion : {A : Type 0} (P : A → Type 0) (xs : List A) → All P xs → AllByRecursion P xs
by_recursion P [] all = tt
by_recursion P (x ∷ xs) all = (All-head P x xs all, by_recursion P xs (All-tail P x xs all))

-- the entropy words are of its guests, with numbers that can be written
own_words : (s : ReadScript) (hex : Bool) → IsWritable hex s → AllByRecursion (IsWordOf s.config.guests) s.config.entropy
own_words s hex can =
    let guests = s.config.guests in
    both_give (λ (w : EntropyWord). IsWithin 1 guests w.lpid) (λ (w : EntropyWord). (w.left < 2 ^ 64) × (w.right < 2 ^ 64)) (IsWordOf guests) s.config.entropy (λ w in_range small. (in_range, small.0, small.1))
    (by_recursion (λ (w : EntropyWord). IsWithin 1 guests w.lpid) s.config.entropy can.range.entropy) can.secrets.fit

-- the lines of born guests, of entropy words, and `begin`
abbrev tail_words : Bool → Config → List (List (List ℕ))
tail_words hex c = map (born_words hex) c.born ++ (map (entropy_words hex) (by_guest c.entropy) ++ (codes "begin" ∷ []) ∷ [])

tail_lines : (hex : Bool) (c : Config) (lines : List (List (List ℕ))) →
    map (join_with_byte 32) (tail_words hex c ++ lines)
    ≡ map (join_with_byte 32) (map (born_words hex) c.born) ++ (map (join_with_byte 32) (map (entropy_words hex) (by_guest c.entropy)) ++ codes "begin" ∷ map (join_with_byte 32) lines)
tail_lines hex c lines =
    let born = map (born_words hex) c.born in
    let entropy = map (entropy_words hex) (by_guest c.entropy) in
    ap (map (join_with_byte 32)) (append_assoc born (entropy ++ (codes "begin" ∷ []) ∷ []) lines)
    ∙ map-append (join_with_byte 32) born ((entropy ++ (codes "begin" ∷ []) ∷ []) ++ lines)
    ∙ ap (λ (rest : List (List ℕ)). map (join_with_byte 32) born ++ rest)
    (ap (map (join_with_byte 32)) (append_assoc entropy ((codes "begin" ∷ []) ∷ []) lines) ∙ map-append (join_with_byte 32) entropy ((codes "begin" ∷ []) ∷ lines))

-- the configuration lines that are written set the configuration
header_again : (hex : Bool) (s : ReadScript) → IsWritable hex s → (lines : List (List (List ℕ))) →
    header_in 2 0 default_config (map (join_with_byte 32) (
    (codes "shift" ∷ number_text hex s.config.shift ∷ [])
    ∷ (codes "normal" ∷ number_text hex s.config.normal ∷ [])
    ∷ (codes "secure" ∷ number_text hex s.config.secure ∷ [])
    ∷ (codes "cpus" ∷ number_text hex s.config.cpus ∷ [])
    ∷ (codes "guests" ∷ number_text hex s.config.guests ∷ [])
    ∷ (codes "vcpus" ∷ number_text hex s.config.vcpus ∷ [])
    ∷ (codes "pages" ∷ number_text hex s.config.pages ∷ [])
    ∷ (codes "seal" ∷ seal_text s.config.vault ∷ [])
    ∷ (codes "key" ∷ encode_lower s.config.key ∷ [])
    ∷ (tail_words hex s.config ++ lines)
    ))
    ≡ Ok (record { config = s.config; number = length (header_words hex s.config) + 1; rest = map (join_with_byte 32) lines })
unfolding setting_from
header_again hex s can lines =
    let c : Config = s.config in
    let range = can.range in
    let c1 : Config = record default_config { shift = c.shift } in
    let c2 : Config = record c1 { normal = c.normal } in
    let c3 : Config = record c2 { secure = c.secure } in
    let c4 : Config = record c3 { cpus = c.cpus } in
    let c5 : Config = record c4 { guests = c.guests } in
    let c6 : Config = record c5 { vcpus = c.vcpus } in
    let c7 : Config = record c6 { pages = c.pages } in
    let c8 : Config = record c7 { vault = c.vault } in
    let c9 : Config = record c8 { key = c.key } in
    let c10 : Config = record c9 { born = c.born } in
    let few : c.guests ≤ 16 = range.guests.1 in
    let rising : Rising c.guests 0 c.born = rising_from c.guests 0 c.born (above_none c.guests c.born range.rises range.born) range.born in
    let own = own_words s hex can in
    let guests : AllByRecursion (AreGuests c.guests c.entropy) (by_guest c.entropy) = are_guests c.guests c.entropy own in
    let most : AllByRecursion (λ (g : GuestWords). length g.words ≤ 64) (by_guest c.entropy) =
    all_give (AreGuests c.guests c.entropy) (λ (g : GuestWords). length g.words ≤ 64) (by_guest c.entropy) (λ g are. omega (arith, are.few, range.words g.lpid)) guests in
    let rise = guests_rise_from c.entropy (all_give (IsWordOf c.guests) (λ (w : EntropyWord). 1 ≤ w.lpid) c.entropy (λ w is. is.0.0) own) range.words_rise in
    let count : 11 + length c.born + length (by_guest c.entropy) + 1 ≡ length (header_words hex c) + 1 =
    omega (
      arith,
      length-append (map (born_words hex) c.born) (map (entropy_words hex) (by_guest c.entropy) ++ (codes "begin" ∷ []) ∷ []),
      length-append (map (entropy_words hex) (by_guest c.entropy)) ((codes "begin" ∷ []) ∷ []),
      length-map c.born (born_words hex),
      length-map (by_guest c.entropy) (entropy_words hex),
    ) in
    size_sets hex 2 0 1 8 16 c.shift (λ (c : Config) (n : ℕ). record c { shift = n }) default_config (codes "shift") _ (omega (arith, range.shift.1)) range.shift refl refl
    ∙ size_sets hex 3 1 2 1 1024 c.normal (λ (c : Config) (n : ℕ). record c { normal = n }) c1 (codes "normal") _ (omega (arith, range.normal.1)) range.normal refl refl
    ∙ size_sets hex 4 2 3 1 1024 c.secure (λ (c : Config) (n : ℕ). record c { secure = n }) c2 (codes "secure") _ (omega (arith, range.secure.1)) range.secure refl refl
    ∙ size_sets hex 5 3 4 1 16 c.cpus (λ (c : Config) (n : ℕ). record c { cpus = n }) c3 (codes "cpus") _ (omega (arith, range.cpus.1)) range.cpus refl refl
    ∙ size_sets hex 6 4 5 1 16 c.guests (λ (c : Config) (n : ℕ). record c { guests = n }) c4 (codes "guests") _ (omega (arith, range.guests.1)) range.guests refl refl
    ∙ size_sets hex 7 5 6 1 8 c.vcpus (λ (c : Config) (n : ℕ). record c { vcpus = n }) c5 (codes "vcpus") _ (omega (arith, range.vcpus.1)) range.vcpus refl refl
    ∙ size_sets hex 8 6 7 1 1024 c.pages (λ (c : Config) (n : ℕ). record c { pages = n }) c6 (codes "pages") _ (omega (arith, range.pages.1)) range.pages refl refl
    ∙ seal_sets 9 c7 c.vault _
    ∙ key_sets 10 c8 c.key _ can.secrets.size can.secrets.bytes (key_word c.key can.secrets.size can.secrets.bytes)
    ∙ ap (header_in 11 9 c9) (tail_lines hex c lines)
    ∙ born_sets hex 11 c9 c.born _ few rising
    ∙ guests_set hex (11 + length c.born) 9 c10 c.entropy (by_guest c.entropy) (map (join_with_byte 32) lines) few guests most rise (λ g. refl)
    ∙ ap (λ (words : List EntropyWord). Ok (record { config = record c { entropy = words }; number = 11 + length c.born + length (by_guest c.entropy) + 1; rest = map (join_with_byte 32) lines })) (words_stay c.entropy)
    ∙ ap (λ (k : ℕ). Ok (record { config = c; number = k; rest = map (join_with_byte 32) lines })) count
  where
    above_none : (guests : ℕ) (ns : List ℕ) → IsStrictlyIncreasing ns → All (IsWithin 1 guests) ns → IsStrictlyIncreasing (0 ∷ ns)
    above_none guests [] rises all k h = absurd (omega arith)
    above_none guests (n ∷ ns) rises all zero h = (All-head (IsWithin 1 guests) n ns all).0
    above_none guests (n ∷ ns) rises all (suc k) h =
        let one_more : suc k + 1 ≡ suc (k + 1) = omega arith in
        rw one_more (rises k (omega (arith, h)))

size_words : (hex : Bool) (name : List ℕ) (n : ℕ) → is_word name ≡ true → n ≤ 1024 → AreWords (name ∷ number_text hex n ∷ [])
size_words hex name n test few = (word_tested name test, (number_word hex n (omega (arith, few)), tt))

seal_word : (vault : Bool) → IsWord (seal_text vault)
seal_word true = word_tested (codes "vault") refl
seal_word false = word_tested (codes "stream") refl

born_are_words : (hex : Bool) (guests : ℕ) (ns : List ℕ) → guests ≤ 16 → AllByRecursion (IsWithin 1 guests) ns → AllByRecursion AreWords (map (born_words hex) ns)
born_are_words hex guests [] few all = tt
born_are_words hex guests (n ∷ ns) few all = (size_words hex (codes "born") n refl (omega (arith, all.0.1, few)), born_are_words hex guests ns few all.1)

guests_are_words : (hex : Bool) (guests : ℕ) (all : List EntropyWord) (gs : List GuestWords) → guests ≤ 16 → AllByRecursion (AreGuests guests all) gs → AllByRecursion AreWords (map (entropy_words hex) gs)
guests_are_words hex guests all [] few are = tt
guests_are_words hex guests all (g ∷ gs) few are =
    ((word_tested (codes "entropy") refl, (number_word hex g.lpid (omega (arith, are.0.within.1, few)), pairs_words hex g.lpid g.words are.0.own)), guests_are_words hex guests all gs few are.1)

header_are_words : (hex : Bool) (s : ReadScript) → IsWritable hex s → AllByRecursion AreWords (header_words hex s.config)
header_are_words hex s can =
    let c : Config = s.config in
    let range = can.range in
    let few : c.guests ≤ 16 = range.guests.1 in (
      (word_tested (codes "pef") refl, (word_tested (codes "1") refl, tt)),
      (
        size_words hex (codes "shift") c.shift refl (omega (arith, range.shift.1)),
        (
          size_words hex (codes "normal") c.normal refl range.normal.1,
          (
            size_words hex (codes "secure") c.secure refl range.secure.1,
            (
              size_words hex (codes "cpus") c.cpus refl (omega (arith, range.cpus.1)),
              (
                size_words hex (codes "guests") c.guests refl (omega (arith, range.guests.1)),
                (
                  size_words hex (codes "vcpus") c.vcpus refl (omega (arith, range.vcpus.1)),
                  (
                    size_words hex (codes "pages") c.pages refl range.pages.1,
                    (
                      (word_tested (codes "seal") refl, (seal_word c.vault, tt)),
                      (
                        (word_tested (codes "key") refl, (key_word c.key can.secrets.size can.secrets.bytes, tt)),
                        all_append AreWords (map (born_words hex) c.born) _ (born_are_words hex c.guests c.born few (by_recursion (IsWithin 1 c.guests) c.born range.born))
                            (all_append AreWords (map (entropy_words hex) (by_guest c.entropy)) _
                            (guests_are_words hex c.guests c.entropy (by_guest c.entropy) few (are_guests c.guests c.entropy (own_words s hex can)))
                            ((word_tested (codes "begin") refl, tt), tt)),
                      ),
                    ),
                  ),
                ),
              ),
            ),
          ),
        ),
      ),
    )

-- the text that is written for a script reads as it
pub reads_what_is_written : ReadsWhatIsWritten
unfolding script_or_fault
reads_what_is_written hex s can =
    let few : s.config.cpus ≤ 16 = can.range.cpus.1 in
    let words : List (List (List ℕ)) = map (line_words hex) s.lines in
    let are : AllByRecursion AreWords (header_words hex s.config ++ words) =
    all_append AreWords (header_words hex s.config) words (header_are_words hex s can) (commands_words hex s.config.cpus s.lines few can.cpus can.directives) in
    ap (λ (lines : List (List ℕ)). ok_of (of_lines lines)) (lines_again (header_words hex s.config ++ words) are)
    ∙ ap (λ (r : Result Begun ScriptFault). ok_of (of_header r)) (header_again hex s can words)
    ∙ ap (λ (r : Result (List ReadLine) ScriptFault). ok_of (of_commands s.config r)) (commands_again hex s.config.cpus (length (header_words hex s.config) + 1) s.lines few can.counts can.cpus can.directives)
  where
    of_commands : Config → Result (List ReadLine) ScriptFault → Result ReadScript ScriptFault
    of_commands config r = r >>= (λ lines. Ok (record { config = config; lines = lines }))

    of_header : Result Begun ScriptFault → Result ReadScript ScriptFault
    of_header r = r >>= (λ h. of_commands h.config (commands_in h.config.cpus h.number h.rest))

    of_lines : List (List ℕ) → Result ReadScript ScriptFault
    of_lines lines = behind_first lines >>= (λ more. of_header (header_in 2 0 default_config more))
