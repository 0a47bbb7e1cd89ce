-- The configuration lines that are written are read again.
use Rattle.std.proofs.Common.{◌≡◌, ◌≤◌, ◌<◌, ℕ, ◌+◌, ◌-◌, ◌^◌, Bool, true, false, List, [], ◌∷◌, ◌++◌, length, map, get_or, refl, ap, ◌∙◌, sym, subst, arith, append_assoc, append-nil, suc, Some, Ok}
use Rattle.std.specs.Prelude.{All, codes, slice_index}
use Rattle.std.specs.List.{join_with_byte, AllByRecursion}
use Rattle.std.specs.List.Sorted.{IsStrictlyIncreasing}
use Rattle.std.proofs.lemmas.Bool.{le-leb, lt-ltb}
use Rattle.std.proofs.lemmas.List.{map-append, length-map, length-append}
use Rattle.std.proofs.lemmas.List.Elements.{All-head, All-tail}
use Rattle.std.proofs.Math.Seq.{get_or-append_seam}
use Rattle.hex.specs.Hex.{IsBytes, encode_lower}
use Rattle.hex.proofs.HexLemmas.{decode_sized-encode_lower}
use Rattle.pef_model.specs.declared.config.Config.{Config}
use Rattle.pef_model.specs.declared.config.EntropyWord.{EntropyWord}
use Rattle.pef_model.specs.Plan.{IsWithin}
use Rattle.pef_script.specs.declared.setting.Setting.TheVariants as s
use Rattle.pef_script.specs.Setting.{Form, form, form_of, setting_from, setting_in, size_in, sized, within, born_set, key_set, entropy_set, all_pairs, last_guest, words_in}
use Rattle.pef_script.specs.Script.{header_in}
use Rattle.pef_script.specs.Written.{number_text, pair_text, seal_text, GuestWords, born_words, entropy_words}
use Rattle.pef_script.proofs.Ranges.{guest, guest_at}
use Rattle.pef_script.proofs.WrittenWords.{IsWord, is_word, word_tested, number_word, number_reads}
use Rattle.pef_script.proofs.WrittenLines.{pair_reads, pair_word}
use Rattle.pef_script.proofs.WrittenText.{AreWords, set_line}
use Rattle.pef_script.proofs.WrittenGuests.{words_of, RiseFrom, AreGuests, IsOwn}

-- a line of a form and its operands
setting_reads : (place : ℕ) (config after : Config) (f : Form) (name : List ℕ) (operands : List (List ℕ)) → form_of place (name ∷ operands) ≡ Some f → f.knows operands ≡ true →
    within f.few f.many (length operands) ≡ Some (length operands) → f.set config operands ≡ Ok after → setting_in place config (name ∷ operands) ≡ Ok (record { config = after; place = f.next })
unfolding setting_in
setting_reads place config after f name operands named known counted set = rw (named, known, counted, set) refl

-- a line with one operand sets what it says
pub line_sets : (number place : ℕ) (config after : Config) (f : Form) (name word : List ℕ) (more : List (List ℕ)) → is_word name ≡ true → IsWord word → form_of place (name ∷ word ∷ []) ≡ Some f →
    f.knows (word ∷ []) ≡ true → within f.few f.many 1 ≡ Some 1 → f.set config (word ∷ []) ≡ Ok after →
    header_in number place config (join_with_byte 32 (name ∷ word ∷ []) ∷ more) ≡ header_in (number + 1) f.next after more
line_sets number place config after f name word more test is named known counted set =
    set_line number place config name (word ∷ []) more (record { config = after; place = f.next }) (word_tested name test, (is, tt)) refl (setting_reads place config after f name (word ∷ []) named known counted set)

-- a size is set
pub size_sets : (hex : Bool) (number place next least greatest n : ℕ) (set : Config → ℕ → Config) (config : Config) (name : List ℕ) (more : List (List ℕ)) → n < 2 ^ 64 → IsWithin least greatest n → is_word name ≡ true →
    form_of place (name ∷ number_text hex n ∷ []) ≡ Some (sized name next least greatest set) →
    header_in number place config (join_with_byte 32 (name ∷ number_text hex n ∷ []) ∷ more) ≡ header_in (number + 1) next (set config n) more
unfolding size_in
size_sets hex number place next least greatest n set config name more fits in_range test named =
    line_sets number place config (set config n) (sized name next least greatest set) name (number_text hex n) more test (number_word hex n fits) named refl refl
    (rw (number_reads hex n fits, le-leb least n in_range.0, le-leb n greatest in_range.1) refl)

-- the seal is set
pub seal_sets : (number : ℕ) (config : Config) (vault : Bool) (more : List (List ℕ)) →
    header_in number 7 config (join_with_byte 32 (codes "seal" ∷ seal_text vault ∷ []) ∷ more) ≡ header_in (number + 1) 8 (record config { vault = vault }) more
unfolding setting_from
seal_sets number config true more = line_sets number 7 config (record config { vault = true }) (form s.Seal) (codes "seal") (codes "vault") more refl (word_tested (codes "vault") refl) refl refl refl refl
seal_sets number config false more = line_sets number 7 config (record config { vault = false }) (form s.Seal) (codes "seal") (codes "stream") more refl (word_tested (codes "stream") refl) refl refl refl refl

-- the key is set
pub key_sets : (number : ℕ) (config : Config) (key : List ℕ) (more : List (List ℕ)) → length key ≡ 32 → IsBytes key → IsWord (encode_lower key) →
    header_in number 8 config (join_with_byte 32 (codes "key" ∷ encode_lower key ∷ []) ∷ more) ≡ header_in (number + 1) 9 (record config { key = key }) more
unfolding setting_from key_set
key_sets number config key more size bytes word =
    line_sets number 8 config (record config { key = key }) (form s.Key) (codes "key") (encode_lower key) more refl word refl refl refl (rw (decode_sized-encode_lower key 32 size bytes) refl)

-- guests above one that rise, of so many
abbrev pub Rising : ℕ → ℕ → List ℕ → Type 0
Rising guests last [] = Unit {0}
Rising guests last (n ∷ ns) = (last < n) × IsWithin 1 guests n × Rising guests n ns

pub rising_from : (guests last : ℕ) (ns : List ℕ) → IsStrictlyIncreasing (last ∷ ns) → All (IsWithin 1 guests) ns → Rising guests last ns
rising_from guests last [] rises all = tt
rising_from guests last (n ∷ ns) rises all = (
  rises 0 (omega arith),
  All-head (IsWithin 1 guests) n ns all,
  rising_from guests n ns (λ k h. let one_more : suc k + 1 ≡ suc (k + 1) = omega arith in subst (λ (i : ℕ). get_or (n ∷ ns) k 0 < get_or (last ∷ n ∷ ns) i 0) one_more (rises (suc k) (omega (arith, h))))
      (All-tail (IsWithin 1 guests) n ns all),
)

-- the last of numbers and one more
last_number : (ns : List ℕ) (n : ℕ) → slice_index (ns ++ n ∷ []) (length (ns ++ n ∷ []) - 1) ≡ n
last_number ns n =
    let end : length (ns ++ n ∷ []) - 1 ≡ length ns = omega (arith, length-append ns (n ∷ [])) in
    ap (λ (i : ℕ). get_or (ns ++ n ∷ []) i 0) end ∙ get_or-append_seam ns n [] 0

-- guests are born
pub born_sets : (hex : Bool) (number : ℕ) (config : Config) (ns : List ℕ) (more : List (List ℕ)) → config.guests ≤ 16 → Rising config.guests (slice_index config.born (length config.born - 1)) ns →
    header_in number 9 config (map (join_with_byte 32) (map (born_words hex) ns) ++ more) ≡ header_in (number + length ns) 9 (record config { born = config.born ++ ns }) more
unfolding setting_from born_set size_in
born_sets hex number config [] more few rising =
    let same : config ≡ record config { born = config.born ++ [] } = ap (λ (born : List ℕ). record config { born = born }) (sym (append-nil config.born)) in
    let none : number ≡ number + 0 = omega arith in
    ap (λ (c : Config). header_in number 9 c more) same ∙ ap (λ (k : ℕ). header_in k 9 (record config { born = config.born ++ [] }) more) none
born_sets hex number config (n ∷ ns) more few rising =
    let one : Config = record config { born = config.born ++ n ∷ [] } in
    let count : number + 1 + length ns ≡ number + suc (length ns) = omega arith in
    first ∙ born_sets hex (number + 1) one ns more few (subst (λ (last : ℕ). Rising config.guests last ns) (sym (last_number config.born n)) rising.2)
    ∙ ap (λ (k : ℕ). header_in k 9 (record config { born = (config.born ++ n ∷ []) ++ ns }) more) count
    ∙ ap (λ (born : List ℕ). header_in (number + suc (length ns)) 9 (record config { born = born }) more) (append_assoc config.born (n ∷ []) ns)
  where
    fits : n < 2 ^ 64
    fits = omega (arith, few, rising.1.1)

    sets : (form s.Born).set config (number_text hex n ∷ []) ≡ Ok (record config { born = config.born ++ n ∷ [] })
    sets = rw (number_reads hex n fits, le-leb 1 n rising.1.0, le-leb n config.guests rising.1.1, lt-ltb (slice_index config.born (length config.born - 1)) n rising.0) refl

    first : header_in number 9 config (join_with_byte 32 (born_words hex n) ∷ (map (join_with_byte 32) (map (born_words hex) ns) ++ more))
        ≡ header_in (number + 1) 9 (record config { born = config.born ++ n ∷ [] }) (map (join_with_byte 32) (map (born_words hex) ns) ++ more)
    first = line_sets number 9 config (record config { born = config.born ++ n ∷ [] }) (form s.Born) (codes "born") (number_text hex n) _ refl (number_word hex n fits) refl refl refl sets

-- the pairs of words
abbrev pairs : Bool → List EntropyWord → List (List ℕ)
pairs hex words = map (λ (word : EntropyWord). pair_text hex word.left word.right) words

pairs_are : (hex : Bool) (lpid : ℕ) (words : List EntropyWord) → AllByRecursion (IsOwn lpid) words → all_pairs (pairs hex words) ≡ true
pairs_are hex lpid [] own = refl
pairs_are hex lpid (word ∷ words) own = rw (pair_reads hex word.left word.right own.0.1 own.0.2, pairs_are hex lpid words own.1) refl

pub pairs_words : (hex : Bool) (lpid : ℕ) (words : List EntropyWord) → AllByRecursion (IsOwn lpid) words → AreWords (pairs hex words)
pairs_words hex lpid [] own = tt
pairs_words hex lpid (word ∷ words) own = (pair_word hex word.left word.right own.0.1 own.0.2, pairs_words hex lpid words own.1)

-- they are read again
words_read : (hex : Bool) (front : List EntropyWord) (lpid : ℕ) (words : List EntropyWord) → AllByRecursion (IsOwn lpid) words → words_in front lpid (pairs hex words) ≡ Ok (front ++ words)
words_read hex front lpid [] own = ap (λ (ws : List EntropyWord). Ok ws) (sym (append-nil front))
words_read hex front lpid (word ∷ words) own =
    let same : record word { lpid = lpid } ≡ word = ap (λ (n : ℕ). record word { lpid = n }) (sym own.0.0) in
    rw (pair_reads hex word.left word.right own.0.1 own.0.2)
    (ap (λ (w : EntropyWord). words_in (front ++ w ∷ []) lpid (pairs hex words)) same ∙ words_read hex (front ++ word ∷ []) lpid words own.1
    ∙ ap (λ (ws : List EntropyWord). Ok ws) (append_assoc front (word ∷ []) words))

last_push : (front : List EntropyWord) (word : EntropyWord) → last_guest (front ++ word ∷ []) ≡ word.lpid
last_push front word =
    guest_at (front ++ word ∷ []) (length (front ++ word ∷ []) - 1)
    ∙ ap (λ (i : ℕ). slice_index (map guest (front ++ word ∷ [])) i) end
    ∙ ap (λ (ns : List ℕ). slice_index ns (length (map guest front))) (map-append guest front (word ∷ []))
    ∙ get_or-append_seam (map guest front) word.lpid [] 0
  where
    end : length (front ++ word ∷ []) - 1 ≡ length (map guest front)
    end = omega (arith, length-append front (word ∷ []), length-map front guest)

last_after : (front words : List EntropyWord) (lpid : ℕ) → 0 < length words → AllByRecursion (IsOwn lpid) words → last_guest (front ++ words) ≡ lpid
last_after front [] lpid some own = absurd (omega arith)
last_after front (word ∷ []) lpid some own = last_push front word ∙ own.0.0
last_after front (word ∷ next ∷ more) lpid some own =
    ap last_guest (sym (append_assoc front (word ∷ []) (next ∷ more))) ∙ last_after (front ++ word ∷ []) (next ∷ more) lpid (omega arith) own.1

-- a guest's entropy words are set
guest_sets : (hex : Bool) (number place : ℕ) (config : Config) (all : List EntropyWord) (g : GuestWords) (more : List (List ℕ)) → config.guests ≤ 16 → AreGuests config.guests all g → length g.words ≤ 64 →
    last_guest config.entropy < g.lpid → form_of place (entropy_words hex g) ≡ Some (form s.Entropy) →
    header_in number place config (join_with_byte 32 (entropy_words hex g) ∷ more) ≡ header_in (number + 1) 10 (record config { entropy = config.entropy ++ g.words }) more
unfolding entropy_set
guest_sets hex number place config all g more few are most above named =
    set_line number place config (codes "entropy") (number_text hex g.lpid ∷ pairs hex g.words) more (record { config = record config { entropy = config.entropy ++ g.words }; place = 10 })
    (word_tested (codes "entropy") refl, (number_word hex g.lpid fits, pairs_words hex g.lpid g.words are.own)) refl
    (setting_reads place config (record config { entropy = config.entropy ++ g.words }) (form s.Entropy) (codes "entropy") (number_text hex g.lpid ∷ pairs hex g.words) named refl counted sets)
  where
    fits : g.lpid < 2 ^ 64
    fits = omega (arith, few, are.within.1)

    size : length (pairs hex g.words) ≡ length g.words
    size = length-map g.words (λ (word : EntropyWord). pair_text hex word.left word.right)

    counted : within 2 65 (length (number_text hex g.lpid ∷ pairs hex g.words)) ≡ Some (length (number_text hex g.lpid ∷ pairs hex g.words))
    counted = rw (le-leb 2 (length (number_text hex g.lpid ∷ pairs hex g.words)) (omega (arith, size, are.some)), le-leb (length (number_text hex g.lpid ∷ pairs hex g.words)) 65 (omega (arith, size, most))) refl

    sets : (form s.Entropy).set config (number_text hex g.lpid ∷ pairs hex g.words) ≡ Ok (record config { entropy = config.entropy ++ g.words })
    sets = rw (number_reads hex g.lpid fits, pairs_are hex g.lpid g.words are.own, le-leb 1 g.lpid are.within.0, le-leb g.lpid config.guests are.within.1, lt-ltb (last_guest config.entropy) g.lpid above, words_read hex config.entropy g.lpid g.words are.own) refl

-- the lines of entropy words are read again, and `begin` behind them
pub guests_set : (hex : Bool) (number place : ℕ) (config : Config) (all : List EntropyWord) (gs : List GuestWords) (more : List (List ℕ)) → config.guests ≤ 16 → AllByRecursion (AreGuests config.guests all) gs →
    AllByRecursion (λ (g : GuestWords). length g.words ≤ 64) gs → RiseFrom (last_guest config.entropy + 1) gs → ((g : GuestWords) → form_of place (entropy_words hex g) ≡ Some (form s.Entropy)) →
    header_in number place config (map (join_with_byte 32) (map (entropy_words hex) gs) ++ codes "begin" ∷ more)
    ≡ Ok (record { config = record config { entropy = config.entropy ++ words_of gs }; number = number + length gs + 1; rest = more })
unfolding setting_from
guests_set hex number place config all [] more few are most rise named =
    let same : config ≡ record config { entropy = config.entropy ++ [] } = ap (λ (entropy : List EntropyWord). record config { entropy = entropy }) (sym (append-nil config.entropy)) in
    let none : number + 1 ≡ number + 0 + 1 = omega arith in
    ap (λ (c : Config). Ok (record { config = c; number = number + 1; rest = more })) same
    ∙ ap (λ (k : ℕ). Ok (record { config = record config { entropy = config.entropy ++ [] }; number = k; rest = more })) none
guests_set hex number place config all (g ∷ gs) more few are most rise named =
    let one : Config = record config { entropy = config.entropy ++ g.words } in
    let last : last_guest one.entropy ≡ g.lpid = last_after config.entropy g.words g.lpid are.0.some are.0.own in
    let count : number + 1 + length gs + 1 ≡ number + suc (length gs) + 1 = omega arith in
    guest_sets hex number place config all g (map (join_with_byte 32) (map (entropy_words hex) gs) ++ codes "begin" ∷ more) few are.0 most.0 (omega (arith, rise.0)) (named g)
    ∙ guests_set hex (number + 1) 10 one all gs more few are.1 most.1 (subst (λ (n : ℕ). RiseFrom (n + 1) gs) (sym last) rise.1) (λ other. refl)
    ∙ ap (λ (k : ℕ). Ok (record { config = record config { entropy = (config.entropy ++ g.words) ++ words_of gs }; number = k; rest = more })) count
    ∙ ap (λ (entropy : List EntropyWord). Ok (record { config = record config { entropy = entropy }; number = number + suc (length gs) + 1; rest = more })) (append_assoc config.entropy g.words (words_of gs))
