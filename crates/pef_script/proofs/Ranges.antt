-- What the configuration lines set is in its ranges.
use Rattle.std.proofs.Common.{◌≡◌, inl, inr, option_and_then, ℕ, zero, suc, ◌+◌, ◌-◌, ◌*◌, ◌^◌, ◌<◌, ◌≤◌, ◌==◌, Bool, true, false, cond, List, [], ◌∷◌, ◌++◌, length, map, drop, replicate, get_or, refl, ap, sym, subst, ◌∙◌, arith, Some, None, Ok, rules}
use Rattle.std.specs.Prelude.{slice_get, slice_index, nat_lt, All, if◌then◌else◌}
use Rattle.std.specs.List.{find, count_by, AllByRecursion}
use Rattle.std.specs.List.Sorted.{IsStrictlyIncreasing, IsNonDecreasing}
use Rattle.std.proofs.lemmas.Bool.{ltb-true, cases_lt, ne_eqb}
use Rattle.std.proofs.lemmas.Bool.Decides.{nat_tests}
use Rattle.std.proofs.lemmas.List.{map-append, length-map, length-append, length-drop, get_or_append_left}
use Rattle.std.proofs.Math.Seq.{get_or-append_seam}
use Rattle.std.proofs.lemmas.List.Elements.{All-push, All-nil}
use Rattle.std.proofs.lemmas.List.Sums.{sum_by-cons, sum_by-append}
use Rattle.std.proofs.lemmas.Option.{cond_some, option_and_then_some}
use Rattle.hex.specs.Hex.{IsBytes, decode_sized}
use Rattle.hex.proofs.HexLemmas.{decode_sized-ok, decode_sized-twice, decode_of-ok}
use Rattle.pef_model.specs.declared.config.Config.{Config}
use Rattle.pef_model.specs.declared.config.EntropyWord.{EntropyWord}
use Rattle.pef_model.specs.Plan.{IsWithin, IsInRange, default_config}
use Rattle.pef_model.specs.Words.{number_in}
use Rattle.pef_model.proofs.Lists.{all_append}
use Rattle.pef_script.specs.declared.fault.Cause.TheVariants as cause
use Rattle.pef_script.specs.declared.setting.Setting.{Setting}
use Rattle.pef_script.specs.declared.setting.Setting.TheVariants as s
use Rattle.pef_script.specs.declared.setting.Header.{Header}
use Rattle.pef_script.specs.Cause.{◌>>=◌, or_fault, first}
use Rattle.pef_script.specs.Token.{pair_in}
use Rattle.pef_script.specs.Setting.{Form, form, form_of, settings, setting_from, setting_in, size_in, rises, born_set, vault_in, seal_set, key_in, key_set, entropy_set, all_pairs, guest_or_none, last_guest, words_in, within}
use Rattle.pef_script.specs.Written.{AreSecrets}
use Rattle.pef_script.proofs.Results.{bind_ok, or_ok, ok_is, same_Ok, within_is, within_same, option_map_some}
use Rattle.pef_script.proofs.ReadWords.{pair_fits}

-- a number that a line sets is in its range
pub size_within : (least greatest n : ℕ) (operands : List (List ℕ)) → size_in least greatest operands ≡ Ok n → IsWithin least greatest n
unfolding size_in
size_within least greatest n operands e = bind_ok _ _ n e (λ m is tested. within_is least greatest m n (or_ok cause.Range _ n tested))

-- the last of some numbers and one more, which is above it
pub rises_push : (ns : List ℕ) (n : ℕ) → IsStrictlyIncreasing ns → slice_index ns (length ns - 1) < n → IsStrictlyIncreasing (ns ++ n ∷ [])
rises_push ns n rises last k h =
    let all = length-append ns (n ∷ []) in
    elim (cases_lt (k + 1) (length ns)) [
      | inl below ↦
          rw (get_or_append_left ns (n ∷ []) 0 k (omega arith), get_or_append_left ns (n ∷ []) 0 (k + 1) below) (rises k below)
      | inr above ↦
          let end : k + 1 ≡ length ns = omega (arith, all) in
          let before : length ns - 1 ≡ k = omega (arith, end) in
          let is : get_or ns k 0 < n = subst (λ (i : ℕ). get_or ns i 0 < n) before last in
          let seam : get_or (ns ++ n ∷ []) (k + 1) 0 ≡ n = ap (λ (i : ℕ). get_or (ns ++ n ∷ []) i 0) end ∙ get_or-append_seam ns n [] 0 in
          rw (get_or_append_left ns (n ∷ []) 0 k (omega (arith, end)), seam) is
    ]

-- numbers that don't fall, and one more that is no less than each
pub falls_not_push : (ns : List ℕ) (n : ℕ) → IsNonDecreasing ns → ((k : ℕ) → k < length ns → slice_index ns k ≤ n) → IsNonDecreasing (ns ++ n ∷ [])
falls_not_push ns n rise most i j d first within =
    let all = length-append ns (n ∷ []) in
    elim (cases_lt j (length ns)) [
      | inl below ↦ rw (get_or_append_left ns (n ∷ []) d i (omega arith), get_or_append_left ns (n ∷ []) d j below) (rise i j d first below)
      | inr above ↦
          let end : j ≡ length ns = omega (arith, all) in
          let seam : get_or (ns ++ n ∷ []) j d ≡ n = ap (λ (i : ℕ). get_or (ns ++ n ∷ []) i d) end ∙ get_or-append_seam ns n [] d in
          elim (cases_lt i (length ns)) [
            | inl lower ↦ rw (seam, get_or_append_left ns (n ∷ []) d i lower) (subst (λ (x : ℕ). x ≤ n) (default_is ns i d lower) (most i lower))
            | inr top ↦
                let same : i ≡ length ns = omega (arith, first, end) in
                let own : get_or (ns ++ n ∷ []) i d ≡ n = ap (λ (i : ℕ). get_or (ns ++ n ∷ []) i d) same ∙ get_or-append_seam ns n [] d in
                rw (seam, own) (omega arith)
          ]
    ]
  where
    default_is : (xs : List ℕ) (i d : ℕ) → i < length xs → get_or xs i 0 ≡ get_or xs i d
    default_is [] i d h = absurd (omega arith)
    default_is (x ∷ xs) zero d h = refl
    default_is (x ∷ xs) (suc i) d h = default_is xs i d (omega arith)

-- an entropy word whose numbers are below 2^64
abbrev WordFits : EntropyWord → Type 0
WordFits word = (word.left < 2 ^ 64) × (word.right < 2 ^ 64)

-- the guest of an entropy word
abbrev pub guest : EntropyWord → ℕ
guest word = word.lpid

-- how many words are a guest's
abbrev pub count_of : ℕ → List EntropyWord → ℕ
count_of lpid words = count_by (λ (word : EntropyWord). word.lpid == lpid) words

-- one more word counts where it is the guest's
count_push : (lpid : ℕ) (words : List EntropyWord) (word : EntropyWord) → count_of lpid (words ++ word ∷ []) ≡ count_of lpid words + cond (word.lpid == lpid) 1 0
count_push lpid words word =
    let both = sum_by-append (λ (w : EntropyWord). cond (w.lpid == lpid) 1 0) words (word ∷ []) in
    omega (arith, both)

-- words of guests up to one, that guest's own so many at most with those that are left
record AreWords (guests lpid left : ℕ) (words : List EntropyWord) : Type 0 where
  within : All (λ (word : EntropyWord). IsWithin 1 guests word.lpid) words
  rise : IsNonDecreasing (map guest words)
  last : (k : ℕ) → k < length words → slice_index (map guest words) k ≤ lpid
  few : (other : ℕ) → count_of other words ≤ 64
  own : count_of lpid words + left ≤ 64

-- one more word of that guest
words_push : (guests lpid left : ℕ) (words : List EntropyWord) (word : EntropyWord) → word.lpid ≡ lpid → IsWithin 1 guests lpid → AreWords guests lpid (suc left) words →
    AreWords guests lpid left (words ++ word ∷ [])
words_push guests lpid left words word same within are = record {
  within = All-push (λ (w : EntropyWord). IsWithin 1 guests w.lpid) words word are.within (subst (IsWithin 1 guests) (sym same) within);
  rise =
      subst IsNonDecreasing (sym mapped)
      (falls_not_push (map guest words) word.lpid are.rise (λ k h. subst (λ (n : ℕ). slice_index (map guest words) k ≤ n) (sym same) (are.last k (omega (arith, h, size)))));
  last = last_by;
  few = few_by;
  own = omega (arith, are.own, counted, count_push lpid words word);
}
  where
    mapped : map guest (words ++ word ∷ []) ≡ map guest words ++ word.lpid ∷ []
    mapped = map-append guest words (word ∷ [])

    size : length (map guest words) ≡ length words
    size = length-map words guest

    counted : cond {A = ℕ} (word.lpid == lpid) 1 0 ≤ 1
    counted = grind (arith, nat_tests)

    last_by : (k : ℕ) → k < length (words ++ word ∷ []) → slice_index (map guest (words ++ word ∷ [])) k ≤ lpid
    last_by k h = elim (cases_lt k (length words)) [
      | inl below ↦
          let at : slice_index (map guest (words ++ word ∷ [])) k ≡ slice_index (map guest words) k =
          ap (λ (ns : List ℕ). slice_index ns k) mapped ∙ get_or_append_left (map guest words) (word.lpid ∷ []) 0 k (omega (arith, below, size)) in
          omega (arith, at, are.last k below)
      | inr above ↦
          let end : k ≡ length (map guest words) = omega (arith, length-append words (word ∷ []), h, above, size) in
          let at : slice_index (map guest (words ++ word ∷ [])) k ≡ word.lpid =
          ap (λ (ns : List ℕ). slice_index ns k) mapped ∙ ap (λ (i : ℕ). slice_index (map guest words ++ word.lpid ∷ []) i) end ∙ get_or-append_seam (map guest words) word.lpid [] 0 in
          omega (arith, at, same)
    ]

    few_by : (other : ℕ) → count_of other (words ++ word ∷ []) ≤ 64
    few_by other = few_of (word.lpid == other) refl
      where
        few_of : (b : Bool) → (word.lpid == other) ≡ b → count_of other (words ++ word ∷ []) ≤ 64
        few_of false differs = omega (arith, count_push other words word ∙ ap (λ (b : Bool). count_of other words + cond b 1 0) differs, are.few other)
        few_of true same_guest =
            let is : lpid ≡ other = grind (arith, nat_tests, same_guest, same) in
            let own : count_of other words + suc left ≤ 64 = subst (λ (n : ℕ). count_of n words + suc left ≤ 64) is are.own in
            omega (arith, count_push other words word ∙ ap (λ (b : Bool). count_of other words + cond b 1 0) same_guest, own)

-- the words of a line are of its guest
words_are : (guests lpid left : ℕ) (tokens : List (List ℕ)) (words all : List EntropyWord) → length tokens ≤ left → IsWithin 1 guests lpid → AreWords guests lpid left words →
    words_in words lpid tokens ≡ Ok all → AreWords guests lpid 0 all
words_are guests lpid left [] words all few within are e =
    subst (AreWords guests lpid 0) (same_Ok words all e)
    (record { within = are.within; rise = are.rise; last = are.last; few = are.few; own = omega (arith, are.own) })
words_are guests lpid zero (token ∷ more) words all few within are e = absurd (omega (arith, few))
words_are guests lpid (suc left) (token ∷ more) words all few within are e =
    bind_ok (or_fault cause.Number (pair_in token)) _ all e (λ pair is rest.
    words_are guests lpid left more (words ++ record { lpid = lpid; left = pair.left; right = pair.right } ∷ []) all (omega (arith, few)) within
    (words_push guests lpid left words (record { lpid = lpid; left = pair.left; right = pair.right }) refl within are) rest)

-- the guest at a place
pub guest_at : (words : List EntropyWord) (k : ℕ) → guest_or_none (slice_get words k) ≡ slice_index (map guest words) k
guest_at [] zero = refl
guest_at [] (suc k) = refl
guest_at (word ∷ words) zero = refl
guest_at (word ∷ words) (suc k) = guest_at words k

-- a guest above all others has no word
none_of : (lpid : ℕ) (words : List EntropyWord) → ((k : ℕ) → k < length words → slice_index (map guest words) k < lpid) → count_of lpid words ≡ 0
none_of lpid [] below = refl
none_of lpid (word ∷ words) below =
    let first : word.lpid < lpid = below 0 (omega arith) in
    let other : (word.lpid == lpid) ≡ false = ne_eqb word.lpid lpid (λ e. absurd (omega (arith, e, first))) in
    let rest : count_of lpid words ≡ 0 = none_of lpid words (λ k h. below (suc k) (omega (arith, h))) in
    let own : cond {A = ℕ} (word.lpid == lpid) 1 0 ≡ 0 = ap (λ (b : Bool). cond b 1 0) other in
    omega (arith, sum_by-cons (λ (w : EntropyWord). cond (w.lpid == lpid) 1 0) word words, own, rest)

-- a configuration so far, where the lines from a place on may come: while guests may still be counted, none has a line of its own
pub record IsSettled (place : ℕ) (config : Config) : Type 0 where
  pub range : IsInRange config
  pub none : place ≤ 4 → (config.born ≡ []) × (config.entropy ≡ [])
  pub secrets : AreSecrets config.key config.entropy

zeros : (n i : ℕ) → get_or (replicate n 0) i 0 < 256
zeros zero i = omega arith
zeros (suc n) zero = omega arith
zeros (suc n) (suc i) = zeros n i

-- at first
pub first_settled : IsSettled 0 default_config
first_settled = record { range = search rules; none = λ early. (refl, refl); secrets = record { size = refl; bytes = zeros 32; fit = tt } }

-- the place of a line
abbrev pub index : Setting → ℕ
index s.Shift = 0
index s.Normal = 1
index s.Secure = 2
index s.Cpus = 3
index s.Guests = 4
index s.Vcpus = 5
index s.Pages = 6
index s.Seal = 7
index s.Key = 8
index s.Born = 9
index s.Entropy = 10

-- lines that have their places from one on
abbrev Indexed : ℕ → List Setting → Type 0
Indexed k [] = Unit {0}
Indexed k (setting ∷ more) = (index setting ≡ k) × Indexed (suc k) more

-- the lines do
settings_indexed : Indexed 0 settings
settings_indexed = search rules

-- what is found from a place on stands there or behind
found_behind : (test : Setting → Bool) (place k : ℕ) (xs : List Setting) (setting : Setting) → Indexed k xs → find test (drop place xs) ≡ Some setting → place + k ≤ index setting
found_behind test zero k [] setting at e = absurd (cc)
found_behind test (suc place) k [] setting at e = absurd (cc)
found_behind test (suc place) k (x ∷ xs) setting at e = omega (arith, found_behind test place (suc k) xs setting at.1 e)
found_behind test zero k (x ∷ xs) setting at e = omega (arith, by_test (λ later. omega (arith, found_behind test zero (suc k) xs setting at.1 later)) (test x) refl)
  where
    by_test : (find test xs ≡ Some setting → suc k ≤ index setting) → (b : Bool) → test x ≡ b → k ≤ index setting
    by_test rest true passes =
        let here : cond true (Some x) (find test xs) ≡ Some setting = sym (ap (λ (b : Bool). cond b (Some x) (find test xs)) passes) ∙ e in
        let is : x ≡ setting = cc in
        omega (arith, at.0, ap index is)
    by_test rest false fails =
        let later : find test xs ≡ Some setting = sym (ap (λ (b : Bool). cond b (Some x) (find test xs)) fails) ∙ e in
        omega (arith, rest later)

-- a line with one number
sized_settles : (next least greatest : ℕ) (set : Config → ℕ → Config) (config after : Config) (operands : List (List ℕ)) →
    ((n : ℕ) → IsWithin least greatest n → IsSettled next (set config n)) → (size_in least greatest operands >>= (λ n. Ok (set config n))) ≡ Ok after → IsSettled next after
sized_settles next least greatest set config after operands settles e =
    bind_ok (size_in least greatest operands) _ after e (λ n is tested. subst (IsSettled next) (same_Ok _ _ tested) (settles n (size_within least greatest n operands is)))

-- the line `born`
born_settles : (config after : Config) (operands : List (List ℕ)) → IsInRange config → AreSecrets config.key config.entropy → born_set config operands ≡ Ok after → IsSettled 9 after
unfolding born_set
born_settles config after operands range secrets e =
    bind_ok (size_in 1 config.guests operands) _ after e (λ n is tested.
    bind_ok (or_fault cause.Range (if rises config.born n then Some n else None)) _ after tested (λ lpid above set.
    let found = cond_some (rises config.born n) n lpid (or_ok cause.Range _ lpid above) in
    let within : IsWithin 1 config.guests lpid = subst (IsWithin 1 config.guests) found.1 (size_within 1 config.guests n operands is) in
    let last : slice_index config.born (length config.born - 1) < lpid = subst (λ (m : ℕ). slice_index config.born (length config.born - 1) < m) found.1 (ltb-true _ n found.0) in
    let born = All-push (IsWithin 1 config.guests) config.born lpid range.born within in
    let rises = rises_push config.born lpid range.rises last in
    let settled : IsSettled 9 (record config { born = config.born ++ lpid ∷ [] }) = record { range = assumption; none = λ early. absurd (omega (arith, early)); secrets = secrets } in
    subst (IsSettled 9) (same_Ok _ _ set) settled))

-- the line `seal`
seal_settles : (config after : Config) (operands : List (List ℕ)) → IsInRange config → AreSecrets config.key config.entropy → seal_set config operands ≡ Ok after → IsSettled 8 after
seal_settles config after operands range secrets e =
    bind_ok (or_fault cause.Word (option_and_then vault_in (first operands))) _ after e (λ vault is set.
    let settled : IsSettled 8 (record config { vault = vault }) = record { range = assumption; none = λ early. absurd (omega (arith, early)); secrets = secrets } in
    subst (IsSettled 8) (same_Ok _ _ set) settled)

-- a key that is read has 32 bytes
key_bytes : (token key : List ℕ) → decode_sized token 32 ≡ Ok key → (length key ≡ 32) × IsBytes key
key_bytes token key e =
    let size : length token ≡ 2 * 32 = decode_sized-ok token 32 key e in
    let facts = decode_of-ok token key (sym (decode_sized-twice token 32 size) ∙ e) in
    let twice : length token ≡ 2 * length key = facts.2 in
    (omega (arith, size, twice), facts.3)

-- the line `key`
key_settles : (config after : Config) (operands : List (List ℕ)) → IsInRange config → AreSecrets config.key config.entropy → key_set config operands ≡ Ok after → IsSettled 9 after
unfolding key_set
key_settles config after operands range secrets e =
    bind_ok (or_fault cause.Number (option_and_then key_in (first operands))) _ after e (λ (key : List ℕ) is set.
    option_and_then_some key_in (first operands) key (or_ok cause.Number _ key is) (λ token given found.
    let bytes = key_bytes token key (ok_is (decode_sized token 32) key found) in
    let settled : IsSettled 9 (record config { key = key }) = record { range = assumption; none = λ early. absurd (omega (arith, early)); secrets = record { size = bytes.0; bytes = bytes.1; fit = secrets.fit } } in
    subst (IsSettled 9) (same_Ok _ _ set) settled))

-- the words before a line of a guest above all that have words
words_before : (config : Config) (lpid : ℕ) → IsInRange config → last_guest config.entropy < lpid → AreWords config.guests lpid 64 config.entropy
words_before config lpid range last = record {
  within = range.entropy;
  rise = range.words_rise;
  last = λ k h. omega (arith, below k h);
  few = range.words;
  own = omega (arith, none_of lpid config.entropy below);
}
  where
    below : (k : ℕ) → k < length config.entropy → slice_index (map guest config.entropy) k < lpid
    below k h =
        let size = length-map config.entropy guest in
        let top = guest_at config.entropy (length config.entropy - 1) in
        let most = range.words_rise k (length config.entropy - 1) 0 (omega (arith, h)) (omega (arith, h, size)) in
        omega (arith, top, most, last)

-- the numbers of words that are read
words_fit : (lpid : ℕ) (tokens : List (List ℕ)) (words all : List EntropyWord) → AllByRecursion WordFits words → words_in words lpid tokens ≡ Ok all → AllByRecursion WordFits all
words_fit lpid [] words all fit e = subst (AllByRecursion WordFits) (same_Ok words all e) fit
words_fit lpid (token ∷ more) words all fit e =
    bind_ok (or_fault cause.Number (pair_in token)) _ all e (λ pair is rest.
    let small = pair_fits token pair (or_ok cause.Number _ pair is) in
    words_fit lpid more (words ++ record { lpid = lpid; left = pair.left; right = pair.right } ∷ []) all (all_append WordFits words _ fit (small, tt)) rest)

-- the line `entropy`
entropy_settles : (config after : Config) (operands : List (List ℕ)) → length operands ≤ 65 → IsInRange config → AreSecrets config.key config.entropy → entropy_set config operands ≡ Ok after → IsSettled 10 after
unfolding entropy_set
entropy_settles config after operands few range secrets e =
    bind_ok (or_fault cause.Number (option_and_then number_in (first operands))) _ after e (λ n named e1.
    bind_ok (or_fault cause.Number (if all_pairs (drop 1 operands) then Some n else None)) _ after e1 (λ m all e2.
    bind_ok (or_fault cause.Range (within 1 config.guests n)) _ after e2 (λ own within e3.
    bind_ok (or_fault cause.Range (if nat_lt (last_guest config.entropy) own then Some own else None)) _ after e3 (λ lpid above e4.
    bind_ok (words_in config.entropy lpid (drop 1 operands)) _ after e4 (λ words read set.
    let found = cond_some (nat_lt (last_guest config.entropy) own) own lpid (or_ok cause.Range _ lpid above) in
    let is : IsWithin 1 config.guests lpid = subst (IsWithin 1 config.guests) found.1 (within_is 1 config.guests n own (or_ok cause.Range _ own within)) in
    let last : last_guest config.entropy < lpid = subst (λ (k : ℕ). last_guest config.entropy < k) found.1 (ltb-true _ own found.0) in
    let are = words_are config.guests lpid 64 (drop 1 operands) config.entropy words (omega (arith, length-drop 1 operands, few)) is (words_before config lpid range last) read in
    let entropy = are.within in
    let words_rise = are.rise in
    let counts = are.few in
    let settled : IsSettled 10 (record config { entropy = words }) = record { range = assumption; none = λ early. absurd (omega (arith, early)); secrets = record { size = secrets.size; bytes = secrets.bytes; fit = words_fit lpid (drop 1 operands) config.entropy words secrets.fit read } } in
    subst (IsSettled 10) (same_Ok _ _ set) settled)))))

-- what a line sets leaves a configuration in its ranges
pub set_settles : (setting : Setting) (place : ℕ) (config after : Config) (operands : List (List ℕ)) → place ≤ index setting → length operands ≤ (form setting).many → IsSettled place config →
    (form setting).set config operands ≡ Ok after → IsSettled (form setting).next after
set_settles s.Shift place config after operands at few settled e =
    sized_settles 1 8 16 (λ (c : Config) (n : ℕ). record c { shift = n }) config after operands (λ n within. let range = settled.range in record { range = assumption; none = λ early. settled.none (omega (arith, at)); secrets = settled.secrets }) e
set_settles s.Normal place config after operands at few settled e =
    sized_settles 2 1 1024 (λ (c : Config) (n : ℕ). record c { normal = n }) config after operands (λ n within. let range = settled.range in record { range = assumption; none = λ early. settled.none (omega (arith, at)); secrets = settled.secrets }) e
set_settles s.Secure place config after operands at few settled e =
    sized_settles 3 1 1024 (λ (c : Config) (n : ℕ). record c { secure = n }) config after operands (λ n within. let range = settled.range in record { range = assumption; none = λ early. settled.none (omega (arith, at)); secrets = settled.secrets }) e
set_settles s.Cpus place config after operands at few settled e =
    sized_settles 4 1 16 (λ (c : Config) (n : ℕ). record c { cpus = n }) config after operands (λ n within. let range = settled.range in record { range = assumption; none = λ early. settled.none (omega (arith, at)); secrets = settled.secrets }) e
set_settles s.Guests place config after operands at few settled e =
    let none = settled.none at in
    let born : (n : ℕ) → All (IsWithin 1 n) config.born = λ n. subst (All (IsWithin 1 n)) (sym none.0) (All-nil (IsWithin 1 n)) in
    let entropy : (n : ℕ) → All (λ (word : EntropyWord). IsWithin 1 n word.lpid) config.entropy =
    λ n. subst (All (λ (word : EntropyWord). IsWithin 1 n word.lpid)) (sym none.1) (All-nil (λ (word : EntropyWord). IsWithin 1 n word.lpid)) in
    sized_settles 5 1 16 (λ (c : Config) (n : ℕ). record c { guests = n }) config after operands (λ n within. let range = settled.range in let own = born n in let words = entropy n in
    record { range = assumption; none = λ early. none; secrets = settled.secrets }) e
set_settles s.Vcpus place config after operands at few settled e =
    sized_settles 6 1 8 (λ (c : Config) (n : ℕ). record c { vcpus = n }) config after operands (λ n within. let range = settled.range in record { range = assumption; none = λ early. absurd (omega (arith, early)); secrets = settled.secrets }) e
set_settles s.Pages place config after operands at few settled e =
    sized_settles 7 1 1024 (λ (c : Config) (n : ℕ). record c { pages = n }) config after operands (λ n within. let range = settled.range in record { range = assumption; none = λ early. absurd (omega (arith, early)); secrets = settled.secrets }) e
set_settles s.Seal place config after operands at few settled e = seal_settles config after operands settled.range settled.secrets e
set_settles s.Key place config after operands at few settled e = key_settles config after operands settled.range settled.secrets e
set_settles s.Born place config after operands at few settled e = born_settles config after operands settled.range settled.secrets e
set_settles s.Entropy place config after operands at few settled e = entropy_settles config after operands few settled.range settled.secrets e

-- a configuration line leaves it so
pub setting_settles : (place : ℕ) (config : Config) (tokens : List (List ℕ)) (header : Header) → IsSettled place config → setting_in place config tokens ≡ Ok header → IsSettled header.place header.config
unfolding setting_in setting_from
setting_settles place config tokens header settled e =
    bind_ok (or_fault cause.Word (form_of place tokens)) _ header e (λ (f : Form) named e1.
    bind_ok (or_fault cause.Word (if f.knows (drop 1 tokens) then Some f else None)) _ header e1 (λ (g : Form) known e2.
    bind_ok (or_fault cause.Count (within f.few f.many (length (drop 1 tokens)))) _ header e2 (λ (count : ℕ) counted e3.
    bind_ok (f.set config (drop 1 tokens)) _ header e3 (λ (after : Config) set last.
    by_name f (or_ok cause.Word _ f named) count (within_is f.few f.many _ count (or_ok cause.Count _ count counted)).1 (within_same f.few f.many _ count (or_ok cause.Count _ count counted)) after set (same_Ok _ _ last)))))
  where
    by_name : (f : Form) → form_of place tokens ≡ Some f → (count : ℕ) → count ≤ f.many → length (drop 1 tokens) ≡ count → (after : Config) → f.set config (drop 1 tokens) ≡ Ok after →
        record { config = after; place = f.next } ≡ header → IsSettled header.place header.config
    by_name f named count few same after set last =
        option_and_then_some _ (first tokens) f named (λ name is found. option_map_some form (setting_from place name) f found (λ setting at form_is.
        subst (λ (h : Header). IsSettled h.place h.config) last
        (subst (λ (g : Form). IsSettled g.next after) form_is
        (set_settles setting place config after (drop 1 tokens) (omega (arith, found_behind _ place 0 settings setting settings_indexed at))
        (omega (arith, same, few, ap (λ (g : Form). g.many) form_is)) settled (ap (λ (g : Form). g.set config (drop 1 tokens)) form_is ∙ set)))))
