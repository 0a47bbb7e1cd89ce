-- The runs of two scripts that differ in secrets alone are alike.
use Rattle.std.proofs.Common.{◌≡◌, ℕ, zero, suc, ◌==◌, ◌⊎◌, inl, inr, List, [], ◌∷◌, ◌++◌, map, reverse, length, drop, Bool, true, false, cond, refl, ap, sym, subst, ◌∙◌, arith, append_assoc, length-append}
use Rattle.std.specs.Prelude.{IsTrue}
use Rattle.std.specs.List.{filter}
use Rattle.std.proofs.Math.Seq.{drop-append_seam}
use Rattle.std.proofs.lemmas.List.{length-map, map-append}
use Rattle.std.proofs.lemmas.List.Elements.{filter-append}
use mathlib.Core.List.{reverse_aux}
use Rattle.pef_model.specs.declared.command.Directive.{Directive}
use Rattle.pef_model.specs.declared.command.Directive.TheVariants.{Once, GoAll}
use Rattle.pef_model.specs.declared.command.Cmd.{Cmd}
use Rattle.pef_model.specs.declared.command.Cmd.TheVariants.{Go}
use Rattle.pef_model.specs.Plan.{Plan, plan_of, with_entropy}
use Rattle.pef_model.specs.Event.{Event}
use Rattle.pef_model.specs.Target.{touches_cpu}
use Rattle.pef_model.specs.Cpu.{CpuPart}
use Rattle.pef_model.specs.History.{cpu_after}
use Rattle.pef_model.specs.Script.{Line}
use Rattle.pef_model.specs.Run.{entries_of, entry_after, with_directive, run_after, run_of}
use Rattle.pef_model.specs.SecretLaw.{open_cmd, open_directive}
use Rattle.pef_model.specs.Alike.{AreAlikeOpen, AllAlikeOpen, begins_sealing, SealedBytesAgree, IsAlike}
use Rattle.pef_model.specs.SeenReport.{SecretsGiveAlikeRuns, open_line, all_let_out, all_sealed}
use Rattle.pef_model.proofs.GoAll.{gos_left, ctx_at, gos, most_gos_is}
use Rattle.pef_model.proofs.Runs.{done}
use Rattle.pef_model.proofs.Deeds.{IsShut}
use Rattle.pef_model.proofs.AlikeEntries.{Same, sealings_agree, entries_shut}
use Rattle.pef_model.proofs.Views.{one_more, length_alike, one_plan, vault_is_shut}

-- alike histories have as many entries of each CPU
pub entries_alike : (n : ℕ) (past history : List Event) → AllAlikeOpen past history → entries_of n past ≡ entries_of n history
entries_alike n [] [] h = refl
entries_alike n [] (f ∷ history) h = absurd h
entries_alike n (e ∷ past) [] h = absurd h
entries_alike n (e ∷ past) (f ∷ history) h =
    by_test (touches_cpu n e) past e
    ∙ ap (λ (m : ℕ). cond (touches_cpu n e) (suc m) m) (entries_alike n past history h.1)
    ∙ ap (λ (cpu : ℕ). cond (cpu == n) (suc (entries_of n history)) (entries_of n history)) h.0.cpu
    ∙ sym (by_test (touches_cpu n f) history f) where
      by_test : (b : Bool) (xs : List Event) (x : Event) → length (cond b (x ∷ filter (touches_cpu n) xs) (filter (touches_cpu n) xs)) ≡ cond b (suc (entries_of n xs)) (entries_of n xs)
      by_test true xs x = refl
      by_test false xs x = refl

-- a list stands at the end of another
record IsEnd (xs whole : List (List ℕ)) : Type 0 where
  before : List (List ℕ)
  is : whole ≡ before ++ xs

end_before : (ys xs whole : List (List ℕ)) → IsEnd (ys ++ xs) whole → IsEnd xs whole
end_before ys xs whole end = record { before = end.before ++ ys; is = end.is ∙ sym (append_assoc end.before ys xs) }

-- two ends of one list that are as long are the same
ends_same : (xs ys whole : List (List ℕ)) → IsEnd xs whole → IsEnd ys whole → length xs ≡ length ys → xs ≡ ys
ends_same xs ys whole end other long =
    let lengths : length (end.before ++ xs) ≡ length (other.before ++ ys) = ap length (sym end.is ∙ other.is) in
    let as_long : length end.before ≡ length other.before = omega (arith, lengths, length-append end.before xs, length-append other.before ys, long) in
    sym (drop-append_seam end.before xs)
    ∙ ap (drop (length end.before)) (sym end.is ∙ other.is)
    ∙ ap (λ (n : ℕ). drop n (other.before ++ ys)) as_long
    ∙ drop-append_seam other.before ys

-- what is known of a run so far: it let out the end of one list, and sealed the end of another, or its pages are in a vault
record IsKnown (plan : Plan) (out sealed : List (List ℕ)) (past : List Event) : Type 0 where
  shown : IsEnd (all_let_out past) out
  images : IsEnd (all_sealed past) sealed ⊎ IsShut plan

let_out_append : (block past : List Event) → all_let_out (block ++ past) ≡ all_let_out block ++ all_let_out past
let_out_append [] past = refl
let_out_append (e ∷ block) past = ap (λ (xs : List (List ℕ)). e.saw.shown ∷ xs) (let_out_append block past)

sealed_append : (block past : List Event) → all_sealed (block ++ past) ≡ all_sealed block ++ all_sealed past
sealed_append block past = ap (map (λ (e : Event). e.bytes)) (filter-append begins_sealing block past) ∙ map-append (λ (e : Event). e.bytes) (filter begins_sealing block) (filter begins_sealing past)

known_before : (plan : Plan) (out sealed : List (List ℕ)) (block past : List Event) → IsKnown plan out sealed (block ++ past) → IsKnown plan out sealed past
known_before plan out sealed block past known = record {
  shown = end_before (all_let_out block) (all_let_out past) out (subst (λ (xs : List (List ℕ)). IsEnd xs out) (let_out_append block past) known.shown);
  images = by_images known.images;
} where
  by_images : IsEnd (all_sealed (block ++ past)) sealed ⊎ IsShut plan → IsEnd (all_sealed past) sealed ⊎ IsShut plan
  by_images (inl end) = inl (end_before (all_sealed block) (all_sealed past) sealed (subst (λ (xs : List (List ℕ)). IsEnd xs sealed) (sealed_append block past) end))
  by_images (inr shut) = inr shut

-- two runs so far that are alike
record AreTwins (plan : Plan) (words : ℕ → List ℕ) (past history : List Event) : Type 0 where
  same : Same plan words past history
  alike : AllAlikeOpen past history
  agree : SealedBytesAgree plan past history
  count : length (all_sealed past) ≡ length (all_sealed history)

module _ (plan : Plan) (words : ℕ → List ℕ) (out sealed : List (List ℕ)) (past history : List Event) (line other : Line) (cmd with_ : Cmd) (number : line.number ≡ other.number) (cpu : line.cpu ≡ other.cpu)
    (cmds : open_cmd cmd ≡ open_cmd with_) (twins : AreTwins plan words past history) where
  abbrev e : Event
  e = entry_after plan past line cmd

  abbrev f : Event
  f = entry_after (with_entropy plan words) history other with_

  shown_same : IsEnd (e.saw.shown ∷ all_let_out past) out → IsEnd (f.saw.shown ∷ all_let_out history) out → e.saw.shown ≡ f.saw.shown
  shown_same one two =
      let long : length (all_let_out past) ≡ length (all_let_out history) =
      length-map past (λ (x : Event). x.saw.shown) ∙ length_alike past history twins.alike ∙ sym (length-map history (λ (x : Event). x.saw.shown)) in
      let both : e.saw.shown ∷ all_let_out past ≡ f.saw.shown ∷ all_let_out history = ends_same _ _ out one two (ap suc long) in
      cc

  alike_more : IsKnown plan out sealed (e ∷ past) → IsKnown plan out sealed (f ∷ history) → AreAlikeOpen e f
  alike_more one two = record {
    line = number;
    cpu = cpu;
    place = ap (λ (n : ℕ). entries_of n past) cpu ∙ entries_alike other.cpu past history twins.alike;
    cmd = cmds;
    shown = shown_same one.shown two.shown;
  }

  bytes_by : (b c : Bool) → b ≡ c → IsEnd (map (λ (x : Event). x.bytes) (cond b (e ∷ filter begins_sealing past) (filter begins_sealing past))) sealed →
      IsEnd (map (λ (x : Event). x.bytes) (cond c (f ∷ filter begins_sealing history) (filter begins_sealing history))) sealed → b ≡ true → e.bytes ≡ f.bytes
  bytes_by true true is one two begins =
      let both : e.bytes ∷ all_sealed past ≡ f.bytes ∷ all_sealed history = ends_same _ _ sealed one two (ap suc twins.count) in
      cc
  bytes_by true false is one two begins = cc
  bytes_by false c is one two begins = cc

  count_by : (b c : Bool) → b ≡ c → length (map (λ (x : Event). x.bytes) (cond b (e ∷ filter begins_sealing past) (filter begins_sealing past)))
      ≡ length (map (λ (x : Event). x.bytes) (cond c (f ∷ filter begins_sealing history) (filter begins_sealing history)))
  count_by true true is = ap suc twins.count
  count_by true false is = cc
  count_by false true is = cc
  count_by false false is = twins.count

  -- a page-out that begins seals the same in both
  bytes_same : AreAlikeOpen e f → IsEnd (all_sealed (e ∷ past)) sealed ⊎ IsShut plan → IsEnd (all_sealed (f ∷ history)) sealed ⊎ IsShut plan → begins_sealing e ≡ true → e.bytes ≡ f.bytes
  bytes_same alike (inl one) (inl two) begins = bytes_by (begins_sealing e) (begins_sealing f) (sealings_agree plan words past history e f twins.same refl refl alike) one two begins
  bytes_same alike (inl one) (inr shut) begins = entries_shut plan words past history e f twins.same refl refl alike shut
  bytes_same alike (inr shut) two begins = entries_shut plan words past history e f twins.same refl refl alike shut

  -- a step more
  twins_more : IsKnown plan out sealed (e ∷ past) → IsKnown plan out sealed (f ∷ history) → AreTwins plan words (e ∷ past) (f ∷ history)
  twins_more one two =
      let alike : AreAlikeOpen e f = alike_more one two in
      let bytes : begins_sealing e ≡ true → e.bytes ≡ f.bytes = bytes_same alike one.images two.images in
      record {
        same = one_more plan words past history e f twins.same refl refl alike bytes;
        alike = (alike, twins.alike);
        agree = ((λ begins private. bytes begins), twins.agree);
        count = count_by (begins_sealing e) (begins_sealing f) (sealings_agree plan words past history e f twins.same refl refl alike);
      }

-- so many `go` more
gos_twins : (plan : Plan) (words : ℕ → List ℕ) (out sealed : List (List ℕ)) (n : ℕ) (past history : List Event) (line other : Line) → line.number ≡ other.number → line.cpu ≡ other.cpu → AreTwins plan words past history →
    IsKnown plan out sealed (gos plan n past line) → IsKnown plan out sealed (gos (with_entropy plan words) n history other) → AreTwins plan words (gos plan n past line) (gos (with_entropy plan words) n history other)
gos_twins plan words out sealed zero past history line other number cpu twins one two = twins
gos_twins plan words out sealed (suc n) past history line other number cpu twins one two =
    let before : AreTwins plan words (gos plan n past line) (gos (with_entropy plan words) n history other) =
    gos_twins plan words out sealed n past history line other number cpu twins (known_before plan out sealed (entry_after plan (gos plan n past line) line Go ∷ []) (gos plan n past line) one)
    (known_before plan out sealed (entry_after (with_entropy plan words) (gos (with_entropy plan words) n history other) other Go ∷ []) (gos (with_entropy plan words) n history other) two) in
    twins_more plan words out sealed (gos plan n past line) (gos (with_entropy plan words) n history other) line other Go Go number cpu refl before one two

-- the entries of a directive more: go* gives as many in both
directives_twins : (plan : Plan) (words : ℕ → List ℕ) (out sealed : List (List ℕ)) (past history : List Event) (line other : Line) (directive with_ : Directive) → line.number ≡ other.number → line.cpu ≡ other.cpu →
    open_directive directive ≡ open_directive with_ → AreTwins plan words past history → IsKnown plan out sealed (with_directive plan past line directive) →
    IsKnown plan out sealed (with_directive (with_entropy plan words) history other with_) → AreTwins plan words (with_directive plan past line directive) (with_directive (with_entropy plan words) history other with_)
directives_twins plan words out sealed past history line other (Once cmd) (Once with_) number cpu same twins one two =
    twins_more plan words out sealed past history line other cmd with_ number cpu (let cmds : open_cmd cmd ≡ open_cmd with_ = cc in cmds) twins one two
directives_twins plan words out sealed past history line other (Once cmd) GoAll number cpu same twins one two = absurd (cc)
directives_twins plan words out sealed past history line other GoAll (Once cmd) number cpu same twins one two = absurd (cc)
directives_twins plan words out sealed past history line other GoAll GoAll number cpu same twins one two =
    let n : ℕ = gos_left (ctx_at plan past line) in
    let as_many : n ≡ gos_left (ctx_at (with_entropy plan words) history other) =
    ap (λ (x : CpuPart). gos_left x.ctx) (twins.same.cpu line.cpu) ∙ ap (λ (m : ℕ). gos_left (cpu_after (with_entropy plan words) m history).ctx) cpu in
    let is = most_gos_is plan past line in
    let is_too : with_directive (with_entropy plan words) history other GoAll ≡ gos (with_entropy plan words) (suc n) history other = most_gos_is (with_entropy plan words) history other ∙ ap (λ (m : ℕ). gos (with_entropy plan words) (suc m) history other) (sym as_many) in
    let both : AreTwins plan words (gos plan (suc n) past line) (gos (with_entropy plan words) (suc n) history other) =
    gos_twins plan words out sealed (suc n) past history line other number cpu twins (subst (IsKnown plan out sealed) is one) (subst (IsKnown plan out sealed) is_too two) in
    subst (λ (xs : List Event). AreTwins plan words xs (with_directive (with_entropy plan words) history other GoAll)) (sym is) (subst (AreTwins plan words (gos plan (suc n) past line)) (sym is_too) both)

known_before_line : (plan : Plan) (out sealed : List (List ℕ)) (past : List Event) (line : Line) → IsKnown plan out sealed (with_directive plan past line line.directive) → IsKnown plan out sealed past
known_before_line plan out sealed past line known =
    let is = done plan past line line.directive in
    known_before plan out sealed is.block past (subst (IsKnown plan out sealed) is.is known)

-- the runs of lines that differ in secrets alone
lines_twins : (plan : Plan) (words : ℕ → List ℕ) (out sealed : List (List ℕ)) (xs ys : List Line) → map open_line xs ≡ map open_line ys → IsKnown plan out sealed (run_after plan xs) →
    IsKnown plan out sealed (run_after (with_entropy plan words) ys) → AreTwins plan words (run_after plan xs) (run_after (with_entropy plan words) ys)
lines_twins plan words out sealed [] [] same one two = record {
  same = record { cpu = λ n. refl; part = λ lpid. refl; pool = refl; frame = λ n. refl; seen = refl };
  alike = tt;
  agree = tt;
  count = refl;
}
lines_twins plan words out sealed [] (y ∷ ys) same one two = absurd (cc)
lines_twins plan words out sealed (x ∷ xs) [] same one two = absurd (cc)
lines_twins plan words out sealed (x ∷ xs) (y ∷ ys) same one two =
    let two_known : IsKnown (with_entropy plan words) out sealed (run_after (with_entropy plan words) (y ∷ ys)) = record { shown = two.shown; images = two.images } in
    let one_before = known_before_line plan out sealed (run_after plan xs) x one in
    let two_before = known_before_line (with_entropy plan words) out sealed (run_after (with_entropy plan words) ys) y two_known in
    let head : open_line x ≡ open_line y = cc in
    let tail : map open_line xs ≡ map open_line ys = cc in
    let before : AreTwins plan words (run_after plan xs) (run_after (with_entropy plan words) ys) =
    lines_twins plan words out sealed xs ys tail one_before (record { shown = two_before.shown; images = two_before.images }) in
    directives_twins plan words out sealed (run_after plan xs) (run_after (with_entropy plan words) ys) x y x.directive y.directive (ap (λ (l : Line). l.number) head) (ap (λ (l : Line). l.cpu) head)
    (ap (λ (l : Line). l.directive) head) before one two

map_reverse_onto : (xs ys : List Line) → map open_line (reverse_aux xs ys) ≡ reverse_aux (map open_line xs) (map open_line ys)
map_reverse_onto [] ys = refl
map_reverse_onto (x ∷ xs) ys = map_reverse_onto xs (x ∷ ys)

pub secrets_give_alike_runs : SecretsGiveAlikeRuns
secrets_give_alike_runs one other differ out images =
    let plan : Plan = plan_of one.config in
    let words : ℕ → List ℕ = (plan_of other.config).entropy in
    let history : List Event = run_after (with_entropy plan words) (reverse other.lines) in
    let is : run_of other ≡ history = ap (λ (p : Plan). run_after p (reverse other.lines)) (sym (one_plan one.config other.config differ.configs)) in
    let lines : map open_line (reverse one.lines) ≡ map open_line (reverse other.lines) =
    map_reverse_onto one.lines [] ∙ ap reverse differ.lines ∙ sym (map_reverse_onto other.lines []) in
    let known : IsKnown plan (all_let_out (run_of one)) (all_sealed (run_of one)) (run_of one) = record { shown = record { before = []; is = refl }; images = inl (record { before = []; is = refl }) } in
    let twins : AreTwins plan words (run_of one) history = lines_twins plan words (all_let_out (run_of one)) (all_sealed (run_of one)) (reverse one.lines) (reverse other.lines) lines known
    (record { shown = record { before = []; is = out ∙ ap all_let_out is }; images = by_images is images }) in
    subst (IsAlike one.config (run_of one) other.config) (sym is) (record { open_ = record { configs = differ.configs; entries = twins.alike }; sealed = twins.agree }) where
      by_images : {history : List Event} → run_of other ≡ history → (all_sealed (run_of one) ≡ all_sealed (run_of other)) ⊎ IsTrue one.config.vault →
          IsEnd (all_sealed history) (all_sealed (run_of one)) ⊎ IsShut (plan_of one.config)
      by_images is (inl same) = inl (record { before = []; is = same ∙ ap all_sealed is })
      by_images is (inr vault) = inr (vault_is_shut one.config vault)
