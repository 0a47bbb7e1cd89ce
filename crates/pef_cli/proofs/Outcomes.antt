-- What a status is worth, where the text of its line or the words are asked for.
use Rattle.std.proofs.Common.{◌≡◌, ◌≢◌, ◌↔◌, ℕ, List, [], ◌∷◌, ◌++◌, ◌∙◌, length, drop, map, codes, String, string_bytes, Result, Ok, Err, ap, sym, subst, arith}
use Rattle.std.specs.Prelude.{IfOk, OnOk, OnErr}
use Rattle.std.specs.declared.alloc.Global.{Global}
use Rattle.std.proofs.Math.Seq.{take-length}
use Rattle.pef_io.specs.Sink.{AppendsPrefix}
use Rattle.pef_top.specs.declared.outcome.RunOutcome.{RunOutcome}
use Rattle.pef_top.specs.Outcome.{plain}
use Rattle.pef_top.specs.Top.{Answers}
use Rattle.pef_cli.specs.Words.{AnswersWords}
use Rattle.pef_cli.specs.Due.{EndsAsDue, WhereAllWent}

-- a line that was put whole, or a first part of it, is a first part
pub told_part : {T E : Type 0} (r : Result T E) (old new text : List ℕ) → OnOk r (new ≡ old ++ text) → OnErr r (AppendsPrefix old new text) → AppendsPrefix old new text
told_part (Ok value) old new text all prefix = record { count = length text; within = omega arith; bytes = all ∙ ap (λ (bytes : List ℕ). old ++ bytes) (sym (take-length text)) }
told_part (Err failure) old new text all prefix = prefix

-- and one that was put without a fault is whole
pub told_whole : {T E P Q : Type 0} (r : Result T E) → OnOk r P → OnErr r Q → ¬ Q → P
told_whole (Ok value) all failed no_fault = all
told_whole (Err failure) all failed no_fault = absurd (no_fault failed)

-- the words that were given answer as their list does
pub words_answer : (args words : List (String Global)) (status : ℕ) → words ≡ drop 1 args → ((status ≡ 2) ↔ (¬ (map (λ word. string_bytes word) words ≡ codes "run" ∷ []))) → AnswersWords args status
words_answer args words status is answers = record {
  words = λ two. subst (λ (xs : List (String Global)). ¬ (map (λ word. string_bytes word) xs ≡ codes "run" ∷ [])) is (answers.0 two);
  other = λ no_run no_memory. answers.1 (subst (λ (xs : List (String Global)). ¬ (map (λ word. string_bytes word) xs ≡ codes "run" ∷ [])) (sym is) no_run);
}

-- and so where the arguments were given
pub given_words : {A E : Type 0} (args : Result A E) (items : A → List (String Global)) (words : List (String Global)) (status : ℕ) → IfOk args (λ given. words ≡ drop 1 (items given)) →
    ((status ≡ 2) ↔ (¬ (map (λ word. string_bytes word) words ≡ codes "run" ∷ []))) → IfOk args (λ given. AnswersWords (items given) status)
given_words (Ok given) items words status is answers = words_answer (items given) words status is answers
given_words (Err error) items words status is answers = tt

-- what holds where all went well holds of the words that were given
pub given_due : {A E R W claim : Type 0} (args : Result A E) (items : A → List (String Global)) (words : List (String Global)) (status : ℕ) → IfOk args (λ given. words ≡ drop 1 (items given)) →
    (map (λ word. string_bytes word) words ≡ codes "run" ∷ [] → ¬ R → ¬ W → status ≢ 5 → claim) → IfOk args (λ given. WhereAllWent (items given) R W status claim)
given_due (Ok given) items words status is due = λ run no_read no_write no_memory.
    due (subst (λ (xs : List (String Global)). map (λ word. string_bytes word) xs ≡ codes "run" ∷ []) (sym is) run) no_read no_write no_memory
given_due (Err error) items words status is due = tt

-- and so where memory was wanting
pub none_due : {A E : Type 0} (R W claim : Type 0) (args : Result A E) (items : A → List (String Global)) (outcome : RunOutcome) → IfOk args (λ given. outcome ≡ plain 5) → IfOk args (λ given. WhereAllWent (items given) R W outcome.status claim)
none_due R W claim (Ok given) items outcome is = λ run no_read no_write no_memory. absurd (no_memory (ap (λ (o : RunOutcome). o.status) is))
none_due R W claim (Err error) items outcome is = tt

-- the program ends with the status of that outcome
pub ends_due : {A E : Type 0} (R W : Type 0) (args : Result A E) (items : A → List (String Global)) (ended : Type 0) (before after : List ℕ) (outcome : RunOutcome) (status : ℕ) → status ≡ outcome.status →
    IfOk args (λ given. WhereAllWent (items given) R W outcome.status (Answers ended before after outcome)) → IfOk args (λ given. WhereAllWent (items given) R W status (EndsAsDue ended before after status))
ends_due R W (Ok given) items ended before after outcome status is due = λ run no_read no_write no_memory.
    record { outcome = outcome; answers = due run no_read no_write (λ five. no_memory (is ∙ five)); is = is }
ends_due R W (Err error) items ended before after outcome status is due = tt
