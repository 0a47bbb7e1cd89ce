-- Texts that are written one after another.
use Rattle.std.proofs.Common.{◌≡◌, ◌+◌, ℕ, List, ◌++◌, length, take, Result, Ok, Err, ap, sym, ◌∙◌, arith, append_assoc, take-add, drop, ◌-◌, length-append}
use Rattle.std.specs.Prelude.{OnErr}
use Rattle.std.proofs.lemmas.Grind.{common_steps}
use Rattle.std.proofs.Math.Seq.{take-append-add}
use Rattle.std.proofs.lemmas.List.{take-append-le}
use Rattle.pef_io.specs.Sink.{AppendsPrefix}

-- what holds holds at an error
pub on_err_holds : {T E P : Type 0} (r : Result T E) → P → OnErr r P
on_err_holds (Ok value) fact = tt
on_err_holds (Err failure) fact = fact

-- after a write of what is left of a text, more of its front was written
pub given-more : (old before now text : List ℕ) (done count : ℕ) → before ≡ old ++ take done text
    → now ≡ before ++ take count (take (length text - done) (drop done text)) → now ≡ old ++ take (done + count) text
given-more old before now text done count front next =
    let rest : take (length text - done) (drop done text) ≡ drop done text = grind (arith, common_steps) in
    next ∙ ap (λ (bytes : List ℕ). before ++ take count bytes) rest
    ∙ ap (λ (bytes : List ℕ). bytes ++ take count (drop done text)) front
    ∙ append_assoc old (take done text) (take count (drop done text))
    ∙ ap (λ (bytes : List ℕ). old ++ bytes) (sym (take-add done count text))

-- a prefix of the first text is one of the whole
pub AppendsPrefix-append : (old new first second : List ℕ) → AppendsPrefix old new first → AppendsPrefix old new (first ++ second)
AppendsPrefix-append old new first second part = record {
  count = part.count;
  within = omega (arith, length-append first second);
  bytes = rw (take-append-le part.count first second part.within) part.bytes;
}

-- after the first text, a prefix of the second ends a prefix of the whole
pub AppendsPrefix-after : (old middle new first second : List ℕ) → middle ≡ old ++ first → AppendsPrefix middle new second → AppendsPrefix old new (first ++ second)
AppendsPrefix-after old middle new first second whole part = record {
  count = length first + part.count;
  within = omega (arith, length-append first second);
  bytes =
      part.bytes ∙ ap (λ (bytes : List ℕ). bytes ++ take part.count second) whole
      ∙ append_assoc old first (take part.count second)
      ∙ ap (λ (bytes : List ℕ). old ++ bytes) (sym (take-append-add first second part.count));
}
