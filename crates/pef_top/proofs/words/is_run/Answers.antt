use Rattle.std.proofs.Common.{◌∙◌, codes, ap, sym, ◌∷◌, []}
use Rattle.std.specs.Prelude.{string_bytes}
use Rattle.pef_top.proofs.OneWord.{one_shown, one_tested}
use Rattle.pef_top.proofs.words.is_run.Goals as goal

pub returns-then-words-eq1 : goal.returns-then-words-eq1
returns-then-words-eq1 c =
    one_tested _ c.as_str.result.now (codes "run") c.eq.result
    (one_shown (λ word. string_bytes word) c.args.words.now c.index-words-0.result c.if-words-eq1.true c.index-words-0.is ∙ ap (λ z. z ∷ []) (sym c.as_str.ensures.value))
    c.eq.ensures
