use Rattle.std.proofs.Common.{ap, ◌∙◌}
use Rattle.std.proofs.lemmas.Iterator.{items_from_collect}
use Rattle.std.proofs.lemmas.Iterator.Adapters.{YieldsList-from_vec, YieldsList-from_skip}
use Rattle.std.specs.Vec.Iter.{into_iter_items}
use Rattle.pef_cli.proofs.words.words_after_name.Goals as goal

-- the arguments come one after another, and the first is passed over
pub returns : goal.returns
returns c =
    items_from_collect c.collect.result c.collect.ensures.ran
    (YieldsList-from_skip 1 (YieldsList-from_vec (into_iter_items c.args.args) (ap into_iter_items c.skip.ensures.source)
    (ap (λ args. args.rest.len) c.skip.ensures.source ∙ c.args.args.rest.ok.0)) c.skip.ensures.count)
