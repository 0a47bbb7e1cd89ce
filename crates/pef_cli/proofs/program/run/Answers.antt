use Rattle.std.specs.Vec.Iter.{into_iter_items}
use Rattle.pef_cli.proofs.Outcomes.{given_words, given_due, none_due}
use Rattle.pef_cli.proofs.program.run.Goals as goal

-- the words that the call was given are the arguments but the first
pub returns-in-Ok-clause-words : goal.returns-in-Ok-clause-words
returns-in-Ok-clause-words g c =
    given_words c.args.args into_iter_items c.in-Ok.words.items c.pef_run.result.status c.in-Ok.ensures.given
    (rw (← c.deref.ensures.value) c.pef_run.ensures.words)

-- and so is the outcome that is due
pub returns-in-Ok-clause-complete : goal.returns-in-Ok-clause-complete
returns-in-Ok-clause-complete g c =
    given_due c.args.args into_iter_items c.in-Ok.words.items c.pef_run.result.status c.in-Ok.ensures.given
    (rw (← c.deref.ensures.value) c.pef_run.ensures.complete)

pub returns-in-Err-clause-complete : goal.returns-in-Err-clause-complete
returns-in-Err-clause-complete g c = none_due _ _ _ c.args.args into_iter_items c.in-Err.outcome c.in-Err.ensures.given
