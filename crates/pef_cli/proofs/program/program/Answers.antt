use Rattle.std.proofs.Common.{◌∙◌}
use Rattle.std.specs.Vec.Iter.{into_iter_items}
use Rattle.pef_cli.proofs.Outcomes.{told_part, told_whole, ends_due}
use Rattle.pef_cli.proofs.program.program.Goals as goal

-- the outcome is the one that the call came to, and its line was put
pub returns-clause-told : goal.returns-clause-told
returns-clause-told g c = record {
  outcome = c.run-outcome.result;
  fields = c.run-outcome.ensures.fields;
  status = c.from.ensures;
  fault = c.run-outcome.ensures.fault;
  limit = c.run-outcome.ensures.limit;
  usage = c.deref.result.now;
  alone = λ other. c.deref.ensures.value ∙ c.usage_at-usage.ensures other;
  part = told_part c.put_told.result _ _ _ c.put_told.ensures.all c.put_told.ensures.prefix;
  whole = λ no_fault. told_whole c.put_told.result c.put_told.ensures.all c.put_told.ensures.cause.failed no_fault;
}

-- and its status is the outcome's
pub returns-clause-complete : goal.returns-clause-complete
returns-clause-complete g c =
    ends_due _ _ c.args.args into_iter_items (g.S.Source.ended c.run-outcome.new.source) (g.S.Source.taken c.args.source.now) (g.S.Source.taken c.run-outcome.new.source)
    c.run-outcome.result _ c.from.ensures c.run-outcome.ensures.complete
