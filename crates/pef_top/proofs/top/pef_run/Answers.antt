use Rattle.pef_top.specs.Top.{TookNoScript}
use Rattle.pef_top.proofs.Outcomes.{at_one, at_four, not_three, not_four, fault_outcome, fault_due}
use Rattle.pef_top.proofs.top.pef_run.Goals as goal

pub returns-in-Err-clause-fault : goal.returns-in-Err-clause-fault
returns-in-Err-clause-fault g c =
    rw c.outcome.ensures
    (at_one (TookNoScript (g.S.Source.ended c.run_script.new.source) (g.S.Source.taken c.args.source.now) (g.S.Source.taken c.run_script.new.source)) c.in-Err.fault c.in-Err.ensures.fault)

pub returns-in-Err-clause-begins : goal.returns-in-Err-clause-begins
returns-in-Err-clause-begins g c = rw c.outcome.ensures (at_four c.in-Err.fault c.in-Err.ensures.begins)

pub returns-in-Err-clause-fields : goal.returns-in-Err-clause-fields
returns-in-Err-clause-fields g c = rw c.outcome.ensures (fault_outcome c.in-Err.fault c.in-Err.ensures.over)

pub returns-in-Err-clause-complete : goal.returns-in-Err-clause-complete
returns-in-Err-clause-complete g c = λ run no_read no_write.
    rw c.outcome.ensures
    (fault_due c.in-Err.fault _ _ _ _ _ _ _ c.in-Err.ensures.fault c.in-Err.ensures.read c.in-Err.ensures.write c.in-Err.ensures.limit no_read no_write)

pub returns-in-Err-clause-reads_clean : goal.returns-in-Err-clause-reads_clean
returns-in-Err-clause-reads_clean g c = rw c.outcome.ensures (not_three c.in-Err.fault c.in-Err.ensures.reads_clean)

pub returns-in-Err-clause-writes_clean : goal.returns-in-Err-clause-writes_clean
returns-in-Err-clause-writes_clean g c =
    rw c.outcome.ensures (not_four c.in-Err.fault (λ other. (c.in-Err.ensures.untouched other).faults))
