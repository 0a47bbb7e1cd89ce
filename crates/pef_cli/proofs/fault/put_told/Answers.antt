use Rattle.std.proofs.Common.{◌≡◌, List, ℕ, ◌++◌, ap, ◌∙◌, append_assoc}
use Rattle.std.proofs.lemmas.Result.{on_err_weaker, on_ok_weaker}
use Rattle.pef_io.specs.Sink.{AppendsPrefix}
use Rattle.pef_io.proofs.SinkLemmas.{on_err_holds, AppendsPrefix-append, AppendsPrefix-after}
use Rattle.pef_top.specs.FaultLine.{fault_text}
use Rattle.pef_cli.proofs.fault.put_told.Goals as goal

-- a first part of the line
pub returns-in_err-put_fault-clause-prefix : goal.returns-in_err-put_fault-clause-prefix
returns-in_err-put_fault-clause-prefix g c =
    on_err_holds c.from_residual.result
    (AppendsPrefix-append (g.K.Sink.given c.args.sink.now) (g.K.Sink.given c.put_fault.new.sink) (fault_text c.args.outcome) c.args.usage.now c.in_err-put_fault.ensures.prefix)

-- the line, and a first part of the text behind it
pub returns-clause-prefix : goal.returns-clause-prefix
returns-clause-prefix g c =
    let middle = g.K.Sink.given c.put_fault.new.sink in
    let new = g.K.Sink.given c.put.new.sink in
    on_err_weaker c.put.result
    (λ (part : AppendsPrefix middle new c.args.usage.now).
    AppendsPrefix-after (g.K.Sink.given c.args.sink.now) middle new (fault_text c.args.outcome) c.args.usage.now c.in_ok-put_fault.ensures.all part)
    c.put.ensures.prefix

-- both
pub returns-clause-all : goal.returns-clause-all
returns-clause-all g c =
    let middle = g.K.Sink.given c.put_fault.new.sink in
    let new = g.K.Sink.given c.put.new.sink in
    let usage : List ℕ = c.args.usage.now in
    on_ok_weaker c.put.result
    (λ (end : new ≡ middle ++ usage). end ∙ ap (λ (bytes : List ℕ). bytes ++ usage) c.in_ok-put_fault.ensures.all ∙ append_assoc (g.K.Sink.given c.args.sink.now) (fault_text c.args.outcome) usage)
    c.put.ensures.all
