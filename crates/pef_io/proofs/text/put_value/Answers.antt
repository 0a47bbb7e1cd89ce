use Rattle.std.proofs.Common.{codes, false, arith}
use Rattle.std.specs.Fmt.{digits}
use Rattle.std.proofs.lemmas.Grind.{common_steps}
use Rattle.pef_io.proofs.SinkLemmas.{on_err_holds, AppendsPrefix-append, AppendsPrefix-after}
use Rattle.pef_io.proofs.text.put_value.Goals as goal

-- the whole `0x` stands before a prefix of the digits
pub returns-clause-prefix : goal.returns-clause-prefix
returns-clause-prefix g c =
    let after = AppendsPrefix-after (g.K.Sink.given c.args.sink.now) (g.K.Sink.given c.put.new.sink) (g.K.Sink.given c.put-2.new.sink) (codes "0x") (digits 16 false c.args.value) c.in_ok-put.ensures.all in
    let digits_part = c.write_hexadecimal-start.ensures.digits in
    grind (arith, common_steps, after)

-- a prefix of `0x` is one of the whole
pub returns-in_err-put-clause-prefix : goal.returns-in_err-put-clause-prefix
returns-in_err-put-clause-prefix g c =
    on_err_holds c.from_residual.result
    (AppendsPrefix-append (g.K.Sink.given c.args.sink.now) (g.K.Sink.given c.put.new.sink) (codes "0x") (digits 16 false c.args.value) c.in_err-put.ensures.prefix)
