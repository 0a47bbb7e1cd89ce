use Rattle.std.proofs.Common.{arith}
use Rattle.std.proofs.lemmas.Grind.{common_steps}
use Rattle.pef_io.proofs.SinkLemmas.{given-more}
use Rattle.pef_io.proofs.text.put.Goals as goal

-- the bytes of this write are the next ones of the text
pub loop-done-preserved : goal.loop-done-preserved
loop-done-preserved g c = record {
  within = grind (arith, common_steps);
  given =
      given-more (g.K.Sink.given c.args.sink.now) (g.K.Sink.given c.loop-done.sink) _ c.args.text.now c.loop-done.done c.in_ok-done.field-0
      c.loop-done.invariant.given c.in_ok-done.ensures.bytes;
  clean = omega (arith, c.in_ok-done.ensures.cause.clean, c.loop-done.invariant.clean);
}
