use Rattle.std.proofs.Common.{◌≡◌, ◌++◌, take}
use Rattle.pef_io.specs.Text.{joined}
use Rattle.pef_io.proofs.text.put_all.Given as goal

abbrev pub invariant-loop-piece : goal.invariant-loop-piece
invariant-loop-piece g l = record {
  given : g.K.Sink.given l.sink ≡ g.K.Sink.given l.fn.sink ++ joined (take l.piece-index l.pieces);
  clean : g.K.Sink.faults l.sink ≡ g.K.Sink.faults l.fn.sink;
}
