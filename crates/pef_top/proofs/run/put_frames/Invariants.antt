use Rattle.std.proofs.Common.{◌≡◌, ◌++◌}
use Rattle.pef_model.specs.Report.{frames_below}
use Rattle.pef_core.specs.Normal.{frame_at}
use Rattle.pef_top.proofs.run.put_frames.Given as goal

-- the lines of the frames below this one were written
abbrev pub invariant-loop-number : goal.invariant-loop-number
invariant-loop-number g l = record {
  written : g.K.Sink.given l.sink ≡ g.K.Sink.given l.fn.sink ++ frames_below l.number (frame_at l.machine.normal.frames);
  clean : g.K.Sink.faults l.sink ≡ g.K.Sink.faults l.fn.sink;
}
