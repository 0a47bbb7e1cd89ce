use Rattle.std.proofs.Common.{ℕ, ◌<◌, List, ◌++◌, length, arith}
use Rattle.pef_io.specs.Sink.{AppendsPrefix}
use Rattle.pef_io.proofs.SinkLemmas.{on_err_holds, AppendsPrefix-append, AppendsPrefix-after}
use Rattle.pef_model.specs.Report.{frame_line, frames_below}
use Rattle.pef_core.specs.Normal.{frame_at}
use Rattle.pef_top.proofs.FramesText.{frames_below-split}
use Rattle.pef_top.proofs.run.put_frames.Goals as goal

-- the lines of the frames below this one, and a prefix of this one's
pub returns-in_err-put_frame-clause-prefix : goal.returns-in_err-put_frame-clause-prefix
returns-in_err-put_frame-clause-prefix g c =
    let frames : List (List ℕ) = c.args.machine.now.normal.frames in
    let n : ℕ = c.loop-number.number in
    let within : n < length frames = omega (arith, c.normal-number-end.ensures, c.loop-number-test.true) in
    let split = frames_below-split (length frames) n (frame_at frames) within in
    let old = g.K.Sink.given c.args.sink.now in
    let middle = g.K.Sink.given c.loop-number.sink in
    let new = g.K.Sink.given c.put_frame.new.sink in
    let part : AppendsPrefix middle new (frame_line n (frame_at frames n)) = rw (← c.frame.ensures, ← c.bytes.ensures) c.in_err-put_frame.ensures.prefix in
    on_err_holds c.from_residual.result
    (rw split.1
    (AppendsPrefix-after old middle new (frames_below n (frame_at frames)) (frame_line n (frame_at frames n) ++ split.0) c.loop-number.invariant.written
    (AppendsPrefix-append middle new (frame_line n (frame_at frames n)) split.0 part)))
