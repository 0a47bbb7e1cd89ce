use Rattle.std.proofs.Common.{◌≡◌, ℕ, true, List, ◌++◌, ap, ◌∙◌, append_assoc}
use Rattle.std.proofs.lemmas.Result.{on_err_weaker, on_ok_weaker}
use Rattle.pef_io.specs.Sink.{AppendsPrefix}
use Rattle.pef_io.proofs.SinkLemmas.{on_err_holds, AppendsPrefix-append, AppendsPrefix-after}
use Rattle.pef_model.specs.Event.{Event}
use Rattle.pef_model.specs.History.{pool_after}
use Rattle.pef_model.specs.Plan.{Plan, plan_of}
use Rattle.pef_model.specs.Report.{free_text}
use Rattle.pef_model.specs.Run.{run_of}
use Rattle.pef_model.specs.Script.{Script}
use Rattle.pef_model.specs.Sound.{is_clean}
use Rattle.pef_script.specs.Script.{left_script}
use Rattle.pef_top.specs.Text.{frames_text}
use Rattle.pef_top.proofs.FramesText.{frames_after, frames_text-fits}
use Rattle.pef_top.proofs.ReportText.{report_end, wrote_report, wrote_report_part, lines_of_report}
use Rattle.pef_top.proofs.run.write_report.Goals as goal

-- a prefix of the entries
pub returns-in_err-run_commands-clause-prefix : goal.returns-in_err-run_commands-clause-prefix
returns-in_err-run_commands-clause-prefix g c =
    on_err_holds c.from_residual.result
    (lines_of_report (left_script c.args.script.now) (g.K.Sink.given c.args.sink.now) (g.K.Sink.given c.run_commands.new.sink) c.in_err-run_commands.ensures.prefix)

-- the entries whole, and a prefix of the frames
pub returns-in_err-put_frames-clause-prefix : goal.returns-in_err-put_frames-clause-prefix
returns-in_err-put_frames-clause-prefix g c =
    let script : Script = left_script c.args.script.now in
    let plan : Plan = plan_of script.config in
    let past : List Event = run_of script in
    let frames : List ℕ = frames_text c.run_commands.new.machine.normal.frames in
    let free : List ℕ = free_text (pool_after plan past) in
    let shown : is_clean plan past ≡ true → frames ++ free ≡ report_end plan past =
    λ clean. ap (λ (text : List ℕ). text ++ free) (frames_text-fits g.S.Seal.stands g.S.Seal.image plan c.run_commands.new.machine past (c.in_ok-run_commands.ensures.fits clean)) in
    let middle = g.K.Sink.given c.run_commands.new.sink in
    let new = g.K.Sink.given c.put_frames.new.sink in
    on_err_holds c.from_residual-in_err-put_frames.result
    (wrote_report_part script (g.K.Sink.given c.args.sink.now) middle new (frames ++ free) c.in_ok-run_commands.ensures.all
    (AppendsPrefix-append middle new frames free c.in_err-put_frames.ensures.prefix) shown)

-- the frames whole too, and a prefix of the end
pub returns-clause-prefix : goal.returns-clause-prefix
returns-clause-prefix g c =
    let script : Script = left_script c.args.script.now in
    let plan : Plan = plan_of script.config in
    let past : List Event = run_of script in
    let frames : List ℕ = frames_text c.run_commands.new.machine.normal.frames in
    let free : List ℕ = free_text c.free.result in
    let shown : is_clean plan past ≡ true → frames ++ free ≡ report_end plan past =
    λ clean.
    (ap (λ (text : List ℕ). text ++ free) (frames_text-fits g.S.Seal.stands g.S.Seal.image plan c.run_commands.new.machine past (c.in_ok-run_commands.ensures.fits clean))
    ∙ ap (λ (n : ℕ). frames_after plan past ++ free_text n) (c.free.ensures ∙ (c.in_ok-run_commands.ensures.fits clean).free)) in
    let middle = g.K.Sink.given c.run_commands.new.sink in
    let after = g.K.Sink.given c.put_frames.new.sink in
    let new = g.K.Sink.given c.put_end.new.sink in
    on_err_weaker c.put_end.result
    (λ (part : AppendsPrefix after new free).
    wrote_report_part script (g.K.Sink.given c.args.sink.now) middle new (frames ++ free) c.in_ok-run_commands.ensures.all
    (AppendsPrefix-after middle after new frames free c.in_ok-put_frames.ensures.all part) shown)
    c.put_end.ensures.prefix

-- the entries, the frames and the end whole
pub returns-clause-all : goal.returns-clause-all
returns-clause-all g c =
    let script : Script = left_script c.args.script.now in
    let plan : Plan = plan_of script.config in
    let past : List Event = run_of script in
    let frames : List ℕ = frames_text c.run_commands.new.machine.normal.frames in
    let free : List ℕ = free_text c.free.result in
    let shown : is_clean plan past ≡ true → frames ++ free ≡ report_end plan past =
    λ clean.
    (ap (λ (text : List ℕ). text ++ free) (frames_text-fits g.S.Seal.stands g.S.Seal.image plan c.run_commands.new.machine past (c.in_ok-run_commands.ensures.fits clean))
    ∙ ap (λ (n : ℕ). frames_after plan past ++ free_text n) (c.free.ensures ∙ (c.in_ok-run_commands.ensures.fits clean).free)) in
    let middle = g.K.Sink.given c.run_commands.new.sink in
    let after = g.K.Sink.given c.put_frames.new.sink in
    let new = g.K.Sink.given c.put_end.new.sink in
    on_ok_weaker c.put_end.result
    (λ (end : new ≡ after ++ free).
    wrote_report script (g.K.Sink.given c.args.sink.now) middle new (frames ++ free) c.in_ok-run_commands.ensures.all
    (end ∙ ap (λ (bytes : List ℕ). bytes ++ free) c.in_ok-put_frames.ensures.all ∙ append_assoc middle frames free) shown)
    c.put_end.ensures.all
