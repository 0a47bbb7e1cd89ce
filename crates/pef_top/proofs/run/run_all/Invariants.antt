use Rattle.std.proofs.Common.{◌≡◌, ℕ, ◌+◌, true, false, List, length}
use Rattle.pef_model.specs.Event.{Event}
use Rattle.pef_model.specs.Plan.{Plan}
use Rattle.pef_model.specs.Run.{with_gos, most_gos}
use Rattle.pef_model.specs.Sound.{is_clean}
use Rattle.pef_model.proofs.GoAll.{gos}
use Rattle.pef_top.specs.Runs.{FitsIfClean}
use Rattle.pef_top.specs.Text.{Writes}
use Rattle.pef_top.proofs.Clean.{IsCutAs}
use Rattle.pef_top.proofs.run.run_all.Given as goal

-- so many `go` were done and written, and none of them ended go* before a digest collision
abbrev pub invariant-loop-done : goal.invariant-loop-done
invariant-loop-done g l = record {
  fits : (plan : Plan) (past : List Event) → plan.pages ≡ l.pages → FitsIfClean g.S.Seal.stands g.S.Seal.image plan l.fn.machine past →
      FitsIfClean g.S.Seal.stands g.S.Seal.image plan l.machine (gos plan l._done past l.line);
  same : (plan : Plan) (past : List Event) (k : ℕ) → plan.pages ≡ l.pages → FitsIfClean g.S.Seal.stands g.S.Seal.image plan l.fn.machine past → is_clean plan (gos plan l._done past l.line) ≡ true →
      l._done + k ≡ most_gos plan → with_gos plan (most_gos plan) past l.line ≡ with_gos plan k (gos plan l._done past l.line) l.line;
  cut : (plan : Plan) (past : List Event) → plan.pages ≡ l.pages → FitsIfClean g.S.Seal.stands g.S.Seal.image plan l.fn.machine past → is_clean plan (gos plan l._done past l.line) ≡ false →
      IsCutAs plan (gos plan l._done past l.line) (with_gos plan (most_gos plan) past l.line);
  written : (plan : Plan) (past : List Event) → plan.pages ≡ l.pages → FitsIfClean g.S.Seal.stands g.S.Seal.image plan l.fn.machine past →
      Writes plan (g.K.Sink.given l.fn.sink) (g.K.Sink.given l.sink) past (gos plan l._done past l.line);
  steps : l.machine.steps ≡ l.fn.machine.steps + l._done;
  cpus : length l.machine.cpus ≡ length l.fn.machine.cpus;
  clean : g.K.Sink.faults l.sink ≡ g.K.Sink.faults l.fn.sink;
}
