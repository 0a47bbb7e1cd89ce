use Rattle.std.proofs.Common.{◌≡◌, ℕ, zero, suc, ◌+◌, ◌<◌, List, [], ◌∷◌, ◌++◌, length, map, take, drop, get_or, arith, ap, sym, subst, ◌∙◌}
use Rattle.std.proofs.lemmas.List.{take_more, take-append-drop, length-map, get_or-map}
use Rattle.std.specs.List.{AllByRecursion}
use Rattle.pef_model.specs.Event.{Event}
use Rattle.pef_model.specs.Plan.{Plan, plan_of}
use Rattle.pef_model.specs.Run.{with_directive, run_of}
use Rattle.pef_model.specs.Script.{Line, Script}
use Rattle.pef_script.specs.Line.{ReadLine}
use Rattle.pef_script.specs.Script.{ReadScript, left_script}
use Rattle.pef_io.proofs.SinkLemmas.{on_err_holds}
use Rattle.pef_top.specs.Runs.{FitsIfClean}
use Rattle.pef_top.specs.Text.{Wrote}
use Rattle.pef_top.proofs.RunText.{run_of_lines, run-push, run-append}
use Rattle.pef_top.proofs.Wrote.{part-longer}
use Rattle.pef_top.proofs.run.run_commands.Goals as goal

-- a line without the right number of its pair
abbrev own : ReadLine → Line
own item = item.line

-- a line of a script, at its place
own_at : (items lines : List ReadLine) (item : ReadLine) (line : Line) (i : ℕ) → items ≡ lines → i < length items → item ≡ get_or items i item → line ≡ item.line →
    (i < length (map own lines)) × (line ≡ get_or (map own lines) i line)
own_at items lines item line i same within is at =
    let inside : i < length lines = subst (λ (xs : List ReadLine). i < length xs) same within in
    let here : line ≡ get_or (map own lines) i line = at ∙ ap own (is ∙ ap (λ (xs : List ReadLine). get_or xs i item) same) ∙ sym (get_or-map own lines i item line inside) in
    (omega (arith, inside, length-map lines own), here)

-- the run of the lines so far with one more
run_more : (plan : Plan) (lines : List Line) (line : Line) (i : ℕ) → (i < length lines) × (line ≡ get_or lines i line) →
    run_of_lines plan (take (i + 1) lines) ≡ with_directive plan (run_of_lines plan (take i lines)) line line.directive
run_more plan lines line i at =
    ap (run_of_lines plan) (take_more lines i line at.0 ∙ ap (λ (x : Line). take i lines ++ x ∷ []) (sym at.1)) ∙ run-push plan (take i lines) line

-- each line has one of the CPUs
cpu_below : (cpus : ℕ) (lines : List Line) (line : Line) (i : ℕ) → AllByRecursion (λ (l : Line). l.cpu < cpus) lines → (i < length lines) × (line ≡ get_or lines i line) → line.cpu < cpus
cpu_below cpus [] line i all at = absurd (omega (arith, at.0))
cpu_below cpus (first ∷ more) line zero all at = subst (λ (l : Line). l.cpu < cpus) (sym at.1) all.0
cpu_below cpus (first ∷ more) line (suc i) all at = cpu_below cpus more line i all.1 (omega (arith, at.0), at.1)

-- a first part of this line's entries is one of the whole
pub returns-in_err-run_line-clause-prefix : goal.returns-in_err-run_line-clause-prefix
returns-in_err-run_line-clause-prefix g c =
    let read : ReadScript = c.args.script.now in
    let script : Script = left_script read in
    let plan : Plan = plan_of script.config in
    let i : ℕ = c.loop-line.line-index in
    let line : Line = c.line.inside.line in
    let past : List Event = run_of_lines plan (take i script.lines) in
    let items : c.deref-line-items.result.now ≡ read.lines = c.deref-line-items.ensures.value ∙ ap (λ (s : ReadScript). s.lines) c.script.view_is in
    let pages : script.config.pages ≡ c.script.inside.config.pages = ap (λ (s : ReadScript). s.config.pages) (sym c.script.view_is) in
    let more : run_of_lines plan (take (i + 1) script.lines) ≡ with_directive plan past line line.directive =
    run_more plan script.lines line i (own_at c.deref-line-items.result.now read.lines c.line-item.result line i items c.loop-line-test.true c.line-item.is (ap own c.line.view_is)) in
    let later = run-append plan (take (i + 1) script.lines) (drop (i + 1) script.lines) in
    let whole : run_of script ≡ later.0 ++ with_directive plan past line line.directive =
    ap (run_of_lines plan) (sym (take-append-drop (i + 1) script.lines)) ∙ later.1 ∙ ap (λ (xs : List Event). later.0 ++ xs) more in
    on_err_holds c.from_residual.result
    (part-longer plan (g.K.Sink.given c.args.sink.now) (g.K.Sink.given c.run_line.new.sink) later.0 (with_directive plan past line line.directive) (run_of script) whole
    (c.in_err-run_line.ensures.prefix plan past pages c.loop-line.invariant.fits (g.K.Sink.given c.args.sink.now) c.loop-line.invariant.written))

-- what fits the lines so far, and was written of them, does so with one more line
pub loop-line-preserved : goal.loop-line-preserved
loop-line-preserved g c =
    let read : ReadScript = c.args.script.now in
    let script : Script = left_script read in
    let plan : Plan = plan_of script.config in
    let i : ℕ = c.loop-line.line-index in
    let line : Line = c.line.inside.line in
    let past : List Event = run_of_lines plan (take i script.lines) in
    let items : c.deref-line-items.result.now ≡ read.lines = c.deref-line-items.ensures.value ∙ ap (λ (s : ReadScript). s.lines) c.script.view_is in
    let pages : script.config.pages ≡ c.script.inside.config.pages = ap (λ (s : ReadScript). s.config.pages) (sym c.script.view_is) in
    let more : run_of_lines plan (take (i + 1) script.lines) ≡ with_directive plan past line line.directive =
    run_more plan script.lines line i (own_at c.deref-line-items.result.now read.lines c.line-item.result line i items c.loop-line-test.true c.line-item.is (ap own c.line.view_is)) in
    let start : List ℕ = g.K.Sink.given c.args.sink.now in
    record {
      fits = subst (FitsIfClean g.S.Seal.stands g.S.Seal.image plan c.run_line.new.machine) (sym more) (c.in_ok-run_line.ensures.fits plan past pages c.loop-line.invariant.fits);
      cpus = c.in_ok-run_line.ensures.cpus ∙ c.loop-line.invariant.cpus;
      steps = omega (arith, c.in_ok-run_line.ensures.count, c.loop-line.invariant.steps);
      written = subst (Wrote plan start (g.K.Sink.given c.run_line.new.sink)) (sym more) (c.in_ok-run_line.ensures.all plan past pages c.loop-line.invariant.fits start c.loop-line.invariant.written);
      clean = omega (arith, c.in_ok-run_line.ensures.cause.clean, c.loop-line.invariant.clean);
    }

-- its CPU is one of the machine's
pub run_line-requires-clause-cpu : goal.run_line-requires-clause-cpu
run_line-requires-clause-cpu g c =
    let read : ReadScript = c.args.script.now in
    let script : Script = left_script read in
    let i : ℕ = c.loop-line.line-index in
    let line : Line = c.line.inside.line in
    let items : c.deref-line-items.result.now ≡ read.lines = c.deref-line-items.ensures.value ∙ ap (λ (s : ReadScript). s.lines) c.script.view_is in
    let at = own_at c.deref-line-items.result.now read.lines c.line-item.result line i items c.loop-line-test.true c.line-item.is (ap own c.line.view_is) in
    omega (arith, cpu_below script.config.cpus script.lines line i c.requires.script.cpus at, c.loop-line.invariant.cpus)
