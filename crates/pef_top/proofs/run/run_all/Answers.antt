use Rattle.std.proofs.Common.{◌≡◌, ℕ, suc, ◌+◌, ◌-◌, true, false, List, ◌∷◌, ◌++◌, ap, sym, subst, ◌∙◌, arith}
use Rattle.pef_io.proofs.SinkLemmas.{on_err_holds}
use Rattle.pef_model.specs.declared.command.Cmd.TheVariants.{Go}
use Rattle.pef_model.specs.Event.{Event}
use Rattle.pef_model.specs.Run.{ends_go, entry_after, with_gos, most_gos}
use Rattle.pef_model.specs.Script.{Line}
use Rattle.pef_model.specs.Sound.{is_clean}
use Rattle.pef_model.proofs.GoAll.{gos, first_goes}
use Rattle.pef_core.specs.Steps.{Fits, Makes}
use Rattle.pef_top.specs.Text.{Wrote}
use Rattle.pef_top.proofs.Clean.{clean_parts, clean_whole, IsCutAs, cut_step}
use Rattle.pef_top.proofs.GoSteps.{ends_is, ends_here, goes_on_here, gos-more}
use Rattle.pef_top.proofs.Wrote.{wrote_whole, part_whole}
use Rattle.pef_top.proofs.run.run_all.Goals as goal

-- a `go` with which go* goes on, unless it comes after a clash
pub loop-done-preserved : goal.loop-done-preserved
loop-done-preserved g c =
    let n : ℕ = c.loop-done._done in
    let line : Line = c.args.line.now in
    let at : c.line.inside.cpu ≡ line.cpu = ap (λ (l : Line). l.cpu) c.line.view_is in
    record {
      fits = λ plan past pages fits clean.
          let here : List Event = gos plan n past line in
          let parts = clean_parts plan here (entry_after plan here line Go) (ap (is_clean plan) (sym (gos-more plan n past line)) ∙ clean) in
          subst (Fits g.S.Seal.stands g.S.Seal.image plan c.run_once.new.machine) (sym (gos-more plan n past line))
          (c.in_ok-answer.ensures.made plan here (c.loop-done.invariant.fits plan past pages fits parts.0) parts.1).fits;
      same = λ plan past k pages fits clean most.
          let here : List Event = gos plan n past line in
          let parts = clean_parts plan here (entry_after plan here line Go) (ap (is_clean plan) (sym (gos-more plan n past line)) ∙ clean) in
          let made = c.in_ok-answer.ensures.made plan here (c.loop-done.invariant.fits plan past pages fits parts.0) parts.1 in
          let on : ends_go (entry_after plan here line Go) ≡ false =
          sym (ends_is g.S.Seal.stands g.S.Seal.image plan c.run_once.new.machine here line c.in_ok-answer.answer c.ends_all.result c.line.inside.cpu at (omega arith) c.ends_all.ensures made)
          ∙ c.if-ends_all.false in
          c.loop-done.invariant.same plan past (suc k) pages fits parts.0 (omega (arith, most)) ∙ goes_on_here plan here line k on
          ∙ ap (λ (xs : List Event). with_gos plan k xs line) (sym (gos-more plan n past line));
      cut = λ plan past pages fits unclean.
          let here : List Event = gos plan n past line in
          let e : Event = entry_after plan here line Go in
          let whole : List Event = with_gos plan (most_gos plan) past line in
          let k : ℕ = plan.pages + 4 - (n + 1) in
          let goes : is_clean plan here ≡ true → (block : List Event) × (whole ≡ block ++ (e ∷ here)) =
          λ clean. ((first_goes plan k here line).0, c.loop-done.invariant.same plan past (suc k) pages fits clean (omega (arith, pages, c.loop-done-test.true)) ∙ (first_goes plan k here line).1) in
          subst (λ (xs : List Event). IsCutAs plan xs whole) (sym (gos-more plan n past line))
          (cut_step plan here whole e goes (c.loop-done.invariant.cut plan past pages fits) (ap (is_clean plan) (sym (gos-more plan n past line)) ∙ unclean));
      written = λ plan past pages fits start before.
          subst (Wrote plan start (g.K.Sink.given c.run_once.new.sink)) (sym (gos-more plan n past line))
          (c.in_ok-answer.ensures.all plan (gos plan n past line) (c.loop-done.invariant.fits plan past pages fits) start (c.loop-done.invariant.written plan past pages fits start before));
      steps = omega (arith, c.in_ok-answer.ensures.count, c.loop-done.invariant.steps);
      cpus = c.in_ok-answer.ensures.cpus ∙ c.loop-done.invariant.cpus;
      clean = omega (arith, c.in_ok-answer.ensures.cause.clean, c.loop-done.invariant.clean);
    }

-- a `go` with which go* ends, unless it comes after a clash
pub returns-then-ends_all-clause-fits : goal.returns-then-ends_all-clause-fits
returns-then-ends_all-clause-fits g c = λ plan past pages fits clean.
    let n : ℕ = c.loop-done._done in
    let line : Line = c.args.line.now in
    let at : c.line.inside.cpu ≡ line.cpu = ap (λ (l : Line). l.cpu) c.line.view_is in
    let k : ℕ = plan.pages + 4 - (n + 1) in
    let here : List Event = gos plan n past line in
    let e : Event = entry_after plan here line Go in
    let whole : List Event = with_gos plan (most_gos plan) past line in
    let most : n + suc k ≡ most_gos plan = omega (arith, pages, c.loop-done-test.true) in
    let goes : is_clean plan here ≡ true → (block : List Event) × (whole ≡ block ++ (e ∷ here)) =
    λ before. ((first_goes plan k here line).0, c.loop-done.invariant.same plan past (suc k) pages fits before most ∙ (first_goes plan k here line).1) in
    let parts = clean_parts plan here e (clean_whole plan (e ∷ here) whole (cut_step plan here whole e goes (c.loop-done.invariant.cut plan past pages fits)) clean) in
    let made : Makes g.S.Seal.stands g.S.Seal.image plan c.run_once.new.machine here e c.in_ok-answer.answer =
    c.in_ok-answer.ensures.made plan here (c.loop-done.invariant.fits plan past pages fits parts.0) parts.1 in
    let ends : ends_go e ≡ true =
    sym (ends_is g.S.Seal.stands g.S.Seal.image plan c.run_once.new.machine here line c.in_ok-answer.answer c.ends_all.result c.line.inside.cpu at (omega arith) c.ends_all.ensures made)
    ∙ c.if-ends_all.true in
    subst (Fits g.S.Seal.stands g.S.Seal.image plan c.run_once.new.machine)
    (sym (c.loop-done.invariant.same plan past (suc k) pages fits parts.0 most ∙ ends_here plan here line k ends)) made.fits

pub returns-then-ends_all-clause-all : goal.returns-then-ends_all-clause-all
returns-then-ends_all-clause-all g c = λ plan past pages fits start before.
    let n : ℕ = c.loop-done._done in
    let line : Line = c.args.line.now in
    let at : c.line.inside.cpu ≡ line.cpu = ap (λ (l : Line). l.cpu) c.line.view_is in
    let k : ℕ = plan.pages + 4 - (n + 1) in
    let here : List Event = gos plan n past line in
    let e : Event = entry_after plan here line Go in
    let whole : List Event = with_gos plan (most_gos plan) past line in
    let most : n + suc k ≡ most_gos plan = omega (arith, pages, c.loop-done-test.true) in
    let goes : is_clean plan here ≡ true → (block : List Event) × (whole ≡ block ++ (e ∷ here)) =
    λ clean. ((first_goes plan k here line).0, c.loop-done.invariant.same plan past (suc k) pages fits clean most ∙ (first_goes plan k here line).1) in
    let same : is_clean plan (e ∷ here) ≡ true → whole ≡ e ∷ here =
    λ clean.
    (let parts = clean_parts plan here e clean in
    let made : Makes g.S.Seal.stands g.S.Seal.image plan c.run_once.new.machine here e c.in_ok-answer.answer =
    c.in_ok-answer.ensures.made plan here (c.loop-done.invariant.fits plan past pages fits parts.0) parts.1 in
    let ends : ends_go e ≡ true =
    sym (ends_is g.S.Seal.stands g.S.Seal.image plan c.run_once.new.machine here line c.in_ok-answer.answer c.ends_all.result c.line.inside.cpu at (omega arith) c.ends_all.ensures made)
    ∙ c.if-ends_all.true in
    c.loop-done.invariant.same plan past (suc k) pages fits parts.0 most ∙ ends_here plan here line k ends) in
    wrote_whole plan start (g.K.Sink.given c.run_once.new.sink) (e ∷ here) whole same (cut_step plan here whole e goes (c.loop-done.invariant.cut plan past pages fits))
    (c.in_ok-answer.ensures.all plan here (c.loop-done.invariant.fits plan past pages fits) start (c.loop-done.invariant.written plan past pages fits start before))

-- the most are done
pub returns-clause-fits : goal.returns-clause-fits
returns-clause-fits g c = λ plan past pages fits clean.
    let here : List Event = gos plan c.loop-done._done past c.args.line.now in
    let whole : List Event = with_gos plan (most_gos plan) past c.args.line.now in
    let before : is_clean plan here ≡ true = clean_whole plan here whole (c.loop-done.invariant.cut plan past pages fits) clean in
    subst (Fits g.S.Seal.stands g.S.Seal.image plan c.loop-done.machine) (sym (c.loop-done.invariant.same plan past 0 pages fits before (omega (arith, pages))))
    (c.loop-done.invariant.fits plan past pages fits before)

pub returns-clause-all : goal.returns-clause-all
returns-clause-all g c = λ plan past pages fits start before.
    let here : List Event = gos plan c.loop-done._done past c.args.line.now in
    let whole : List Event = with_gos plan (most_gos plan) past c.args.line.now in
    let most : c.loop-done._done + 0 ≡ most_gos plan = omega (arith, pages) in
    wrote_whole plan start (g.K.Sink.given c.loop-done.sink) here whole (λ clean. c.loop-done.invariant.same plan past 0 pages fits clean most) (c.loop-done.invariant.cut plan past pages fits)
    (c.loop-done.invariant.written plan past pages fits start before)

-- a first part of the next line is one of the whole
pub returns-in_err-answer-clause-prefix : goal.returns-in_err-answer-clause-prefix
returns-in_err-answer-clause-prefix g c = λ plan past pages fits.
    let n : ℕ = c.loop-done._done in
    let line : Line = c.args.line.now in
    let k : ℕ = plan.pages + 4 - (n + 1) in
    let here : List Event = gos plan n past line in
    let e : Event = entry_after plan here line Go in
    let whole : List Event = with_gos plan (most_gos plan) past line in
    let most : n + suc k ≡ most_gos plan = omega (arith, pages, c.loop-done-test.true) in
    let goes : is_clean plan here ≡ true → (block : List Event) × (whole ≡ block ++ (e ∷ here)) =
    λ clean. ((first_goes plan k here line).0, c.loop-done.invariant.same plan past (suc k) pages fits clean most ∙ (first_goes plan k here line).1) in
    on_err_holds c.from_residual.result
    (λ start before. part_whole plan start (g.K.Sink.given c.run_once.new.sink) here whole e goes (c.loop-done.invariant.cut plan past pages fits)
    (c.in_err-answer.ensures.prefix plan here (c.loop-done.invariant.fits plan past pages fits) start (c.loop-done.invariant.written plan past pages fits start before)))
