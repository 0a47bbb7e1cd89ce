use Rattle.std.proofs.Common.{◌≡◌, ◌+◌, ◌<◌, ℕ, List, [], ◌++◌, length, take, drop, get_or, Bor, sym, ap, ◌∙◌, add-one}
use Rattle.std.proofs.Math.Seq.{drop-cons}
use Rattle.std.proofs.lemmas.List.{take-append-drop}
use Rattle.std.proofs.lemmas.Grind.{flat_map-append}
use Rattle.pef_io.specs.Sink.{AppendsPrefix}
use Rattle.pef_io.specs.Text.{joined}
use Rattle.pef_io.proofs.SinkLemmas.{on_err_holds, AppendsPrefix-append, AppendsPrefix-after}
use Rattle.pef_io.proofs.text.put_all.Goals as goal

-- the pieces written so far, the one that failed, and those after it
pieces_split : (pieces : List (Bor (List ℕ))) (i : ℕ) (d : Bor (List ℕ)) → i < length pieces →
    joined pieces ≡ joined (take i pieces) ++ ((get_or pieces i d).now ++ joined (drop (i + 1) pieces))
pieces_split pieces i d within =
    ap joined (sym (take-append-drop i pieces))
    ∙ flat_map-append (λ (x : Bor (List ℕ)). x.now) (take i pieces) (drop i pieces)
    ∙ ap (λ (xs : List (Bor (List ℕ))). joined (take i pieces) ++ joined xs) (drop-cons pieces i d within)
    ∙ ap (λ (n : ℕ). joined (take i pieces) ++ ((get_or pieces i d).now ++ joined (drop n pieces))) (sym (add-one i))

-- the pieces before the one that failed were written whole, and of it a prefix
pub returns-in_err-put-clause-prefix : goal.returns-in_err-put-clause-prefix
returns-in_err-put-clause-prefix g c =
    let pieces : List (Bor (List ℕ)) = c.args.pieces.now in
    let i : ℕ = c.loop-piece.piece-index in
    let none : Bor (List ℕ) = record { ref_ptr = (0, 0); now = [] } in
    let failed : AppendsPrefix (g.K.Sink.given c.loop-piece.sink) (g.K.Sink.given c.put.new.sink) (get_or pieces i none).now = c.in_err-put.ensures.prefix in
    let within : i < length pieces = c.loop-piece-test.true in
    on_err_holds c.from_residual.result
    (rw (pieces_split pieces i none within)
    (AppendsPrefix-after (g.K.Sink.given c.args.sink.now) (g.K.Sink.given c.loop-piece.sink) (g.K.Sink.given c.put.new.sink) (joined (take i pieces))
    ((get_or pieces i none).now ++ joined (drop (i + 1) pieces)) c.loop-piece.invariant.given
    (AppendsPrefix-append (g.K.Sink.given c.loop-piece.sink) (g.K.Sink.given c.put.new.sink) (get_or pieces i none).now (joined (drop (i + 1) pieces)) failed)))
