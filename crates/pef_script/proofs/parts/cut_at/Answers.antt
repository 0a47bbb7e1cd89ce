use Rattle.std.proofs.Common.{◌==◌, ◌∙◌, sym}
use Rattle.std.proofs.lemmas.List.{take_rest}
use Rattle.pef_script.proofs.CutParts.{parts_without, parts_at}
use Rattle.pef_script.proofs.parts.cut_at.Goals as goal

pub returns-in_err-place-clause-parts : goal.returns-in_err-place-clause-parts
returns-in_err-place-clause-parts c =
    rw c.from_residual.ensures (parts_without (λ b. b == c.args.byte) c.args.text.now (sym c.place_of.ensures ∙ c.in_err-place.was))

pub returns-clause-parts : goal.returns-clause-parts
returns-clause-parts c =
    rw take_rest (parts_at (λ b. b == c.args.byte) c.args.text.now c.in_ok-place.place (sym c.place_of.ensures ∙ c.in_ok-place.was))
